-- What arrives of the worked history, word by word (sFlow Version 5, section 5; RFC 4506, section 4.2). Entries have the
-- LATEST FIRST.
use Rattle.std.specs.Prelude.{ℕ, List, [], ◌∷◌, flat_map}
use Rattle.std.specs.Int.{w32, to_be_bytes}
use Rattle.wire_spec.specs.Captures.{Entry}

abbrev pub in_words : ℕ → List ℕ → Entry
in_words arrival words = record { arrival = arrival; bytes = flat_map (to_be_bytes w32) words }

-- version 5 and the agent 10.0.0.1 with its sub-agent 0; then the number, the uptime, how many samples, and these
abbrev pub headed : ℕ → ℕ → ℕ → List ℕ → List ℕ
headed number uptime count samples = 5 ∷ 1 ∷ 167772161 ∷ 0 ∷ number ∷ uptime ∷ count ∷ samples

-- a flow sample of 56 bytes: its number, the source 0:5, the rate 1, pool and drops, the ports 1 and 2, and one record of 16
-- bytes, of an Ethernet frame of 64 bytes without its check sequence of 4, of which none is shown; and more samples
abbrev pub flow_words : ℕ → ℕ → ℕ → List ℕ → List ℕ
flow_words number pool drops more =
    1 ∷ 56 ∷ number ∷ 5 ∷ 1 ∷ pool ∷ drops ∷ 1 ∷ 2 ∷ 1 ∷ 1 ∷ 16 ∷ 1 ∷ 64 ∷ 4 ∷ 0 ∷ more

-- a counters sample of 108 bytes: its number, the source 0:5, and one record of 88 bytes, of an interface of index 1 and type
-- 6 with 1 Gbit/s, full duplex, up, of which nothing is counted, and which isn't promiscuous
abbrev pub counters_words : ℕ → List ℕ
counters_words number =
    2 ∷ 108 ∷ number ∷ 5 ∷ 1 ∷ 1 ∷ 88 ∷ 1 ∷ 6 ∷ 0 ∷ 1000000000 ∷ 1 ∷ 3
    ∷ 0 ∷ 0 ∷ 0 ∷ 0 ∷ 0 ∷ 0 ∷ 0 ∷ 0 ∷ 0 ∷ 0 ∷ 0 ∷ 0 ∷ 0 ∷ 0 ∷ 0 ∷ 2 ∷ []

-- numbers, pools and drops as words: 4294967296 is shown as 0
abbrev pub whole_entries : List Entry
whole_entries =
    in_words 5000100200 (headed 4 95000 1 (flow_words 0 1 4294967295 []))
    ∷ in_words 5000100000 (headed 4294967295 700 1 (flow_words 4294967294 4294967295 4294967295 []))
    ∷ in_words 5000095400 (headed 4 95000 1 (flow_words 0 1 4294967295 []))
    ∷ in_words 5000001600 (headed 2 1300 2 (flow_words 4294967294 4294967295 4294967295 (counters_words 0)))
    ∷ in_words 5000000650 (headed 0 100 2 (flow_words 4294967295 0 4294967295 (flow_words 0 1 4294967295 [])))
    ∷ in_words 5000000600 (headed 0 100 2 (flow_words 4294967295 0 4294967295 (flow_words 0 1 4294967295 [])))
    ∷ in_words 5000000500 (headed 1 200 1 (flow_words 1 3 0 []))
    ∷ in_words 5000000000
    (headed 4294967295 4294967000 2 (flow_words 4294967294 4294967295 4294967295 (counters_words 4294967295))) ∷ []
