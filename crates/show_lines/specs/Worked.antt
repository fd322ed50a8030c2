-- Entries that arrived at 1,000 ms, and their lines.
use Rattle.std.specs.Prelude.{ℕ, List, [], ◌∷◌, ◌++◌, codes, take}
use Rattle.wire_spec.specs.Captures.{Entry}
use Rattle.wire_spec.specs.Examples.{words, head_words, empty_datagram, flow_datagram}

abbrev pub arrived : List ℕ → Entry
arrived bytes = record { arrival = 1000; bytes = bytes }

abbrev pub one_sample : List ℕ
one_sample = codes "datagram agent 10.0.0.1 sub 0 seq 1 uptime 1000 samples 1\n"

-- a flow sample with no records
abbrev pub flow_entry : Entry
flow_entry = arrived flow_datagram

abbrev pub flow_lines : List ℕ
flow_lines =
    codes "entry 1 at 1000 bytes 68\n" ++ one_sample ++
    codes " flow seq 1 source 0:5 rate 256 pool 512 drops 0 in 0:5 out 0:6 records 0\n"

-- the same in the expanded form, with an index of 2^24
abbrev pub expanded_entry : Entry
expanded_entry = arrived (words (
    head_words 1 1 ++ 3 ∷ 44 ∷ 1 ∷ 0 ∷ 16777216 ∷ 256 ∷ 512 ∷ 0 ∷ 0 ∷ 5 ∷ 0 ∷ 6 ∷ 0 ∷ []))

abbrev pub expanded_lines : List ℕ
expanded_lines =
    codes "entry 1 at 1000 bytes 80\n" ++ one_sample ++
    codes " flowx seq 1 source 0:16777216 rate 256 pool 512 drops 0 in 0:5 out 0:6 records 0\n"

-- a datagram without its last byte
abbrev pub cut_entry : Entry
cut_entry = arrived (take 27 (empty_datagram 1))

abbrev pub cut_lines : List ℕ
cut_lines = codes "entry 2 at 1000 bytes 27\nfault at 24 kind short\n"

-- a counters sample with a record of another format and a tail
abbrev pub tail_entry : Entry
tail_entry = arrived (words (
    head_words 1 1 ++ 2 ∷ 28 ∷ 9 ∷ 0x02000005 ∷ 1 ∷ 0x0113d007 ∷ 3 ∷ 0xaabbcc00 ∷ 0xdeadbeef ∷ []))

abbrev pub tail_lines : List ℕ
tail_lines =
    codes "entry 1 at 1000 bytes 64\n" ++ one_sample ++
    codes " counters seq 9 source 2:5 records 1 tail deadbeef\n" ++
    codes "  record 4413:7 bytes 3 aabbcc\n"

-- a sample of another format
abbrev pub other_entry : Entry
other_entry = arrived (words (head_words 1 1 ++ 0x0113d007 ∷ 3 ∷ 0xaabbcc00 ∷ []))

abbrev pub other_lines : List ℕ
other_lines =
    codes "entry 1 at 1000 bytes 40\n" ++ one_sample ++ codes " sample 4413:7 bytes 3 aabbcc\n"
