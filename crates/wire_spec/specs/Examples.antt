-- Datagrams of the worked examples.
use Rattle.std.specs.Prelude.{ℕ, List, [], ◌∷◌, ◌++◌, flat_map, replicate}
use Rattle.std.specs.Int.{w32, to_be_bytes}
use Rattle.wire_spec.specs.Shapes.{Tree, known, Trees, none, ◌&◌}
use Rattle.wire_spec.specs.Heads.{ipv4, Head, datagram_tree}

-- words, one after the other
abbrev pub words : List ℕ → List ℕ
words ns = flat_map (λ n. to_be_bytes w32 n) ns

-- agent 10.0.0.1, sub-agent 0, this sequence number, uptime 1,000 ms
abbrev pub example_head : ℕ → Head
example_head sequence =
    record { agent = ipv4 (10 ∷ 0 ∷ 0 ∷ 1 ∷ []); sub_agent = 0; sequence = sequence; uptime = 1000 }

-- its words, with the version, the kind of the address and the number of samples
abbrev pub head_words : ℕ → ℕ → List ℕ
head_words sequence samples = 5 ∷ 1 ∷ 0x0a000001 ∷ 0 ∷ sequence ∷ 1000 ∷ samples ∷ []

-- a datagram without samples, 28 bytes
abbrev pub empty_datagram : ℕ → List ℕ
empty_datagram sequence = words (head_words sequence 0)

-- format 1, the length of the body, and then sequence number 1, source 0:5, rate 256, pool 512, drops 0, input 5,
-- output 6 and the number of records
abbrev pub flow_words : ℕ → ℕ → List ℕ
flow_words length records = 1 ∷ length ∷ 1 ∷ 5 ∷ 256 ∷ 512 ∷ 0 ∷ 5 ∷ 6 ∷ records ∷ []

abbrev pub flow_tree : Trees → Tree
flow_tree records = known 1 (Tree.structure (
    Tree.word 1 & Tree.word 5 & Tree.word 256 & Tree.word 512 & Tree.word 0 & Tree.word 5 & Tree.word 6 &
    Tree.array records & none)) []

-- a datagram of one flow sample with no records, 68 bytes
abbrev pub flow_datagram : List ℕ
flow_datagram = words (head_words 1 1 ++ flow_words 32 0)

-- the body of the first of two samples ends with a record that says 8 bytes and has none, 116 bytes in all
abbrev pub cut_record : List ℕ
cut_record = words (head_words 1 2 ++ flow_words 40 1 ++ 1 ∷ 8 ∷ [] ++ flow_words 32 0)

-- a sampled header of 65 bytes whose padding is 1, 2, 3; 160 bytes in all
abbrev pub padded_header : List ℕ
padded_header =
    words (head_words 1 1 ++ flow_words 124 1 ++ 1 ∷ 84 ∷ 1 ∷ 65 ∷ 0 ∷ 65 ∷ []) ++ replicate 65 255 ++ 1 ∷ 2 ∷ 3 ∷ []

abbrev pub padded_header_tree : Tree
padded_header_tree = datagram_tree (example_head 1) (
    flow_tree (known 1 (Tree.structure (
    Tree.word 1 & Tree.word 65 & Tree.word 0 & Tree.opaque (replicate 65 255) & none)) [] & none) & none)

-- a gateway record whose first path segment is of this kind, 136 bytes in all
abbrev pub gateway_datagram : ℕ → List ℕ
gateway_datagram kind = words (
    head_words 1 1 ++ flow_words 100 1 ++
    1003 ∷ 60 ∷ 1 ∷ 0x0a000009 ∷ 65000 ∷ 65001 ∷ 65002 ∷ 2 ∷ kind ∷ 2 ∷ 65003 ∷ 65004 ∷ 2 ∷ 1 ∷ 65010 ∷ 0 ∷ 100 ∷ [])
