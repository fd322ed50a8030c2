-- A datagram with every record of the standard's tables, and its value.
use Rattle.std.specs.Prelude.{ℕ, List, [], ◌∷◌, ◌++◌}
use Rattle.wire_spec.specs.Shapes.{Tree, known, other, Trees, none, ◌&◌}
use Rattle.wire_spec.specs.Heads.{datagram_tree}
use Rattle.wire_spec.specs.Examples.{words, example_head, head_words}

-- ---- flow records, each as its words: the format, the length of the body, the body

abbrev pub flow_record_words : List ℕ
flow_record_words =
    1 ∷ 20 ∷ 1 ∷ 64 ∷ 4 ∷ 4 ∷ 0xffffffff ∷ [] ++
    2 ∷ 24 ∷ 64 ∷ 0x02000000 ∷ 0x00010000 ∷ 0x02000000 ∷ 0x00020000 ∷ 0x0800 ∷ [] ++
    3 ∷ 32 ∷ 60 ∷ 6 ∷ 0x0a000001 ∷ 0x0a000002 ∷ 8080 ∷ 443 ∷ 0x12 ∷ 7 ∷ [] ++
    4 ∷ 56 ∷ 60 ∷ 17 ∷ 0x20010db8 ∷ 0 ∷ 0 ∷ 1 ∷ 0x20010db8 ∷ 0 ∷ 0 ∷ 2 ∷ 53 ∷ 5353 ∷ 1 ∷ 7 ∷ [] ++
    1001 ∷ 16 ∷ 100 ∷ 1 ∷ 200 ∷ 2 ∷ [] ++
    1002 ∷ 28 ∷ 2 ∷ 0x20010db8 ∷ 0 ∷ 0 ∷ 9 ∷ 24 ∷ 16 ∷ [] ++
    1003 ∷ 60 ∷ 0 ∷ 65000 ∷ 65001 ∷ 65002 ∷ 2 ∷ 2 ∷ 2 ∷ 65003 ∷ 65004 ∷ 1 ∷ 1 ∷ 65010 ∷ 1 ∷ 9 ∷ 100 ∷ [] ++
    1004 ∷ 20 ∷ 3 ∷ 3 ∷ 0x61626300 ∷ 4 ∷ 0 ∷ [] ++
    1005 ∷ 20 ∷ 2 ∷ 4 ∷ 0x2f613f62 ∷ 3 ∷ 0x782e7900 ∷ [] ++
    1006 ∷ 32 ∷ 1 ∷ 0x0a000009 ∷ 2 ∷ 74565 ∷ 16 ∷ 1 ∷ 17 ∷ 0xdeadbeef ∷ [] ++
    1007 ∷ 28 ∷ 1 ∷ 0x0a000001 ∷ 2 ∷ 0x20010db8 ∷ 0 ∷ 0 ∷ 9 ∷ [] ++
    0x0113d007 ∷ 4 ∷ 0xaabbcc00 ∷ []

abbrev pub ipv6_bytes : ℕ → List ℕ
ipv6_bytes last = 32 ∷ 1 ∷ 13 ∷ 184 ∷ 0 ∷ 0 ∷ 0 ∷ 0 ∷ 0 ∷ 0 ∷ 0 ∷ 0 ∷ 0 ∷ 0 ∷ 0 ∷ last ∷ []

abbrev pub mac_bytes : ℕ → List ℕ
mac_bytes last = 2 ∷ 0 ∷ 0 ∷ 0 ∷ 0 ∷ last ∷ []

-- 2001:db8::9
abbrev pub next_hop : Tree
next_hop = Tree.union 2 (Tree.fixed (ipv6_bytes 9))

abbrev pub unknown_hop : Tree
unknown_hop = Tree.union 0 (Tree.structure none)

-- a sequence of two AS numbers, and then a set of one
abbrev pub as_path : Tree
as_path = Tree.array (
    Tree.union 2 (Tree.array (Tree.word 65003 & Tree.word 65004 & none)) &
    Tree.union 1 (Tree.array (Tree.word 65010 & none)) & none)

abbrev pub flow_record_trees : Trees
flow_record_trees =
    known 1 (Tree.structure (
    Tree.word 1 & Tree.word 64 & Tree.word 4 & Tree.opaque (255 ∷ 255 ∷ 255 ∷ 255 ∷ []) & none)) [] &
    known 2 (Tree.structure (
    Tree.word 64 & Tree.fixed (mac_bytes 1) & Tree.fixed (mac_bytes 2) & Tree.word 2048 & none)) [] &
    known 3 (Tree.structure (
    Tree.word 60 & Tree.word 6 & Tree.fixed (10 ∷ 0 ∷ 0 ∷ 1 ∷ []) & Tree.fixed (10 ∷ 0 ∷ 0 ∷ 2 ∷ []) &
    Tree.word 8080 & Tree.word 443 & Tree.word 18 & Tree.word 7 & none)) [] &
    known 4 (Tree.structure (
    Tree.word 60 & Tree.word 17 & Tree.fixed (ipv6_bytes 1) & Tree.fixed (ipv6_bytes 2) &
    Tree.word 53 & Tree.word 5353 & Tree.word 1 & Tree.word 7 & none)) [] &
    known 1001 (Tree.structure (Tree.word 100 & Tree.word 1 & Tree.word 200 & Tree.word 2 & none)) [] &
    known 1002 (Tree.structure (next_hop & Tree.word 24 & Tree.word 16 & none)) [] &
    known 1003 (Tree.structure (
    unknown_hop & Tree.word 65000 & Tree.word 65001 & Tree.word 65002 & as_path & Tree.array (Tree.word 9 & none) &
    Tree.word 100 & none)) [] &
    known 1004 (Tree.structure (
    Tree.word 3 & Tree.opaque (97 ∷ 98 ∷ 99 ∷ []) & Tree.word 4 & Tree.opaque [] & none)) [] &
    known 1005 (Tree.structure (
    Tree.word 2 & Tree.opaque (47 ∷ 97 ∷ 63 ∷ 98 ∷ []) & Tree.opaque (120 ∷ 46 ∷ 121 ∷ []) & none)) [] &
    known 1006 (Tree.structure (
    Tree.union 1 (Tree.fixed (10 ∷ 0 ∷ 0 ∷ 9 ∷ [])) & Tree.array (Tree.word 74565 & Tree.word 16 & none) &
    Tree.array (Tree.word 17 & none) & none)) (222 ∷ 173 ∷ 190 ∷ 239 ∷ []) &
    known 1007 (Tree.structure (Tree.union 1 (Tree.fixed (10 ∷ 0 ∷ 0 ∷ 1 ∷ [])) & next_hop & none)) [] &
    other 0x0113d007 (170 ∷ 187 ∷ 204 ∷ 0 ∷ []) & none

-- ---- counter records, whose words are numbered from 1

abbrev pub counter_record_words : List ℕ
counter_record_words =
    1 ∷ 88 ∷ 1 ∷ 2 ∷ 3 ∷ 4 ∷ 5 ∷ 6 ∷ 7 ∷ 8 ∷ 9 ∷ 10 ∷ 11 ∷ 12 ∷ 13 ∷ 14 ∷ 15 ∷ 16 ∷ 17 ∷ 18 ∷ 19 ∷ 20 ∷ 21 ∷ 22 ∷ [] ++
    2 ∷ 52 ∷ 1 ∷ 2 ∷ 3 ∷ 4 ∷ 5 ∷ 6 ∷ 7 ∷ 8 ∷ 9 ∷ 10 ∷ 11 ∷ 12 ∷ 13 ∷ [] ++
    5 ∷ 28 ∷ 1 ∷ 2 ∷ 3 ∷ 4 ∷ 5 ∷ 6 ∷ 7 ∷ [] ++
    1001 ∷ 28 ∷ 1 ∷ 2 ∷ 3 ∷ 4 ∷ 5 ∷ 6 ∷ 7 ∷ []

abbrev pub counter_record_trees : Trees
counter_record_trees =
    known 1 (Tree.structure (
    Tree.word 1 & Tree.word 2 & Tree.hyper 12884901892 & Tree.word 5 & Tree.word 6 & Tree.hyper 30064771080 &
    Tree.word 9 & Tree.word 10 & Tree.word 11 & Tree.word 12 & Tree.word 13 & Tree.word 14 &
    Tree.hyper 64424509456 & Tree.word 17 & Tree.word 18 & Tree.word 19 & Tree.word 20 & Tree.word 21 &
    Tree.word 22 & none)) [] &
    known 2 (Tree.structure (
    Tree.word 1 & Tree.word 2 & Tree.word 3 & Tree.word 4 & Tree.word 5 & Tree.word 6 & Tree.word 7 & Tree.word 8 &
    Tree.word 9 & Tree.word 10 & Tree.word 11 & Tree.word 12 & Tree.word 13 & none)) [] &
    known 5 (Tree.structure (
    Tree.word 1 & Tree.hyper 8589934595 & Tree.word 4 & Tree.word 5 & Tree.word 6 & Tree.word 7 & none)) [] &
    known 1001 (Tree.structure (
    Tree.word 1 & Tree.word 2 & Tree.word 3 & Tree.hyper 17179869189 & Tree.hyper 25769803783 & none)) [] & none

-- ---- an expanded flow sample, an expanded and a compact counters sample, the last with a tail, and another format

abbrev pub every_record : List ℕ
every_record = words (
    head_words 1 4 ++
    3 ∷ 480 ∷ 1 ∷ 0 ∷ 16777216 ∷ 256 ∷ 512 ∷ 3 ∷ 0 ∷ 5 ∷ 1 ∷ 6 ∷ 12 ∷ [] ++ flow_record_words ++
    4 ∷ 244 ∷ 1 ∷ 0 ∷ 7 ∷ 4 ∷ [] ++ counter_record_words ++
    2 ∷ 16 ∷ 9 ∷ 5 ∷ 0 ∷ 0xdeadbeef ∷ [] ++
    0x0113d008 ∷ 0 ∷ [])

abbrev pub every_record_tree : Tree
every_record_tree = datagram_tree (example_head 1) (
    known 3 (Tree.structure (
    Tree.word 1 & Tree.word 0 & Tree.word 16777216 & Tree.word 256 & Tree.word 512 & Tree.word 3 &
    Tree.word 0 & Tree.word 5 & Tree.word 1 & Tree.word 6 & Tree.array flow_record_trees & none)) [] &
    known 4 (Tree.structure (
    Tree.word 1 & Tree.word 0 & Tree.word 7 & Tree.array counter_record_trees & none)) [] &
    known 2 (Tree.structure (Tree.word 9 & Tree.word 5 & Tree.array none & none)) (222 ∷ 173 ∷ 190 ∷ 239 ∷ []) &
    other 0x0113d008 [] & none)
