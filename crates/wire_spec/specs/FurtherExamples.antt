-- Datagrams with one record of the formats 1004 to 1007 of flow records or 1001 of counter records.
use Rattle.std.specs.Prelude.{ℕ, List, [], ◌∷◌, ◌++◌}
use Rattle.wire_spec.specs.Shapes.{Tree, known, none, ◌&◌}
use Rattle.wire_spec.specs.Heads.{datagram_tree}
use Rattle.wire_spec.specs.Examples.{words, example_head, head_words, flow_words, flow_tree}

-- a flow sample of this length with one record, whose body stands at 76
abbrev pub with_flow_record : ℕ → List ℕ → List ℕ
with_flow_record length record_words = words (head_words 1 1 ++ flow_words length 1 ++ record_words)

abbrev pub flow_record_tree : Tree → Tree
flow_record_tree t = datagram_tree (example_head 1) (flow_tree (t & none) & none)

abbrev pub tail_bytes : List ℕ
tail_bytes = 222 ∷ 173 ∷ 190 ∷ 239 ∷ []

abbrev pub ipv4_tree : List ℕ → Tree
ipv4_tree bytes = Tree.union 1 (Tree.fixed bytes)

-- ---- users: the name abc in character set 3, and no name

abbrev pub user_record : ℕ → List ℕ
user_record name = with_flow_record 60 (1004 ∷ 20 ∷ 3 ∷ 3 ∷ name ∷ 0 ∷ 0 ∷ [])

abbrev pub user_with_tail : List ℕ
user_with_tail = with_flow_record 64 (1004 ∷ 24 ∷ 3 ∷ 3 ∷ 0x61626300 ∷ 0 ∷ 0 ∷ 0xdeadbeef ∷ [])

abbrev pub user_tree : List ℕ → Tree
user_tree tail = flow_record_tree (known 1004 (Tree.structure (
    Tree.word 3 & Tree.opaque (97 ∷ 98 ∷ 99 ∷ []) & Tree.word 0 & Tree.opaque [] & none)) tail)

-- ---- a URL and its host; the host has this length

abbrev pub url_record : ℕ → List ℕ
url_record host = with_flow_record 60 (1005 ∷ 20 ∷ 1 ∷ 4 ∷ 0x2f613f62 ∷ host ∷ 0x782e7900 ∷ [])

abbrev pub url_with_tail : List ℕ
url_with_tail = with_flow_record 64 (1005 ∷ 24 ∷ 1 ∷ 4 ∷ 0x2f613f62 ∷ 3 ∷ 0x782e7900 ∷ 0xdeadbeef ∷ [])

abbrev pub url_tree : List ℕ → Tree
url_tree tail = flow_record_tree (known 1005 (Tree.structure (
    Tree.word 1 & Tree.opaque (47 ∷ 97 ∷ 63 ∷ 98 ∷ []) & Tree.opaque (120 ∷ 46 ∷ 121 ∷ []) & none)) tail)

-- ---- label stacks: the next hop 10.0.0.9; one label came in, and none went out

abbrev pub mpls_record : ℕ → List ℕ
mpls_record labels = with_flow_record 60 (1006 ∷ 20 ∷ 1 ∷ 0x0a000009 ∷ labels ∷ 74565 ∷ 0 ∷ [])

abbrev pub mpls_with_tail : List ℕ
mpls_with_tail = with_flow_record 64 (1006 ∷ 24 ∷ 1 ∷ 0x0a000009 ∷ 1 ∷ 74565 ∷ 0 ∷ 0xdeadbeef ∷ [])

abbrev pub mpls_tree : List ℕ → Tree
mpls_tree tail = flow_record_tree (known 1006 (Tree.structure (
    ipv4_tree (10 ∷ 0 ∷ 0 ∷ 9 ∷ []) & Tree.array (Tree.word 74565 & none) & Tree.array none & none)) tail)

-- ---- translated addresses: from 10.0.0.1 to 192.0.2.1; the first one is of this kind

abbrev pub nat_record : ℕ → List ℕ
nat_record kind = with_flow_record 56 (1007 ∷ 16 ∷ kind ∷ 0x0a000001 ∷ 1 ∷ 0xc0000201 ∷ [])

abbrev pub nat_with_tail : List ℕ
nat_with_tail = with_flow_record 60 (1007 ∷ 20 ∷ 1 ∷ 0x0a000001 ∷ 1 ∷ 0xc0000201 ∷ 0xdeadbeef ∷ [])

abbrev pub nat_tree : List ℕ → Tree
nat_tree tail = flow_record_tree (known 1007 (Tree.structure (
    ipv4_tree (10 ∷ 0 ∷ 0 ∷ 1 ∷ []) & ipv4_tree (192 ∷ 0 ∷ 2 ∷ 1 ∷ []) & none)) tail)

-- ---- a processor; the body of its record stands at 56

abbrev pub with_counter_record : ℕ → List ℕ → List ℕ
with_counter_record length record_words = words (head_words 1 1 ++ 2 ∷ length ∷ 1 ∷ 5 ∷ 1 ∷ [] ++ record_words)

abbrev pub processor_with_tail : List ℕ
processor_with_tail = with_counter_record 52
    (1001 ∷ 32 ∷ 10 ∷ 20 ∷ 30 ∷ 1 ∷ 0 ∷ 0 ∷ 1000 ∷ 0xdeadbeef ∷ [])

-- its last hyper has four bytes
abbrev pub cut_processor : List ℕ
cut_processor = with_counter_record 44 (1001 ∷ 24 ∷ 10 ∷ 20 ∷ 30 ∷ 1 ∷ 0 ∷ 0 ∷ [])

abbrev pub processor_tree : List ℕ → Tree
processor_tree tail = datagram_tree (example_head 1) (known 2 (Tree.structure (
    Tree.word 1 & Tree.word 5 & Tree.array (known 1001 (Tree.structure (
    Tree.word 10 & Tree.word 20 & Tree.word 30 & Tree.hyper 4294967296 & Tree.hyper 1000 & none)) tail & none) & none)) [] &
    none)
