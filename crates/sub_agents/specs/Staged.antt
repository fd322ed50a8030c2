-- Samples that wait for a datagram, and their values (sFlow Version 5, section 5).
use Rattle.std.specs.Prelude.{◌≡◌, ℕ, ◌≤◌, List, [], ◌∷◌, length}
use Rattle.wire_spec.specs.Shapes.{Tree, known, Trees, none, ◌&◌}
use Rattle.wire_spec.specs.Heads.{Head, datagram_tree}
use Rattle.wire_spec.specs.Spelling.{spell}
use Rattle.data_format.specs.declared.heads.Form.{Form}
use Rattle.data_format.specs.declared.heads.Form.TheVariants.{Compact, Expanded}
use Rattle.data_format.specs.declared.heads.FlowHead.{FlowHead}
use Rattle.data_format.specs.declared.heads.CountersHead.{CountersHead}
use Rattle.data_format.specs.Compact.{source_word, port_word}
use Rattle.data_format.specs.Samples.{IsFlowHead, IsCountersHead}
use Rattle.rec_counters.specs.Contents.{interface_content}
use Rattle.agent_spec.specs.Samples as spec
use Rattle.agent_spec.specs.Spelled as spelled
use Rattle.sub_agents.specs.declared.staged.StagedFlow.{StagedFlow}
use Rattle.sub_agents.specs.declared.staged.Staged.{Staged}
use Rattle.sub_agents.specs.declared.staged.Staged.TheVariants.{Flow, Counters}

-- the front of the packet
abbrev pub header_value : StagedFlow → Tree
header_value s = known 1 (Tree.structure (
    Tree.word 1 & Tree.word s.frame_length & Tree.word 4 & Tree.opaque s.header.items & none)) []

abbrev pub flow_value : Form → FlowHead → Trees → Tree
flow_value Compact h records = known 1 (Tree.structure (
    Tree.word h.sequence & Tree.word (source_word h.source) & Tree.word h.rate & Tree.word h.pool & Tree.word h.drops &
    Tree.word (port_word h.input) & Tree.word (port_word h.output) & Tree.array records & none)) []
flow_value Expanded h records = known 3 (Tree.structure (
    Tree.word h.sequence & Tree.word h.source.class & Tree.word h.source.index &
    Tree.word h.rate & Tree.word h.pool & Tree.word h.drops &
    Tree.word h.input.form & Tree.word h.input.value & Tree.word h.output.form & Tree.word h.output.value &
    Tree.array records & none)) []

abbrev pub counters_value : Form → CountersHead → Trees → Tree
counters_value Compact h records =
    known 2 (Tree.structure (Tree.word h.sequence & Tree.word (source_word h.source) & Tree.array records & none)) []
counters_value Expanded h records = known 4 (Tree.structure (
    Tree.word h.sequence & Tree.word h.source.class & Tree.word h.source.index & Tree.array records & none)) []

-- the value of a sample in this form
abbrev pub staged_value : Form → Staged → Tree
staged_value form (Flow s) = flow_value form s.head (header_value s & spelled.switch_records s.vlan)
staged_value form (Counters s) =
    counters_value form s.head (known 1 (interface_content s.counters).0 [] & none)

-- it can be written in this form
abbrev pub IsWritable : Form → Staged → Type 0
IsWritable form (Flow s) = IsFlowHead form s.head × (length s.header.items ≤ 128)
IsWritable form (Counters s) = IsCountersHead form s.head × (s.counters.tail.now ≡ [])

-- its bytes
abbrev pub staged_size : Form → Staged → ℕ
staged_size form s = length (spell (staged_value form s))

-- values one after the other
abbrev pub values : List Tree → Trees
values [] = none
values (t ∷ more) = t & values more

-- a datagram of these values
abbrev pub datagram_bytes : Head → List Tree → List ℕ
datagram_bytes h trees = spell (datagram_tree h (values trees))

-- the value of a sample of an agent's history
abbrev pub sample_value : spelled.Form → spec.Sample → Tree
sample_value form s = spelled.sample_tree form s.turn.source s s.content
