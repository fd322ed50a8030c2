-- Flow samples and counters samples in both forms (sFlow Version 5, section 5): a head, the records' frames, a tail.
use Rattle.std.specs.Prelude.{List, Result, Ok, ℕ}
use Rattle.wire_spec.specs.declared.pad.Pad.{Pad}
use Rattle.wire_spec.specs.declared.fault.Fault.{Fault}
use Rattle.wire_spec.specs.Shapes.{word, Shape, Shapes, end, ◌then◌, Table, Tree, Trees, none, ◌&◌}
use Rattle.wire_spec.specs.Fails.{Remaining}
use Rattle.wire_spec.specs.Reading.{◌>>=◌}
use Rattle.data_format.specs.declared.heads.Form.{Form}
use Rattle.data_format.specs.declared.heads.Form.TheVariants.{Compact, Expanded}
use Rattle.data_format.specs.declared.heads.FlowHead.{FlowHead}
use Rattle.data_format.specs.declared.heads.CountersHead.{CountersHead}
use Rattle.data_format.specs.Compact.{source_word, IsCompactSource, port_word, IsCompactPort}
use Rattle.data_format.specs.Views.{FrameView}
use Rattle.data_format.specs.Frames.{Test}
use Rattle.data_format.specs.Parts.{with_frames, Parts, parts_tree, parts_at}

-- what contracts see of a sample
pub record SampleView (H : Type 0) : Type 0 where
  pub head : H
  pub frames : List FrameView
  pub tail : List ℕ

-- ---- flow samples

-- sequence number, source, rate, pool, drops, input and output, the source and the ports in one word or two
abbrev pub flow_members : Form → Shapes
flow_members Compact = word then word then word then word then word then word then word then end
flow_members Expanded =
    word then word then word then word then word then word then word then word then word then word then end

abbrev pub flow_trees : Form → FlowHead → Trees
flow_trees Compact h =
    Tree.word h.sequence & Tree.word (source_word h.source) & Tree.word h.rate & Tree.word h.pool & Tree.word h.drops &
    Tree.word (port_word h.input) & Tree.word (port_word h.output) & none
flow_trees Expanded h =
    Tree.word h.sequence & Tree.word h.source.class & Tree.word h.source.index &
    Tree.word h.rate & Tree.word h.pool & Tree.word h.drops &
    Tree.word h.input.form & Tree.word h.input.value & Tree.word h.output.form & Tree.word h.output.value & none

-- the head has this form
abbrev pub IsFlowHead : Form → FlowHead → Type 0
IsFlowHead Compact h = IsCompactSource h.source × IsCompactPort h.input × IsCompactPort h.output
IsFlowHead Expanded h = Unit {0}

-- ---- counters samples

-- sequence number and source
abbrev pub counters_members : Form → Shapes
counters_members Compact = word then word then end
counters_members Expanded = word then word then word then end

abbrev pub counters_trees : Form → CountersHead → Trees
counters_trees Compact h = Tree.word h.sequence & Tree.word (source_word h.source) & none
counters_trees Expanded h = Tree.word h.sequence & Tree.word h.source.class & Tree.word h.source.index & none

abbrev pub IsCountersHead : Form → CountersHead → Type 0
IsCountersHead Compact h = IsCompactSource h.source
IsCountersHead Expanded h = Unit {0}

-- ---- over a table of records

abbrev pub flow_over : Form → Table → Shape
flow_over form T = with_frames (flow_members form) T

abbrev pub counters_over : Form → Table → Shape
counters_over form T = with_frames (counters_members form) T

-- the value of a sample, without its tail
abbrev pub flow_tree : Form → Table → SampleView FlowHead → Tree
flow_tree form T s = parts_tree T (flow_trees form s.head, s.frames)

abbrev pub counters_tree : Form → Table → SampleView CountersHead → Tree
counters_tree form T s = parts_tree T (counters_trees form s.head, s.frames)

-- ---- the reading of a body

-- the parts in front, and the tail
abbrev pub SampleParts : Type 0
SampleParts = Parts × List ℕ

abbrev pub flow_parts : Form → SampleView FlowHead → SampleParts
flow_parts form s = ((flow_trees form s.head, s.frames), s.tail)

abbrev pub counters_parts : Form → SampleView CountersHead → SampleParts
counters_parts form s = ((counters_trees form s.head, s.frames), s.tail)

-- these members, the frames, and what is left of the body
abbrev pub sample_reading : Pad → Shapes → Test → Remaining → Result SampleParts Fault
sample_reading p ss test b = parts_at p ss test b >>= λ x. Ok (x.0, x.1.bytes)
