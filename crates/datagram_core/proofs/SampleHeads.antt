-- The head of a sample that is read is that of the frame's value.
use Rattle.std.proofs.Common.{◌≡◌, ◌≢◌, Result, Ok, ap}
use Rattle.wire_spec.specs.declared.pad.Pad.TheVariants as pads
use Rattle.wire_spec.specs.declared.fault.Fault.{Fault}
use Rattle.wire_spec.specs.Shapes.{Shapes, Table, Tree, other, Trees}
use Rattle.data_format.specs.declared.heads.Form.TheVariants.{Compact, Expanded}
use Rattle.data_format.specs.declared.heads.FlowHead.{FlowHead}
use Rattle.data_format.specs.declared.heads.CountersHead.{CountersHead}
use Rattle.data_format.specs.SampleBodies.{HasHead}
use Rattle.data_format.specs.Samples.{IsFlowHead, flow_members, flow_trees, IsCountersHead, counters_members, counters_trees}
use Rattle.data_format.specs.Trees.{table_test, tree_or}
use Rattle.data_format.specs.Views.{FrameView, body_of}
use Rattle.datagram_core.specs.SampleHeads.{IsFlowIn, AreCountersIn, IsOtherIn}
use Rattle.datagram_core.specs.Tables.{flow_records_read, counter_records_read}
use Rattle.datagram_core.proofs.Rows.{flow_row, counters_row, expanded_flow_row, expanded_counters_row, no_row}

-- ---- of each format that is read

abbrev value_in : FrameView → Result Tree Fault → Tree
value_in f r = tree_or (other f.format f.body) r

-- what is read of a sample over the records of this table, in this frame
abbrev HeadIn : Shapes → Table → FrameView → Trees → Type 0
HeadIn ss T f ts = HasHead ss (table_test pads.Any T) (body_of f) ts

pub flow_in : (f : FrameView) (h : FlowHead) → IsFlowHead Compact h → f.format ≡ 1
    → HeadIn (flow_members Compact) flow_records_read f (flow_trees Compact h) → IsFlowIn Compact f h
flow_in f h fits format (fs, tail, read) = record {
  fits = fits;
  frames = fs;
  tail = tail;
  value = ap (value_in f)
      (flow_row pads.Any f.format (body_of f) (Ok (record { head = h; frames = fs; tail = tail })) format read);
}

pub counters_in : (f : FrameView) (h : CountersHead) → IsCountersHead Compact h → f.format ≡ 2
    → HeadIn (counters_members Compact) counter_records_read f (counters_trees Compact h) → AreCountersIn Compact f h
counters_in f h fits format (fs, tail, read) = record {
  fits = fits;
  frames = fs;
  tail = tail;
  value = ap (value_in f)
      (counters_row pads.Any f.format (body_of f) (Ok (record { head = h; frames = fs; tail = tail })) format read);
}

pub expanded_flow_in : (f : FrameView) (h : FlowHead) → f.format ≡ 3
    → HeadIn (flow_members Expanded) flow_records_read f (flow_trees Expanded h) → IsFlowIn Expanded f h
expanded_flow_in f h format (fs, tail, read) = record {
  fits = tt;
  frames = fs;
  tail = tail;
  value = ap (value_in f)
      (expanded_flow_row pads.Any f.format (body_of f) (Ok (record { head = h; frames = fs; tail = tail })) format read);
}

pub expanded_counters_in : (f : FrameView) (h : CountersHead) → f.format ≡ 4
    → HeadIn (counters_members Expanded) counter_records_read f (counters_trees Expanded h) → AreCountersIn Expanded f h
expanded_counters_in f h format (fs, tail, read) = record {
  fits = tt;
  frames = fs;
  tail = tail;
  value = ap (value_in f)
      (expanded_counters_row pads.Any f.format (body_of f) (Ok (record { head = h; frames = fs; tail = tail })) format read);
}

-- and of any other
pub other_in : (f : FrameView) → f.format ≢ 1 → f.format ≢ 2 → f.format ≢ 3 → f.format ≢ 4 → IsOtherIn f
other_in f one two three four = record {
  format = (one, two, three, four);
  value = ap (value_in f) (no_row pads.Any f.format (body_of f) one two three four);
}
