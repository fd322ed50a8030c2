-- The heads of samples alone (sFlow Version 5, section 5).
use Rattle.std.specs.Prelude.{◌≡◌, ℕ, List}
use Rattle.wire_spec.specs.Shapes.{known, other}
use Rattle.data_format.specs.declared.heads.Form.{Form}
use Rattle.data_format.specs.declared.heads.FlowHead.{FlowHead}
use Rattle.data_format.specs.declared.heads.CountersHead.{CountersHead}
use Rattle.data_format.specs.Samples.{IsFlowHead, flow_tree, IsCountersHead, counters_tree}
use Rattle.data_format.specs.Trees.{frame_tree}
use Rattle.data_format.specs.Views.{FrameView}
use Rattle.datagram_core.specs.Tables.{flow_records_read, counter_records_read, samples_read}
use Rattle.datagram_core.specs.Kinds.{flow_format, counters_format, IsUnreadSample}
use Rattle.datagram_core.specs.declared.sample_head.SampleHead.{SampleHead}
use Rattle.datagram_core.specs.declared.sample_head.SampleHead.TheVariants.{Flow, Counters, Other}

-- the frame's value is a flow sample in this form with this head, with some records and some tail
pub record IsFlowIn (form : Form) (f : FrameView) (h : FlowHead) : Type 0 where
  pub fits : IsFlowHead form h
  pub frames : List FrameView
  pub tail : List ℕ
  pub value : frame_tree samples_read f
      ≡ known (flow_format form) (flow_tree form flow_records_read (record { head = h; frames = frames; tail = tail })) tail

-- the frame's value is a counters sample in this form with this head, with some records and some tail
pub record AreCountersIn (form : Form) (f : FrameView) (h : CountersHead) : Type 0 where
  pub fits : IsCountersHead form h
  pub frames : List FrameView
  pub tail : List ℕ
  pub value : frame_tree samples_read f
      ≡ known (counters_format form) (counters_tree form counter_records_read (record { head = h; frames = frames; tail = tail })) tail

-- the format isn't read, and the value is the bytes of the body
pub record IsOtherIn (f : FrameView) : Type 0 where
  pub format : IsUnreadSample f.format
  pub value : frame_tree samples_read f ≡ other f.format f.body

-- the head of the sample in a frame
abbrev pub IsHeadOf : FrameView → SampleHead → Type 0
IsHeadOf f (Flow h) = (form : Form) × IsFlowIn form f h
IsHeadOf f (Counters h) = (form : Form) × AreCountersIn form f h
IsHeadOf f Other = IsOtherIn f
