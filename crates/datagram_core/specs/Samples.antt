-- Samples as contracts see them (sFlow Version 5, section 5).
use Rattle.std.specs.Prelude.{◌≡◌, ℕ, ◌+◌, ◌<◌, ◌^◌, List, [], length}
use Rattle.wire_spec.specs.Shapes.{Tree, known, other}
use Rattle.data_format.specs.declared.format.Frame.{Frame}
use Rattle.data_format.specs.declared.heads.Form.TheVariants.{Compact, Expanded}
use Rattle.data_format.specs.Ranges.{StandIn, EndsWith}
use Rattle.data_format.specs.Samples.{flow_tree, counters_tree}
use Rattle.data_format.specs.Trees.{AllPass, frame_tree}
use Rattle.data_format.specs.Views.{IsFormat, FrameView, frame_view, body_of, format_word}
use Rattle.datagram_core.specs.Tables.{flow_records_read, counter_records_read, samples_read}
use Rattle.datagram_core.specs.declared.sample.Sample.{Sample}
use Rattle.datagram_core.specs.declared.sample.Sample.TheVariants.{Flow, Counters, FlowX, CountersX, Other}

-- the value of a sample: its format, its fields and records, its tail; or the bytes of the body
abbrev pub sample_tree : Sample → Tree
sample_tree (Flow s) = known 1 (flow_tree Compact flow_records_read s) s.tail
sample_tree (Counters s) = known 2 (counters_tree Compact counter_records_read s) s.tail
sample_tree (FlowX s) = known 3 (flow_tree Expanded flow_records_read s) s.tail
sample_tree (CountersX s) = known 4 (counters_tree Expanded counter_records_read s) s.tail
sample_tree (Other frame) = other (format_word frame.format) frame.body.now

-- the frames of its records, none where its format isn't read
abbrev pub frames_of : Sample → List FrameView
frames_of (Flow s) = s.frames
frames_of (Counters s) = s.frames
frames_of (FlowX s) = s.frames
frames_of (CountersX s) = s.frames
frames_of (Other frame) = []

-- each of them passes the test of its kind's table where padding is free
abbrev pub HasRecords : Sample → Type 0
HasRecords (Flow s) = AllPass flow_records_read s.frames
HasRecords (Counters s) = AllPass counter_records_read s.frames
HasRecords (FlowX s) = AllPass flow_records_read s.frames
HasRecords (CountersX s) = AllPass counter_records_read s.frames
HasRecords (Other frame) = Unit {0}

-- the tail is the rest of the body; a sample whose format isn't read has the whole body
abbrev pub HasTail : List ℕ → Sample → Type 0
HasTail body (Flow s) = EndsWith body s.tail
HasTail body (Counters s) = EndsWith body s.tail
HasTail body (FlowX s) = EndsWith body s.tail
HasTail body (CountersX s) = EndsWith body s.tail
HasTail body (Other frame) = frame.body.now ≡ body

-- a sample whose format isn't read is the frame itself; the format is that of a word, and the place behind the body
-- is below 2^32
abbrev pub IsItself : FrameView → Sample → Type 0
IsItself f (Other frame) = (frame_view frame ≡ f) × IsFormat frame.format × (f.at + length f.body < 2 ^ 32)
IsItself f _ = Unit {0}

-- and has the format of a word
abbrev pub HasFormat : Sample → Type 0
HasFormat (Other frame) = IsFormat frame.format
HasFormat _ = Unit {0}

-- the sample in a frame
pub record IsSampleOf (f : FrameView) (s : Sample) : Type 0 where
  -- its value is that of the frame
  pub value : sample_tree s ≡ frame_tree samples_read f
  -- a frame whose format isn't read
  pub itself : IsItself f s
  -- its records are sound
  pub records : HasRecords s
  -- the body of each record stands in the sample's body at its place
  pub ranges : StandIn (body_of f) (frames_of s)
  pub tail : HasTail f.body s

-- ---- while a frame is read

-- a sample whose format isn't read is this frame
abbrev pub IsThis : Frame → Sample → Type 0
IsThis frame (Other g) = (g.format ≡ frame.format) × (frame_view g ≡ frame_view frame)
IsThis frame _ = Unit {0}

-- what of the above is so under each reading of padding
pub record IsFrom (frame : Frame) (s : Sample) : Type 0 where
  pub itself : IsThis frame s
  pub records : HasRecords s
  pub ranges : StandIn (body_of (frame_view frame)) (frames_of s)
  pub tail : HasTail frame.body.now s
