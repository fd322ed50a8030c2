-- Records as contracts see them (sFlow Version 5, section 5).
use Rattle.std.specs.Prelude.{◌≡◌, ℕ, zero, suc, ◌+◌, ◌<◌, ◌^◌, List, [], length}
use Rattle.wire_spec.specs.Shapes.{Table, empty, Tree, known, other}
use Rattle.data_format.specs.declared.format.Frame.{Frame}
use Rattle.data_format.specs.Ranges.{IsRange, EndsWith}
use Rattle.data_format.specs.Records.{Content}
use Rattle.data_format.specs.Trees.{frame_tree}
use Rattle.data_format.specs.Views.{IsFormat, FrameView, frame_view, format_word}
use Rattle.rec_extended.specs.RouteContents as routes
use Rattle.rec_more.specs.Contents as more
use Rattle.datagram_core.specs.Descriptions.{Description, Read, Kept, described, tail_in}
use Rattle.datagram_core.specs.Tables.{flow_records_read, counter_records_read}
use Rattle.datagram_core.specs.declared.records.Record.{Record}
use Rattle.datagram_core.specs.declared.records.Record.TheVariants.{RawHeader, Gateway, User, Url, Mpls, Other}
use Rattle.datagram_core.specs.declared.records.RecordKind.{RecordKind}
use Rattle.datagram_core.specs.declared.records.RecordKind.TheVariants as kinds
use Rattle.datagram_core.specs.declared.sample.Sample.{Sample}
use Rattle.datagram_core.specs.declared.sample.Sample.TheVariants as samples

-- the table of a kind of records
abbrev pub table_of : RecordKind → Table
table_of kinds.Flow = flow_records_read
table_of kinds.Counters = counter_records_read
table_of kinds.Unknown = empty

-- kinds by their numbers
abbrev pub kind_by : ℕ → RecordKind
kind_by zero = kinds.Flow
kind_by (suc zero) = kinds.Counters
kind_by (suc (suc n)) = kinds.Unknown

-- what contracts see of the records of a sample: their kind, and the frames of those left
pub record RecordsView : Type 0 where
  pub kind : RecordKind
  pub frames : List FrameView

-- the records of a sample, none where its format isn't read
abbrev pub records_of : Sample → RecordsView
records_of (samples.Flow s) = record { kind = kinds.Flow; frames = s.frames }
records_of (samples.Counters s) = record { kind = kinds.Counters; frames = s.frames }
records_of (samples.FlowX s) = record { kind = kinds.Flow; frames = s.frames }
records_of (samples.CountersX s) = record { kind = kinds.Counters; frames = s.frames }
records_of (samples.Other frame) = record { kind = kinds.Unknown; frames = [] }

-- the value of a record of format k: its fields, and its tail
abbrev pub as_known : ℕ → Content → Tree
as_known k x = known k x.0 x.1

-- the value of a record: its format, its fields and its tail; or the bytes of the body
abbrev pub tree_in : Description → Tree
tree_in (Read kind k x) = as_known k x
tree_in (Kept frame) = other (format_word frame.format) frame.body.now

abbrev pub record_tree : Record → Tree
record_tree r = tree_in (described r)

-- The header of a packet stands behind four words, the names, texts and lists of other records where their definitions
-- say, and the tail is the rest of the body; a record whose format isn't read has the whole body.
abbrev pub HasSlices : List ℕ → Record → Type 0
HasSlices body (RawHeader r) = IsRange body 16 r.header.now × EndsWith body r.tail.now
HasSlices body (Gateway r) = EndsWith body r.tail.now × routes.HasLists body r
HasSlices body (User r) = EndsWith body r.tail.now × more.HasNames body r
HasSlices body (Url r) = EndsWith body r.tail.now × more.HasTexts body r
HasSlices body (Mpls r) = EndsWith body r.tail.now × more.HasStacks body r
HasSlices body (Other frame) = frame.body.now ≡ body
HasSlices body r = EndsWith body (tail_in (described r))

-- a record whose format isn't read is the frame itself; the format is that of a word, and the place behind the body
-- is below 2^32
abbrev pub IsFrameIn : FrameView → Description → Type 0
IsFrameIn f (Read kind k x) = Unit {0}
IsFrameIn f (Kept frame) = (frame_view frame ≡ f) × IsFormat frame.format × (f.at + length f.body < 2 ^ 32)

abbrev pub IsRecordFrame : FrameView → Record → Type 0
IsRecordFrame f r = IsFrameIn f (described r)

-- the record of this kind in a frame
pub record IsRecordOf (kind : RecordKind) (f : FrameView) (r : Record) : Type 0 where
  -- its value is that of the frame
  pub value : record_tree r ≡ frame_tree (table_of kind) f
  -- a frame whose format isn't read
  pub itself : IsRecordFrame f r
  -- its slices are ranges of the frame's body
  pub slices : HasSlices f.body r

-- ---- while a frame is read

-- a record whose format isn't read is this frame
abbrev pub IsThisIn : Frame → Description → Type 0
IsThisIn frame (Read kind k x) = Unit {0}
IsThisIn frame (Kept g) = (g.format ≡ frame.format) × (frame_view g ≡ frame_view frame)

abbrev pub IsThisRecord : Frame → Record → Type 0
IsThisRecord frame r = IsThisIn frame (described r)

-- what of the above is so under each reading of padding
pub record IsRecordFrom (frame : Frame) (r : Record) : Type 0 where
  pub itself : IsThisRecord frame r
  pub slices : HasSlices frame.body.now r
