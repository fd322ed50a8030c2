-- A datagram that is being written: what stands in it, and a sample that is begun.
use Rattle.std.specs.Prelude.{◌≡◌, ℕ, ◌+◌, ◌≤◌, List, ◌++◌, length, take, drop}
use Rattle.std.specs.Int.{w32, to_be_bytes}
use Rattle.wire_spec.specs.Shapes.{Tree, known, Trees, none, ◌&◌}
use Rattle.wire_spec.specs.Members.{with_last_tree}
use Rattle.wire_spec.specs.Spelling.{spell_all}
use Rattle.data_format.specs.declared.heads.Form.{Form}
use Rattle.data_format.specs.declared.heads.FlowHead.{FlowHead}
use Rattle.data_format.specs.declared.heads.CountersHead.{CountersHead}
use Rattle.data_format.specs.Samples.{flow_trees, counters_trees}
use Rattle.data_format.specs.Views.{IsFormat}
use Rattle.rec_extended.specs.RouteContents.{path_of, communities_of}
use Rattle.rec_more.specs.Contents.{in_bytes, out_bytes}
use Rattle.as_paths.specs.WordLists.{word_trees}
use Rattle.as_paths.specs.Paths.{segment_trees}
use Rattle.datagram_core.specs.Descriptions.{Description, Read, Kept, described, format_in, body_in, tail_in}
use Rattle.datagram_core.specs.Kinds.{flow_format, counters_format}
use Rattle.datagram_core.specs.declared.records.Record.{Record}
use Rattle.datagram_core.specs.declared.records.Record.TheVariants.{RawHeader, Gateway, User, Url, Mpls}
use Rattle.datagram_core.specs.declared.records.RecordKind.{RecordKind}
use Rattle.datagram_core.specs.declared.records.RecordKind.TheVariants as kinds

-- some values and one more
abbrev pub and_then : Trees → Tree → Trees
and_then ts t = with_last_tree ts t

-- some values and then others
abbrev pub joined : Trees → Trees → Trees
joined none us = us
joined (t & ts) us = t & joined ts us

-- a sample that is begun: the kind of its records, its format, the values of its head, and its records so far
pub record Begun : Type 0 where
  pub kind : RecordKind
  pub format : ℕ
  pub head : Trees
  pub records : Trees

-- samples of these heads, without records
abbrev pub begun_flow : Form → FlowHead → Begun
begun_flow form h = record { kind = kinds.Flow; format = flow_format form; head = flow_trees form h; records = none }

abbrev pub begun_counters : Form → CountersHead → Begun
begun_counters form h =
    record { kind = kinds.Counters; format = counters_format form; head = counters_trees form h; records = none }

abbrev pub with_record : Begun → Tree → Begun
with_record s t = record { kind = s.kind; format = s.format; head = s.head; records = and_then s.records t }

-- these records in place of its own
abbrev pub filled : Begun → Trees → Begun
filled s records = record { kind = s.kind; format = s.format; head = s.head; records = records }

-- its bytes so far: the length of the body and the number of records are still 0
abbrev pub begun_bytes : Begun → List ℕ
begun_bytes s =
    (to_be_bytes w32 s.format ++ to_be_bytes w32 0) ++ (spell_all s.head ++ (to_be_bytes w32 0 ++ spell_all s.records))

-- its value, with the bytes behind the records
abbrev pub closed_sample : Begun → List ℕ → Tree
closed_sample s tail = known s.format (Tree.structure (with_last_tree s.head (Tree.array s.records))) tail

-- ---- bytes in a room

-- a piece stands behind the first `len` bytes, up to n, and the bytes from n on are as they were
pub record Extends (old new : List ℕ) (len n : ℕ) (piece : List ℕ) : Type 0 where
  pub size : length new ≡ length old
  pub ends : n ≡ len + length piece
  pub whole : take n new ≡ take len old ++ piece
  pub behind : drop n new ≡ drop n old

-- a piece in place of as many bytes
abbrev pub patch : ℕ → List ℕ → List ℕ → List ℕ
patch place piece x = take place x ++ piece ++ drop (place + length piece) x

-- ---- records that are to be written

-- each of its slices has at most 65,535 bytes
abbrev pub SlicesFit : Record → Type 0
SlicesFit (RawHeader r) = (length r.header.now ≤ 65535) × (length r.tail.now ≤ 65535)
SlicesFit (Gateway r) = (length (spell_all (segment_trees (path_of r))) ≤ 65535)
    × (length (spell_all (word_trees (communities_of r))) ≤ 65535) × (length r.tail.now ≤ 65535)
SlicesFit (User r) = (length r.src_user.now ≤ 65535) × (length r.dst_user.now ≤ 65535) × (length r.tail.now ≤ 65535)
SlicesFit (Url r) = (length r.url.now ≤ 65535) × (length r.host.now ≤ 65535) × (length r.tail.now ≤ 65535)
SlicesFit (Mpls r) = (length (in_bytes r) ≤ 65535) × (length (out_bytes r) ≤ 65535) × (length r.tail.now ≤ 65535)
SlicesFit r = length (tail_in (described r)) ≤ 65535

-- the format of a record that isn't read is that of a word
abbrev pub FormatFitsIn : Description → Type 0
FormatFitsIn (Read kind k x) = Unit {0}
FormatFitsIn (Kept frame) = IsFormat frame.format

abbrev pub FormatFits : Record → Type 0
FormatFits r = FormatFitsIn (described r)

-- the word of its format
abbrev pub record_format : Record → ℕ
record_format r = format_in (described r)

-- the bytes of its body
abbrev pub record_body : Record → List ℕ
record_body r = body_in (described r)
