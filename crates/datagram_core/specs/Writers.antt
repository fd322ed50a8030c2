-- A writer of one datagram, and what its calls do.
use Rattle.std.specs.Prelude.{◌≡◌, ℕ, ◌+◌, ◌-◌, ◌<◌, ◌≤◌, min, List, ◌++◌, length, take, drop, Result, Ok, Err, is_some, true, false, Option, Some, None}
use Rattle.wire_spec.specs.Heads.{Head, datagram_tree}
use Rattle.wire_spec.specs.Shapes.{Trees, count_of}
use Rattle.wire_spec.specs.Spelling.{spell, spell_all}
use Rattle.xdr_words.specs.declared.writer.OutFull.{OutFull}
use Rattle.datagram_core.specs.Heads.{head_trees}
use Rattle.datagram_core.specs.Written.{Begun, begun_bytes}
use Rattle.datagram_core.specs.declared.records.RecordKind.{RecordKind}
use Rattle.datagram_core.specs.declared.writer.DatagramWriter.{DatagramWriter}
use Rattle.datagram_core.specs.declared.writer.OpenSample.{OpenSample}

-- the bytes so far, which stand at the start of the room
abbrev pub so_far : DatagramWriter → List ℕ
so_far w = take w.len w.room.now

-- how many bytes of the room it uses at most: a datagram has at most 65,535
abbrev pub most_of : DatagramWriter → ℕ
most_of w = min 65535 (length w.room.now)

-- how many bytes still fit
abbrev pub left_of : DatagramWriter → ℕ
left_of w = most_of w - w.len

-- behind what is written, the room has the bytes that these have there
abbrev pub KeepsBehind : List ℕ → DatagramWriter → Type 0
KeepsBehind bytes w = drop w.len w.room.now ≡ drop w.len bytes

-- both write into the same room, which has the same size; no less is written, and the bytes behind it are as they were
pub record SameRoom (old new : DatagramWriter) : Type 0 where
  pub same : new.room.ghost_name ≡ old.room.ghost_name
  pub size : length new.room.now ≡ length old.room.now
  pub more : old.len ≤ new.len
  pub behind : KeepsBehind old.room.now new

-- a sample is begun, or none is
abbrev pub IsOpen : DatagramWriter → Type 0
IsOpen w = is_some w.begun ≡ true

abbrev pub IsClosed : DatagramWriter → Type 0
IsClosed w = is_some w.begun ≡ false

-- a sample is begun whose records have this kind
abbrev pub OfKind : RecordKind → Option OpenSample → Type 0
OfKind kind None = ⊥
OfKind kind (Some o) = o.kind ≡ kind

abbrev pub IsOpenFor : RecordKind → DatagramWriter → Type 0
IsOpenFor kind w = OfKind kind w.begun

-- the datagram so far has this head and these samples, and no sample is begun
pub record Has (w : DatagramWriter) (h : Head) (samples : Trees) : Type 0 where
  pub bytes : so_far w ≡ spell (datagram_tree h samples)
  pub closed : w.begun ≡ None
  pub place : w.count_at ≡ 4 + length (spell_all (head_trees h))
  pub count : w.samples ≡ count_of samples

-- this sample is begun behind them
pub record HasBegun (w : DatagramWriter) (h : Head) (samples : Trees) (s : Begun) : Type 0 where
  pub bytes : so_far w ≡ spell (datagram_tree h samples) ++ begun_bytes s
  pub begun : w.begun ≡ Some (record {
    kind = s.kind;
    start = length (spell (datagram_tree h samples));
    count_at = length (spell (datagram_tree h samples)) + (8 + length (spell_all s.head));
    records = count_of s.records;
  })
  pub place : w.count_at ≡ 4 + length (spell_all (head_trees h))
  pub count : w.samples ≡ count_of samples

-- ---- calls

-- n bytes more were written into the same room, and the bytes behind them are as they were
pub record Grows (old new : DatagramWriter) (n : ℕ) : Type 0 where
  pub same : new.room.ghost_name ≡ old.room.ghost_name
  pub size : length new.room.now ≡ length old.room.now
  pub fits : n ≤ left_of old
  pub left : left_of new + n ≡ left_of old
  pub behind : KeepsBehind old.room.now new

-- n bytes don't fit, and nothing changed
pub record Stays (old new : DatagramWriter) (e : OutFull) (n : ℕ) : Type 0 where
  pub same : new ≡ old
  pub need : e.need ≡ n
  pub room : e.room ≡ left_of old
  pub short : left_of old < n

-- n bytes are written, or they don't fit and nothing is
abbrev pub Adds : DatagramWriter → DatagramWriter → Result Unit OutFull → ℕ → Type 0
Adds old new (Ok u) n = Grows old new n
Adds old new (Err e) n = Stays old new e n
