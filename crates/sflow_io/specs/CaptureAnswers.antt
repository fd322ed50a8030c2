-- What a reader of a capture answers, by what is left to read.
use Rattle.std.specs.Prelude.{◌≡◌, ◌≢◌, ⊤, ℕ, ◌+◌, ◌*◌, ◌^◌, ◌<◌, ◌≤◌, ◌⊎◌, List, [], ◌++◌, length, take, Option, Some, None, Result, Ok, Err}
use Rattle.std.specs.Io.KnownBytes.{IsAtEnd}
use Rattle.wire_spec.specs.declared.input_kind.InputKind.{InputKind}
use Rattle.wire_spec.specs.declared.input_kind.InputKind.TheVariants.{Magic, Version}
use Rattle.wire_spec.specs.Bytes.{BeginsWith}
use Rattle.wire_spec.specs.Captures.{capture_header}
use Rattle.wire_spec.specs.Heads.{AgentAddress, unknown, ipv4, ipv6}
use Rattle.wire_spec.specs.Padding.{padding_of}
use Rattle.capture_spec.specs.declared.capture_version.CaptureVersion.{CaptureVersion}
use Rattle.capture_spec.specs.declared.capture_version.CaptureVersion.TheVariants.{One, Two}
use Rattle.capture_spec.specs.Items as items
use Rattle.capture_spec.specs.ItemReading.{Front, Stops, Holds, Breaks, front_in, word_in}
use Rattle.capture_spec.specs.VersionedCaptures.{ReceivedFault, version_number}
use Rattle.byte_ends.specs.Seen.{Seen, next_count}
use Rattle.sflow_io.specs.declared.capture.Next.{Next}
use Rattle.sflow_io.specs.declared.capture.Next.TheVariants as next
use Rattle.sflow_io.specs.declared.capture.ReadRefusal.{ReadRefusal}
use Rattle.sflow_io.specs.declared.capture.ReadRefusal.TheVariants as refusal
use Rattle.sflow_io.specs.declared.capture.Stage.{Stage}
use Rattle.sflow_io.specs.declared.capture.Stage.TheVariants as stage
use Rattle.sflow_io.specs.declared.sender.Sender.{Sender}
use Rattle.sflow_io.specs.Senders.{sender_in}

abbrev pub Answer : Type 0
Answer = Result Next ReadRefusal

-- a reader: where it stands, and the bytes that it has read ahead of what it gave
pub record ReaderState : Type 0 where
  pub stage : Stage
  pub held : List ℕ

-- it has read nothing
abbrev pub IsFresh : ReaderState → Type 0
IsFresh reader = reader ≡ record { stage = stage.Start; held = [] }

-- ---- the next stage

-- how many bytes an address has
abbrev pub address_size : AgentAddress → ℕ
address_size unknown = 0
address_size (ipv4 bytes) = 4
address_size (ipv6 bytes) = 16

-- how many bytes an entry has before its datagram: in version 1 the arrival and the length; in version 2 also the item's
-- word, the sender's address with its kind, and the port
abbrev pub front_size : Option items.Sender → ℕ
front_size None = 12
front_size (Some s) = 24 + address_size s.address

-- how many bytes an entry of this sender has, whose datagram has so many
abbrev pub entry_size : Option items.Sender → ℕ → ℕ
entry_size sender len = front_size sender + len + padding_of len

-- behind a header of this version
abbrev pub behind_header : CaptureVersion → Stage
behind_header v = stage.Within v 0 8

-- the version of the capture, once it was read
abbrev pub version_in : Stage → Option CaptureVersion
version_in stage.Start = None
version_in (stage.Within v count offset) = Some v
version_in (stage.Ended v last) = v

abbrev pub number_in : Option CaptureVersion → Option ℕ
number_in None = None
number_in (Some v) = Some (version_number v)

-- an entry leads on, and any other answer is the last
abbrev pub stage_after : Stage → Answer → Stage
stage_after stage.Start answer = stage.Ended None answer
stage_after (stage.Within v count offset) (Ok (next.Entry at from len)) =
    stage.Within v (count + 1) (offset + entry_size (sender_in from) len)
stage_after (stage.Within v count offset) (Ok next.End) = stage.Ended (Some v) (Ok next.End)
stage_after (stage.Within v count offset) (Err e) = stage.Ended (Some v) (Err e)
stage_after (stage.Ended v last) answer = stage.Ended v last

-- why a reader ends before it has read a version: a read failed, or the magic or a version isn't there
abbrev pub IsOfHeader : ReadRefusal → Type 0
IsOfHeader refusal.ReadFault = ⊤
IsOfHeader (refusal.BadInput at kind) = ((at ≡ 0) × (kind ≡ Magic)) ⊎ ((at ≡ 4) × (kind ≡ Version))
IsOfHeader refusal.Spent = ⊥

abbrev pub RefusesAtHeader : Answer → Type 0
RefusesAtHeader (Ok answer) = ⊥
RefusesAtHeader (Err e) = IsOfHeader e

-- the first answer is as one behind a header, or one that refuses where a header is to stand; the last answer comes again
abbrev pub IsStageAfter : Stage → Stage → Answer → Type 0
IsStageAfter stage.Start after answer =
    (RefusesAtHeader answer × (after ≡ stage_after stage.Start answer))
    ⊎ ((v : CaptureVersion) × (after ≡ stage_after (behind_header v) answer))
IsStageAfter (stage.Within v count offset) after answer = after ≡ stage_after (stage.Within v count offset) answer
IsStageAfter (stage.Ended v last) after answer = after ≡ stage.Ended v last

-- it ended
abbrev pub HasEnded : Stage → Type 0
HasEnded stage.Start = ⊥
HasEnded (stage.Within v count offset) = ⊥
HasEnded (stage.Ended v last) = ⊤

-- no entry
abbrev pub IsNoEntry : Answer → Type 0
IsNoEntry (Ok (next.Entry at from len)) = ⊥
IsNoEntry (Ok next.End) = ⊤
IsNoEntry (Err e) = ⊤

-- behind the end the source has nothing left
abbrev pub EndsSource : Answer → Option (List ℕ) → Type 0
EndsSource (Ok (next.Entry at from len)) left = ⊤
EndsSource (Ok next.End) left = IsAtEnd left
EndsSource (Err e) left = ⊤

-- an entry has at most 65,535 bytes
abbrev pub IsShortEntry : Answer → Type 0
IsShortEntry (Ok (next.Entry at from len)) = len ≤ 65535
IsShortEntry (Ok next.End) = ⊤
IsShortEntry (Err e) = ⊤

-- where a reader may stand: behind at most 2^48 entries of at most 65,576 bytes each
abbrev pub IsPlaced : Stage → Type 0
IsPlaced stage.Start = ⊤
IsPlaced (stage.Within v count offset) = (count ≤ 2 ^ 48) × (offset ≤ 8 + 65576 * count)
IsPlaced (stage.Ended v last) = IsNoEntry last

-- an entry has at most 65,535 bytes, and comes only behind fewer than 2^48 others
abbrev pub KeepsLimits : ℕ → Answer → Type 0
KeepsLimits count (Ok (next.Entry at from len)) = (len ≤ 65535) × (count < 2 ^ 48)
KeepsLimits count (Ok next.End) = ⊤
KeepsLimits count (Err e) = ⊤

-- how many entries it gave; none are counted before the first and behind the end
abbrev pub entries_given : Stage → ℕ
entries_given stage.Start = 0
entries_given (stage.Within v count offset) = count
entries_given (stage.Ended v last) = 0

-- an entry isn't the end, and is counted, up to 2^48
abbrev pub LeadsOn : Stage → Stage → Answer → Type 0
LeadsOn before after (Ok (next.Entry at from len)) =
    ¬ (HasEnded after) × (entries_given after ≡ entries_given before + 1) × (entries_given after ≤ 2 ^ 48)
LeadsOn before after (Ok next.End) = ⊤
LeadsOn before after (Err e) = ⊤

-- ---- the answer

-- the entry at the front has this arrival, this sender and these first bytes of the room, and the rest is left
pub record GivesEntry (front : Front) (room : List ℕ) (left : Option (List ℕ)) (at : ℕ) (from : Option Sender)
    (len : ℕ) : Type 0 where
  pub rest : List ℕ
  pub holds : front ≡ Holds (record { arrival = at; sender = sender_in from; bytes = take len room }) rest
  pub length_is : len ≡ length (take len room)
  pub left_is : left ≡ Some rest

-- the fault where this front stands at this offset
abbrev pub FaultsAt : ℕ → Front → ℕ → InputKind → Type 0
FaultsAt offset front at kind = (within : ℕ) × (front ≡ Breaks within kind) × (at ≡ offset + within)

-- the answer where this front stands at this offset
abbrev pub AnswersFront : ℕ → Front → List ℕ → Option (List ℕ) → Answer → Type 0
AnswersFront offset front room left (Ok (next.Entry at from len)) = GivesEntry front room left at from len
AnswersFront offset front room left (Ok next.End) = front ≡ Stops
AnswersFront offset front room left (Err (refusal.BadInput at kind)) = FaultsAt offset front at kind
AnswersFront offset front room left (Err refusal.ReadFault) = ⊤
AnswersFront offset front room left (Err refusal.Spent) = ⊥

-- A further entry is to come: in version 1 a byte follows, in version 2 the word of an entry item.
abbrev pub IsFurther : CaptureVersion → List ℕ → Type 0
IsFurther One rest = 0 < length rest
IsFurther Two rest = (4 ≤ length rest) × (word_in rest ≡ 1)

-- the answer behind 2^48 entries, where this front stands at this offset: the end, a fault of what is no further entry,
-- or that a further entry is to come
abbrev pub AnswersLast : CaptureVersion → ℕ → List ℕ → Front → Answer → Type 0
AnswersLast v offset bytes front (Ok (next.Entry at from len)) = ⊥
AnswersLast v offset bytes front (Ok next.End) = front ≡ Stops
AnswersLast v offset bytes front (Err (refusal.BadInput at kind)) =
    ¬ (IsFurther v bytes) × FaultsAt offset front at kind
AnswersLast v offset bytes front (Err refusal.ReadFault) = ⊤
AnswersLast v offset bytes front (Err refusal.Spent) = IsFurther v bytes

-- the input begins with the header of this version
abbrev pub HasHeader : CaptureVersion → List ℕ → Type 0
HasHeader v bytes = BeginsWith bytes (capture_header (version_number v))

abbrev pub HasNoHeader : List ℕ → Type 0
HasNoHeader bytes = (v : CaptureVersion) → ¬ (HasHeader v bytes)

-- the answer where the input has no header of either version
abbrev pub RefusesHeader : List ℕ → Answer → Type 0
RefusesHeader bytes (Ok answer) = ⊥
RefusesHeader bytes (Err (refusal.BadInput at kind)) = ReceivedFault bytes at kind
RefusesHeader bytes (Err refusal.ReadFault) = ⊤
RefusesHeader bytes (Err refusal.Spent) = ⊥

-- what the reading of a header gives: it stands there and the rest is left, or else the fault
abbrev pub ReadsHeader : List ℕ → Option (List ℕ) → Result CaptureVersion ReadRefusal → Type 0
ReadsHeader bytes left (Ok v) =
    (rest : List ℕ) × (bytes ≡ capture_header (version_number v) ++ rest) × (left ≡ Some rest)
ReadsHeader bytes left (Err (refusal.BadInput at kind)) = HasNoHeader bytes × ReceivedFault bytes at kind
ReadsHeader bytes left (Err refusal.ReadFault) = ⊤
ReadsHeader bytes left (Err refusal.Spent) = ⊥

-- ---- the answer by stage

-- an entry behind a header, and where the reader stands then, unless a read failed
pub record AnswersBehind (v : CaptureVersion) (rest room : List ℕ) (left : Option (List ℕ)) (after : Stage)
    (answer : Answer) : Type 0 where
  pub front : AnswersFront 8 (front_in v 0 rest) room left answer
  pub stage_is : answer ≢ Err refusal.ReadFault → after ≡ stage_after (behind_header v) answer

-- the answer at the start of the input
pub record AnswersStart (bytes room : List ℕ) (left : Option (List ℕ)) (after : Stage) (answer : Answer) : Type 0 where
  pub goes_on : (v : CaptureVersion) (rest : List ℕ) → bytes ≡ capture_header (version_number v) ++ rest
      → AnswersBehind v rest room left after answer
  pub refuses : HasNoHeader bytes → RefusesHeader bytes answer × (after ≡ stage_after stage.Start answer)

-- the answer behind so many entries
pub record AnswersWithin (v : CaptureVersion) (count offset : ℕ) (bytes room : List ℕ) (left : Option (List ℕ))
    (answer : Answer) : Type 0 where
  pub goes_on : count < 2 ^ 48 → AnswersFront offset (front_in v count bytes) room left answer
  pub at_most : 2 ^ 48 ≤ count → AnswersLast v offset bytes (front_in v count bytes) answer

-- what a reader that stands here answers where these bytes are left, with what the room then holds, what is left
-- then, and where it stands
abbrev pub Answers : Stage → List ℕ → List ℕ → Option (List ℕ) → Stage → Answer → Type 0
Answers stage.Start bytes room left after answer = AnswersStart bytes room left after answer
Answers (stage.Within v count offset) bytes room left after answer = AnswersWithin v count offset bytes room left answer
Answers (stage.Ended v last) bytes room left after answer = (answer ≡ last) × (left ≡ Some bytes)

-- at a read fault one call of the source failed, and at any other answer none
pub record HasReadCause {T : Type 0} (old new : Seen) (answer : Result T ReadRefusal) : Type 0 where
  pub failed : answer ≡ Err refusal.ReadFault → new.faults ≡ next_count old.faults
  pub kept : answer ≢ Err refusal.ReadFault → new.faults ≡ old.faults
