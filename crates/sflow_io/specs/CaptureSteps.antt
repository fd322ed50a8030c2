-- Reading a capture answer by answer: what was given so far, in the words of captures of either version.
use Rattle.std.specs.Prelude.{◌≡◌, ℕ, ◌+◌, ◌^◌, ◌<◌, ◌≤◌, ◌⊎◌, List, [], ◌∷◌, ◌++◌, length, take, Option, Some, None, Ok, Err}
use Rattle.wire_spec.specs.declared.input_kind.InputKind.{InputKind}
use Rattle.capture_spec.specs.declared.capture_version.CaptureVersion.{CaptureVersion}
use Rattle.capture_spec.specs.Items.{Received}
use Rattle.capture_spec.specs.VersionedCaptures.{IsBrokenAt, ReceivedAll, ReceivedFault, ReceivedThen, opened_bytes}
use Rattle.byte_ends.specs.Seen.{Seen}
use Rattle.byte_ends.specs.Unread.{unread}
use Rattle.sflow_io.specs.declared.capture.Next.TheVariants as next
use Rattle.sflow_io.specs.declared.capture.ReadRefusal.TheVariants as refusal
use Rattle.sflow_io.specs.declared.capture.Stage.{Stage}
use Rattle.sflow_io.specs.declared.capture.Stage.TheVariants as stage
use Rattle.sflow_io.specs.CaptureAnswers.{Answer, HasNoHeader, IsFurther, ReaderState}
use Rattle.sflow_io.specs.ReadFaults.{StopsBehind}
use Rattle.sflow_io.specs.Senders.{sender_in}

-- the entries so far, and that of an answer whose bytes are the first of the room
abbrev pub with_answer : List Received → List ℕ → Answer → List Received
with_answer entries room (Ok (next.Entry at from len)) =
    entries ++ record { arrival = at; sender = sender_in from; bytes = take len room } ∷ []
with_answer entries room (Ok next.End) = entries
with_answer entries room (Err e) = entries

-- the bytes begin with a header and these entries, if there are any
abbrev pub BeginsWithEntries : List ℕ → List Received → Type 0
BeginsWithEntries bytes entries =
    (entries ≡ []) ⊎ ((v : CaptureVersion) × (rest : List ℕ) × ReceivedThen v entries rest bytes)

-- what stands behind these entries is met: they are fewer than 2^48, or so many and it is no further entry
abbrev pub IsMet : CaptureVersion → List Received → List ℕ → Type 0
IsMet v entries rest = (length entries < 2 ^ 48) ⊎ ((length entries ≡ 2 ^ 48) × ¬ (IsFurther v rest))

-- what stands behind these entries is broken, and there is the fault
pub record BreaksBehind (entries : List Received) (bytes : List ℕ) (at : ℕ) (kind : InputKind) : Type 0 where
  pub version : CaptureVersion
  pub rest : List ℕ
  pub within : ℕ
  pub before : ReceivedThen version entries rest bytes
  pub met : IsMet version entries rest
  pub broken : IsBrokenAt version (length entries) rest within kind
  pub place : at ≡ length (opened_bytes version entries) + within

-- the fault of the bytes stands behind these entries: there are none where the header is broken
pub record FaultBehind (entries : List Received) (bytes : List ℕ) (at : ℕ) (kind : InputKind) : Type 0 where
  pub fault : ReceivedFault bytes at kind
  pub behind : ((entries ≡ []) × HasNoHeader bytes) ⊎ BreaksBehind entries bytes at kind

-- the bytes are a capture of this version of these entries, at most 2^48
pub record IsAllOf (v : CaptureVersion) (entries : List Received) (bytes : List ℕ) : Type 0 where
  pub few : length entries ≤ 2 ^ 48
  pub capture : ReceivedAll v entries bytes

-- 2^48 entries, and a further one is to come
pub record GoesOn (entries : List Received) (bytes : List ℕ) : Type 0 where
  pub version : CaptureVersion
  pub rest : List ℕ
  pub before : ReceivedThen version entries rest bytes
  pub number : length entries ≡ 2 ^ 48
  pub more : IsFurther version rest

-- the bytes are a capture of these entries, in the version that was read
abbrev pub IsAllIn : Option CaptureVersion → List Received → List ℕ → Type 0
IsAllIn None entries bytes = ⊥
IsAllIn (Some v) entries bytes = IsAllOf v entries bytes

-- What the last answer says of the bytes, where these entries were given before it, this version was read and the source
-- has so much left.
abbrev pub EndsAt : Option CaptureVersion → List Received → List ℕ → Option (List ℕ) → Answer → Type 0
EndsAt v entries bytes left (Ok (next.Entry at from len)) = ⊥
EndsAt v entries bytes left (Ok next.End) = IsAllIn v entries bytes
EndsAt v entries bytes left (Err (refusal.BadInput at kind)) = FaultBehind entries bytes at kind
EndsAt v entries bytes left (Err refusal.Spent) = GoesOn entries bytes
EndsAt v entries bytes left (Err refusal.ReadFault) = StopsBehind entries bytes left

-- the bytes begin with these entries, so many to this offset, and the others are left
pub record IsBehind (v : CaptureVersion) (entries : List Received) (bytes : List ℕ) (count offset : ℕ)
    (left : Option (List ℕ)) : Type 0 where
  pub rest : List ℕ
  pub before : ReceivedThen v entries rest bytes
  pub left_is : left ≡ Some rest
  pub count_is : count ≡ length entries
  pub offset_is : offset ≡ length (opened_bytes v entries)
  pub few : count ≤ 2 ^ 48

-- of these bytes a reader that stands here has given these entries: `more` is unread, and the source has `left` of it
abbrev pub HasGivenAt : List ℕ → List Received → Stage → Option (List ℕ) → Option (List ℕ) → Type 0
HasGivenAt bytes entries stage.Start more left = (entries ≡ []) × (more ≡ Some bytes)
HasGivenAt bytes entries (stage.Within v count offset) more left = IsBehind v entries bytes count offset more
HasGivenAt bytes entries (stage.Ended v last) more left = EndsAt v entries bytes left last

-- of these bytes the reader has given these entries, where the source shows this
abbrev pub HasGiven : List ℕ → List Received → ReaderState → Seen → Type 0
HasGiven bytes entries reader source =
    HasGivenAt bytes entries reader.stage (unread reader.held source) source.told
