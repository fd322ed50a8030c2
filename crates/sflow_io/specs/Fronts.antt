-- What a part of the reader answers of what stands at the front of the bytes that are left, field by field.
use Rattle.std.specs.Prelude.{◌≡◌, ⊤, ℕ, ◌<◌, nat_lt, if◌then◌else◌, List, ◌++◌, length, Option, Some, Result, Ok, Err}
use Rattle.std.specs.Io.KnownBytes.{Consumes}
use Rattle.wire_spec.specs.declared.input_kind.InputKind.TheVariants.{After, Cut, Long}
use Rattle.wire_spec.specs.CaptureReading as entries
use Rattle.wire_spec.specs.CaptureReading.{front_of, front_of_body}
use Rattle.capture_spec.specs.Items.{Sender, hyper}
use Rattle.capture_spec.specs.ItemReading.{Front, Stops, Breaks, front_from}
use Rattle.byte_ends.specs.Seen.{Seen}
use Rattle.byte_ends.specs.Unread.{StopsWithin, unread}
use Rattle.sflow_io.specs.declared.capture.ReadRefusal.{ReadRefusal}
use Rattle.sflow_io.specs.declared.capture.ReadRefusal.TheVariants as refusal
use Rattle.sflow_io.specs.CaptureAnswers.{Answer, AnswersFront, EndsSource, HasReadCause, IsShortEntry}
use Rattle.sflow_io.specs.ReadFaults.{StopsIn}

-- ---- a datagram, whose entry has this arrival and this sender, and so many bytes more before it than in version 1

-- from its bytes on, of which there are so many
abbrev pub body_front : Option Sender → ℕ → ℕ → ℕ → List ℕ → Front
body_front sender more at len bytes = front_from sender more (front_of_body at len bytes)

-- the same where it may have too many
abbrev pub sized : ℕ → ℕ → List ℕ → entries.Front
sized at len bytes = if nat_lt 65535 len then entries.Breaks 8 Long else front_of_body at len bytes

abbrev pub sized_front : Option Sender → ℕ → ℕ → ℕ → List ℕ → Front
sized_front sender more at len bytes = front_from sender more (sized at len bytes)

-- from its length on
abbrev pub datagram_front : Option Sender → ℕ → ℕ → List ℕ → Front
datagram_front sender more at bytes = front_from sender more (front_of (hyper at ++ bytes))

-- behind an end item
abbrev pub after_front : List ℕ → Front
after_front bytes = if nat_lt 0 (length bytes) then Breaks 12 After else Stops

-- ---- what is read

-- `front` says what stands where these bytes are left; the entry or item begins at this offset
pub record ReadsFront (front : List ℕ → Front) (offset : ℕ) (held : List ℕ) (source : Seen) (held' : List ℕ) (source' : Seen)
    (room : List ℕ) (answer : Answer) : Type 0 where
  pub told : (bytes : List ℕ) → unread held source ≡ Some bytes
      → AnswersFront offset (front bytes) room (unread held' source') answer
  pub stops : answer ≡ Err refusal.ReadFault → StopsIn front (unread held source) source'.told
  pub short : IsShortEntry answer
  pub at_end : EndsSource answer source'.told
  pub cause : HasReadCause source source' answer

-- A part was filled with the first bytes; or there are fewer, which is a cut of what begins at this offset; or a read
-- failed.
abbrev pub FillsOrCuts : ℕ → Option (List ℕ) → Option (List ℕ) → Option (List ℕ) → List ℕ → Result ⊤ ReadRefusal → Type 0
FillsOrCuts offset old new left part (Ok done) = Consumes old new part
FillsOrCuts offset old new left part (Err (refusal.BadInput at kind)) =
    (at ≡ offset) × (kind ≡ Cut) × ((bytes : List ℕ) → old ≡ Some bytes → length bytes < length part)
FillsOrCuts offset old new left part (Err refusal.ReadFault) = StopsWithin old left (length part)
FillsOrCuts offset old new left part (Err refusal.Spent) = ⊥

pub record ReadsPart (offset : ℕ) (held : List ℕ) (source : Seen) (held' : List ℕ) (source' : Seen) (part : List ℕ)
    (result : Result ⊤ ReadRefusal) : Type 0 where
  pub outcome : FillsOrCuts offset (unread held source) (unread held' source') source'.told part result
  pub cause : HasReadCause source source' result
