-- Where reading stands when a read of the source has failed: what left the source and was given to nobody.
use Rattle.std.specs.Prelude.{◌≡◌, ◌≢◌, ⊤, ℕ, ◌<◌, ◌⊎◌, List, [], ◌++◌, length, Option, Some}
use Rattle.std.specs.Io.KnownBytes.{Consumes}
use Rattle.capture_spec.specs.declared.capture_version.CaptureVersion.{CaptureVersion}
use Rattle.capture_spec.specs.Items.{Received}
use Rattle.capture_spec.specs.ItemReading.{Front, Stops, Holds, Breaks}
use Rattle.capture_spec.specs.VersionedCaptures.{IsReceived, ReceivedThen, received_bytes}

-- no whole entry stands there
abbrev pub HoldsNone : Front → Type 0
HoldsNone Stops = ⊤
HoldsNone (Holds e rest) = ⊥
HoldsNone (Breaks within kind) = ⊤

-- no whole entry, as this front has it of the bytes that left, left the source
pub record StopsIn (front : List ℕ → Front) (old new : Option (List ℕ)) : Type 0 where
  pub part : List ℕ
  pub moved : Consumes old new part
  pub none : HoldsNone (front part)

-- no whole entry of this version stands at the front of these bytes
abbrev pub HasNoEntry : CaptureVersion → List ℕ → Type 0
HasNoEntry v part = (e : Received) (more : List ℕ) → IsReceived v e → part ≢ received_bytes v e ++ more

-- What left the source is a part of a header, where there are no entries; or the header, these entries and a part in
-- which no whole entry stands.
abbrev pub IsAllThatLeft : List Received → List ℕ → List ℕ → List ℕ → Type 0
IsAllThatLeft entries bytes part rest =
    ((entries ≡ []) × (length part < 8) × (bytes ≡ part ++ rest))
    ⊎ ((v : CaptureVersion) × ReceivedThen v entries (part ++ rest) bytes × HasNoEntry v part)

-- of these bytes, reading gave these entries and no whole entry is lost: the source has left what follows the part
pub record StopsBehind (entries : List Received) (bytes : List ℕ) (left : Option (List ℕ)) : Type 0 where
  pub part : List ℕ
  pub rest : List ℕ
  pub gone : IsAllThatLeft entries bytes part rest
  pub left_is : left ≡ Some rest
