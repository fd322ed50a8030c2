-- What left a source before a read of it failed holds no whole entry.
use Rattle.std.proofs.Common.{◌≡◌, ℕ, inl, inr, List, [], Option, Some, subst}
use Rattle.capture_spec.specs.declared.capture_version.CaptureVersion.{CaptureVersion}
use Rattle.capture_spec.specs.Items.{Received}
use Rattle.capture_spec.specs.ItemReading.{Holds, front_in}
use Rattle.capture_spec.specs.VersionedCaptures.{ReceivedThen}
use Rattle.capture_spec.proofs.ItemFrontsBack.{back_in}
use Rattle.byte_ends.specs.Unread.{StopsWithin}
use Rattle.byte_ends.proofs.Unread.{moved}
use Rattle.sflow_io.specs.ReadFaults.{HasNoEntry, HoldsNone, StopsBehind, StopsIn}

no_entry : (v : CaptureVersion) (count : ℕ) (part : List ℕ) → HoldsNone (front_in v count part) → HasNoEntry v part
no_entry v count part none e more fits whole =
    subst HoldsNone (back_in v count part (Holds e more) (fits, whole)) none

pub stopped_behind : (v : CaptureVersion) (entries : List Received) (count : ℕ) (bytes rest : List ℕ) (old left : Option (List ℕ))
    → ReceivedThen v entries rest bytes → old ≡ Some rest → StopsIn (front_in v count) old left
    → StopsBehind entries bytes left
stopped_behind v entries count bytes rest old left before told s =
    let m = moved old left rest s.part told s.moved in
    record {
      part = s.part;
      rest = m.rest;
      gone = inr (v, subst (λ l. ReceivedThen v entries l bytes) m.whole before, no_entry v count s.part s.none);
      left_is = m.left_is;
    }

pub stopped_in_header : (entries : List Received) (bytes : List ℕ) (old left : Option (List ℕ)) → entries ≡ []
    → old ≡ Some bytes → StopsWithin old left 8 → StopsBehind entries bytes left
stopped_in_header entries bytes old left none told s =
    let m = moved old left bytes s.part told s.moved in
    record { part = s.part; rest = m.rest; gone = inl (none, s.few, m.whole); left_is = m.left_is }
