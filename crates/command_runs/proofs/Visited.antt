-- What was taken of a capture by the time that a run ends.
use Rattle.std.proofs.Common.{ℕ, List, [], Option, Err, refl}
use Rattle.capture_spec.specs.declared.capture_version.CaptureVersion.{CaptureVersion}
use Rattle.capture_spec.specs.declared.capture_version.CaptureVersion.TheVariants.{One}
use Rattle.capture_spec.specs.Items.{Received}
use Rattle.byte_ends.specs.Seen.{Seen}
use Rattle.sflow_io.specs.CaptureSteps.{EndsAt}
use Rattle.sflow_io.specs.declared.capture.ReadRefusal.{ReadRefusal}
use Rattle.sflow_io.specs.declared.capture.ReadRefusal.TheVariants as refusals
use Rattle.command_runs.specs.declared.status.Status.TheVariants.{Memory}
use Rattle.command_runs.specs.Endings.{refusal_status}
use Rattle.command_runs.specs.Visits.{HasRead, HasVisited}

-- the last answer of a reader says what was read
pub reads_so : (entries : List Received) (v : Option CaptureVersion) (input : List ℕ) (left : Option (List ℕ))
    (r : ReadRefusal) → EndsAt v entries input left (Err r)
    → HasRead input left (record { version = One; entries = entries }) (refusal_status r)
reads_so entries v input left refusals.ReadFault h = h
reads_so entries v input left (refusals.BadInput at kind) h = h
reads_so entries v input left refusals.Spent h = h

-- nothing was, where memory is wanting
pub none_visited : (visits : List Received → Type 0) (source source' : Seen) → visits []
    → HasVisited visits source source' Memory
none_visited visits source source' were = record {
  read = record { version = One; entries = [] };
  were = were;
  reads = λ input are told. refl;
}
