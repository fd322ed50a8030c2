-- What a run over a capture has taken by the time it ends, of a command that writes at the end alone.
use Rattle.std.specs.Prelude.{◌≡◌, ℕ, List, [], Option, Some}
use Rattle.wire_spec.specs.Bytes.{AreBytes}
use Rattle.capture_spec.specs.Items.{Received}
use Rattle.sflow_io.specs.CaptureSteps.{FaultBehind, GoesOn, IsAllOf}
use Rattle.sflow_io.specs.ReadFaults.{StopsBehind}
use Rattle.byte_ends.specs.Seen.{Seen}
use Rattle.command_runs.specs.declared.status.Status.{Status}
use Rattle.command_runs.specs.declared.status.Status.TheVariants.{Done, Found, ReadFault, WriteFault, BadInput, Memory, Spent}
use Rattle.command_runs.specs.Grammars.{Capture}

-- These are the entries of the input that came whole before the run ended so, with so much left in the source. A write
-- can fail once all is read, and memory is taken before that.
abbrev pub HasRead : List ℕ → Option (List ℕ) → Capture → Status → Type 0
HasRead input left c Done = IsAllOf c.version c.entries input
HasRead input left c Found = IsAllOf c.version c.entries input
HasRead input left c WriteFault = IsAllOf c.version c.entries input
HasRead input left c ReadFault = StopsBehind c.entries input left
HasRead input left c (BadInput at kind) = FaultBehind c.entries input at kind
HasRead input left c Spent = GoesOn c.entries input
HasRead input left c Memory = c.entries ≡ []
HasRead input left c _ = ⊥

-- these entries of what the source told were taken
pub record HasVisited (visits : List Received → Type 0) (source source' : Seen) (status : Status) : Type 0 where
  pub read : Capture
  pub were : visits read.entries
  pub reads : (input : List ℕ) → AreBytes input → source.told ≡ Some input → HasRead input source'.told read status
