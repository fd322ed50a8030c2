-- How a run over a capture ends, once reading has.
use Rattle.std.specs.Prelude.{◌≡◌, ℕ, List, nat_lt, if◌then◌else◌}
use Rattle.sflow_io.specs.declared.capture.ReadRefusal.{ReadRefusal}
use Rattle.sflow_io.specs.declared.capture.ReadRefusal.TheVariants as refusals
use Rattle.byte_ends.specs.Seen.{Seen, Takes, TakesPart}
use Rattle.command_runs.specs.declared.status.Status.{Status}
use Rattle.command_runs.specs.declared.status.Status.TheVariants.{Done, Found, ReadFault, WriteFault, BadInput, Spent}
use Rattle.command_runs.specs.declared.walk.Counts.{Counts}

-- the status that names the refusal of a reader
abbrev pub refusal_status : ReadRefusal → Status
refusal_status refusals.ReadFault = ReadFault
refusal_status (refusals.BadInput at kind) = BadInput at kind
refusal_status refusals.Spent = Spent

-- the status of a run that read all entries: something was found where one is marked
abbrev pub counted_status : Counts → Status
counted_status counts = if nat_lt 0 counts.marked then Found else Done

-- the text was written and the run has this status, or a write failed within it
pub data Flushed (old new : Seen) (text : List ℕ) (status result : Status) : Type 0 where
  whole : result ≡ status → Takes old new text → Flushed old new text status result
  part : result ≡ WriteFault → TakesPart old new text → Flushed old new text status result
