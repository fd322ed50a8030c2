use Rattle.wire_spec.proofs.CaptureEntries.{length-entry_bytes}
use Rattle.wire_spec.proofs.CaptureWalks.{no_entries_are, capture_bytes-push}
use Rattle.wire_spec.proofs.captures.capture_grows.Goals as goal

pub returns-clause-header : goal.returns-clause-header
returns-clause-header c = no_entries_are

pub returns-clause-grows : goal.returns-clause-grows
returns-clause-grows c = capture_bytes-push

pub returns-clause-number : goal.returns-clause-number
returns-clause-number c = length-entry_bytes
