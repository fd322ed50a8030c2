use Rattle.std.proofs.Common.{Ok, Err}
use Rattle.capture_spec.proofs.VersionedOutcomes.{outcome_back, shows_so}
use Rattle.capture_spec.proofs.version_laws.received_reading_is_the_capture.Goals as goal

pub returns-clause-entries : goal.returns-clause-entries
returns-clause-entries c =
    λ bytes v entries are. (shows_so bytes (Ok (v, entries)) are, outcome_back bytes (Ok (v, entries)))

pub returns-clause-fault : goal.returns-clause-fault
returns-clause-fault c =
    λ bytes offset kind are. (shows_so bytes (Err (offset, kind)) are, outcome_back bytes (Err (offset, kind)))
