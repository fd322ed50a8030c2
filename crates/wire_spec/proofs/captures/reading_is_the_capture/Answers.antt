use Rattle.std.proofs.Common.{Ok, Err}
use Rattle.wire_spec.proofs.CaptureOutcomes.{outcome_back, shows_so}
use Rattle.wire_spec.proofs.captures.reading_is_the_capture.Goals as goal

pub returns-clause-entries : goal.returns-clause-entries
returns-clause-entries c =
    λ bytes entries are. (shows_so bytes (Ok entries) are, outcome_back bytes (Ok entries))

pub returns-clause-fault : goal.returns-clause-fault
returns-clause-fault c =
    λ bytes offset kind are. (
      shows_so bytes (Err (offset, kind)) are,
      outcome_back bytes (Err (
        offset,
        kind,
      )),
    )
