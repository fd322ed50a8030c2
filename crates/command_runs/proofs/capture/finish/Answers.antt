use Rattle.command_runs.proofs.Ends.{flushed_after}
use Rattle.command_runs.proofs.capture.finish.Goals as goal

pub returns-in-Ok : goal.returns-in-Ok
returns-in-Ok g c = λ entries were counts.
    flushed_after _ _ _ _ _ _ _ _ _ (c.in-Ok.ensures.prints entries were counts) c.status_by.ensures c.flush.ensures
