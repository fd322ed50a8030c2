use Rattle.std.proofs.Common.{refl}
use Rattle.command_runs.proofs.Ends.{flushed_after}
use Rattle.sflow_tool.proofs.TriedLines.{open_as}
use Rattle.sflow_tool.proofs.TrialTexts.{flushed_new}
use Rattle.sflow_tool.proofs.trial.finish.Goals as goal

pub returns-in-Ok : goal.returns-in-Ok
returns-in-Ok g c = λ lines ready few stands.
    flushed_new _ _ _ _ _ _ c.new-page.ensures
    (flushed_after _ _ _ _ _ _ _ _ _
    (c.in-Ok.ensures _ lines ready.run.lawful (open_as c.args.run.now _ lines ready c.in-Some.is) few stands) refl c.flush.ensures)
