use Rattle.std.proofs.Common.{refl}
use Rattle.command_runs.proofs.Ends.{flushed_after}
use Rattle.sflow_tool.proofs.relay.finish.Goals as goal

pub returns-in-Ok : goal.returns-in-Ok
returns-in-Ok g c = λ l items stands. flushed_after _ _ _ _ _ _ _ _ _ (c.in-Ok.ensures l items stands) refl c.flush.ensures
