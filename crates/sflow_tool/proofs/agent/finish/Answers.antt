use Rattle.std.proofs.Common.{refl}
use Rattle.command_runs.proofs.Ends.{flushed_after}
use Rattle.sflow_tool.proofs.agent.finish.Goals as goal

pub returns-in-Ok : goal.returns-in-Ok
returns-in-Ok g c = flushed_after _ _ _ _ _ _ _ _ _ c.in-Ok.ensures refl c.flush.ensures
