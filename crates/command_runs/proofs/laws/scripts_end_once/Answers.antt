use Rattle.command_runs.proofs.ScriptEndings.{scripts_once}
use Rattle.command_runs.proofs.laws.scripts_end_once.Goals as goal

pub returns : goal.returns
returns c = scripts_once
