use Rattle.command_runs.proofs.CaptureEndings.{captures_once}
use Rattle.command_runs.proofs.laws.captures_end_once.Goals as goal

pub returns : goal.returns
returns c = captures_once
