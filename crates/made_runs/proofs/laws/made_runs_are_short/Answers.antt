use Rattle.made_runs.proofs.Kept.{short-until, short-observed}
use Rattle.made_runs.proofs.laws.made_runs_are_short.Goals as goal

pub returns : goal.returns
returns c = record { until = short-until; observed = short-observed }
