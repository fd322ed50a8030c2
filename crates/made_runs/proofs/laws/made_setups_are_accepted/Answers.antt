use Rattle.made_runs.proofs.Accepted.{accepted, compact}
use Rattle.made_runs.proofs.laws.made_setups_are_accepted.Goals as goal

pub returns : goal.returns
returns c = record { accepted = accepted; compact = compact }
