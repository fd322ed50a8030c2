use Rattle.count_spec.proofs.Restarts.{near_multiple-iff}
use Rattle.count_spec.proofs.laws.wraps_of_the_uptime_are_allowed_for.Goals as goal

pub returns : goal.returns
returns c = λ slack d. near_multiple-iff slack d
