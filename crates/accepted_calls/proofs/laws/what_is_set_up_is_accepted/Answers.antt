use Rattle.accepted_calls.proofs.SetUps.{accepted}
use Rattle.accepted_calls.proofs.laws.what_is_set_up_is_accepted.Goals as goal

pub returns : goal.returns
returns c = accepted
