use Rattle.delivered_items.proofs.MadeAccepted.{made-accepted}
use Rattle.delivered_items.proofs.laws.made_runs_are_accepted.Goals as goal

pub returns : goal.returns
returns c = made-accepted
