use Rattle.delivered_items.proofs.ScriptAccepted.{are_accepted}
use Rattle.delivered_items.proofs.laws.scripts_are_accepted.Goals as goal

pub returns : goal.returns
returns c = are_accepted
