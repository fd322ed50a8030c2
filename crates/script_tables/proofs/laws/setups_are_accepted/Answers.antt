use Rattle.script_tables.proofs.Accepted.{accepted}
use Rattle.script_tables.proofs.laws.setups_are_accepted.Goals as goal

pub returns : goal.returns
returns c = accepted
