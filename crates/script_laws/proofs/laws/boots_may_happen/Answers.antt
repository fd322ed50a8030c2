use Rattle.script_laws.proofs.Happens.{boots_may}
use Rattle.script_laws.proofs.laws.boots_may_happen.Goals as goal

pub returns : goal.returns
returns c = boots_may
