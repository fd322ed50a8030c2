use Rattle.script_laws.proofs.Nexts.{given}
use Rattle.script_laws.proofs.laws.lines_are_given.Goals as goal

pub returns : goal.returns
returns c = given
