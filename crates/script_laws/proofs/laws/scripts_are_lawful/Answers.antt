use Rattle.script_laws.proofs.Lawful.{lawful_scripts}
use Rattle.script_laws.proofs.laws.scripts_are_lawful.Goals as goal

pub returns : goal.returns
returns c = lawful_scripts
