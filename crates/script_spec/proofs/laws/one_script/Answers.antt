use Rattle.script_spec.proofs.Walks.{one_of}
use Rattle.script_spec.proofs.laws.one_script.Goals as goal

pub returns : goal.returns
returns c = one_of
