use Rattle.agent_spec.proofs.Sums.{marked-is}
use Rattle.agent_spec.proofs.laws.marks_are_sums.Goals as goal

pub returns : goal.returns
returns c = marked-is
