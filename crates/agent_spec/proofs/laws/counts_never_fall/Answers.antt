use Rattle.agent_spec.proofs.Rising.{never-fall}
use Rattle.agent_spec.proofs.laws.counts_never_fall.Goals as goal

pub returns : goal.returns
returns c = never-fall
