use Rattle.agent_spec.proofs.Numbers.{numbered}
use Rattle.agent_spec.proofs.laws.numbers_follow.Goals as goal

pub returns : goal.returns
returns c = λ s events turn first has. numbered turn first s events has
