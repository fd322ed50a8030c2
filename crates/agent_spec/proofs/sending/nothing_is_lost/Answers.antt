use Rattle.agent_spec.proofs.Sent.{whole}
use Rattle.agent_spec.proofs.sending.nothing_is_lost.Goals as goal

pub returns : goal.returns
returns c = λ s events. whole s events
