use Rattle.agent_spec.proofs.Sent.{counted}
use Rattle.agent_spec.proofs.sending.datagrams_count_up.Goals as goal

pub returns : goal.returns
returns c = λ s events. counted s events
