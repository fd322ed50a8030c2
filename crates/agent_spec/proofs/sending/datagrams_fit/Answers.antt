use Rattle.agent_spec.proofs.Prefixes.{cut-fits}
use Rattle.agent_spec.proofs.sending.datagrams_fit.Goals as goal

pub returns : goal.returns
returns c = λ fits samples each. cut-fits fits samples each
