use Rattle.agent_spec.proofs.Prefixes.{cut-joins}
use Rattle.agent_spec.proofs.sending.prefixes_are_the_whole.Goals as goal

pub returns : goal.returns
returns c = λ fits samples. cut-joins fits samples
