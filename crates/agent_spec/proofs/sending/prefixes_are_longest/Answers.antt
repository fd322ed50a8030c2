use Rattle.agent_spec.proofs.Prefixes.{longest-fits, longest-most}
use Rattle.agent_spec.proofs.sending.prefixes_are_longest.Goals as goal

pub returns-clause-fits : goal.returns-clause-fits
returns-clause-fits c = λ fits samples most many. longest-fits fits samples most many

pub returns-clause-no_longer : goal.returns-clause-no_longer
returns-clause-no_longer c = λ fits samples most size longer within. longest-most fits samples most size longer within
