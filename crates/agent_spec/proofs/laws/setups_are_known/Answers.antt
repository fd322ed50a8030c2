use Rattle.agent_spec.proofs.SetUps.{only, begins}
use Rattle.agent_spec.proofs.laws.setups_are_known.Goals as goal

pub returns-clause-only : goal.returns-clause-only
returns-clause-only c = only

pub returns-clause-first : goal.returns-clause-first
returns-clause-first c = begins
