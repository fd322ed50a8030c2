use Rattle.agent_spec.proofs.Stages.{never-full}
use Rattle.agent_spec.proofs.laws.stage_has_room.Goals as goal

pub returns : goal.returns
returns c = never-full
