use Rattle.agent_spec.proofs.Sized.{fits-whatever}
use Rattle.agent_spec.proofs.sending.room_for_samples.Goals as goal

pub returns : goal.returns
returns c = fits-whatever
