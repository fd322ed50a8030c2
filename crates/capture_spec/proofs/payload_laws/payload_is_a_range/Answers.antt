use Rattle.capture_spec.proofs.Ranges.{payload_in_frame}
use Rattle.capture_spec.proofs.payload_laws.payload_is_a_range.Goals as goal

pub returns : goal.returns
returns c = payload_in_frame
