use Rattle.wire_spec.proofs.CaptureOutcomes.{has_one_reading}
use Rattle.wire_spec.proofs.captures.one_capture_reading.Goals as goal

pub returns : goal.returns
returns c = has_one_reading
