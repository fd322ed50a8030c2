use Rattle.wire_spec.proofs.CaptureOffsets.{fault_within}
use Rattle.wire_spec.proofs.captures.fault_is_within.Goals as goal

pub returns : goal.returns
returns c = fault_within
