use Rattle.capture_spec.proofs.VersionedOutcomes.{has_one_capture}
use Rattle.capture_spec.proofs.version_laws.one_capture.Goals as goal

pub returns : goal.returns
returns c = has_one_capture
