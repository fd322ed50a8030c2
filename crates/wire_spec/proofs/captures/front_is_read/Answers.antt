use Rattle.wire_spec.proofs.CaptureFronts.{front_shows}
use Rattle.wire_spec.proofs.CaptureFrontsBack.{front_back}
use Rattle.wire_spec.proofs.captures.front_is_read.Goals as goal

pub returns-clause-stands : goal.returns-clause-stands
returns-clause-stands c = front_shows

pub returns-clause-read : goal.returns-clause-read
returns-clause-read c = front_back
