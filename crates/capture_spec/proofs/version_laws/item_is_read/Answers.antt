use Rattle.capture_spec.proofs.ItemFrontsBack.{shows_in, back_in}
use Rattle.capture_spec.proofs.version_laws.item_is_read.Goals as goal

pub returns-clause-stands : goal.returns-clause-stands
returns-clause-stands c = shows_in

pub returns-clause-read : goal.returns-clause-read
returns-clause-read c = back_in
