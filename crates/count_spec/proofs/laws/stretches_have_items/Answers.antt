use Rattle.count_spec.proofs.Stretches.{stretches-some}
use Rattle.count_spec.proofs.laws.stretches_have_items.Goals as goal

pub returns : goal.returns
returns g c = λ place items. stretches-some place items
