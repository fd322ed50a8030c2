use Rattle.count_spec.proofs.Stretches.{stretches-count}
use Rattle.count_spec.proofs.laws.items_are_conserved.Goals as goal

pub returns : goal.returns
returns g c = λ place items test. stretches-count place test items
