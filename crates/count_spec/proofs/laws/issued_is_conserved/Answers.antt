use Rattle.count_spec.specs.Windows.{counted}
use Rattle.count_spec.proofs.Conservation.{parts-add_up}
use Rattle.count_spec.proofs.Counted.{counted-distinct}
use Rattle.count_spec.proofs.laws.issued_is_conserved.Goals as goal

pub returns : goal.returns
returns c = λ width marks. parts-add_up width (counted width marks) (counted-distinct width marks)
