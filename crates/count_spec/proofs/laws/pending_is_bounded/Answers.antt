use Rattle.count_spec.specs.Windows.{counted}
use Rattle.count_spec.proofs.Conservation.{parts-pending-bound}
use Rattle.count_spec.proofs.laws.pending_is_bounded.Goals as goal

pub returns : goal.returns
returns c = λ width marks one. parts-pending-bound width (counted width marks) one
