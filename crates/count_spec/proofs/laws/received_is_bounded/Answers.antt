use Rattle.std.proofs.Common.{length}
use Rattle.count_spec.specs.Windows.{counted}
use Rattle.count_spec.proofs.Conservation.{parts-received}
use Rattle.count_spec.proofs.Counted.{counted-bound}
use Rattle.count_spec.proofs.laws.received_is_bounded.Goals as goal

pub returns : goal.returns
returns c = λ width marks. parts-received width (counted width marks) (length marks)
    (counted-bound width marks)
