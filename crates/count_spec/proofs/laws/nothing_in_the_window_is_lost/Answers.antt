use Rattle.count_spec.specs.Windows.{counted}
use Rattle.count_spec.proofs.Conservation.{parts-lost}
use Rattle.count_spec.proofs.laws.nothing_in_the_window_is_lost.Goals as goal

pub returns : goal.returns
returns c = λ width marks small. parts-lost width (counted width marks) small
