use Rattle.count_spec.proofs.CounterRises.{slow-is}
use Rattle.count_spec.proofs.laws.slowly_is_without_a_fall.Goals as goal

pub returns : goal.returns
returns c = λ values. slow-is values
