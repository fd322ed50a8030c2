use Rattle.count_spec.proofs.CounterRises.{rise-of_32_bits}
use Rattle.count_spec.proofs.laws.counters_rise_alike.Goals as goal

pub returns : goal.returns
returns c = λ values. rise-of_32_bits values
