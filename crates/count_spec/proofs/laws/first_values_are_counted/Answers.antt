use Rattle.count_spec.proofs.Rises.{first_values-numbers}
use Rattle.count_spec.proofs.laws.first_values_are_counted.Goals as goal

pub returns : goal.returns
returns g c = λ mark value width samples. first_values-numbers mark value width samples
