use Rattle.count_spec.proofs.Rises.{rise_between-bound, rise_between-sum}
use Rattle.count_spec.proofs.laws.rise_between_is_exact.Goals as goal

pub returns-clause-below : goal.returns-clause-below
returns-clause-below c = λ old new. rise_between-bound old new

pub returns-clause-leads : goal.returns-clause-leads
returns-clause-leads c = λ old new. rise_between-sum old new
