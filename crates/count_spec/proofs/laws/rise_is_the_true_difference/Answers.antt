use Rattle.count_spec.proofs.Rises.{rise-is}
use Rattle.count_spec.proofs.laws.rise_is_the_true_difference.Goals as goal

pub returns : goal.returns
returns c = λ values distinct slow. rise-is values distinct slow
