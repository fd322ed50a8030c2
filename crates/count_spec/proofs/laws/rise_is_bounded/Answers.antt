use Rattle.count_spec.proofs.Rises.{rise-bound}
use Rattle.count_spec.proofs.laws.rise_is_bounded.Goals as goal

pub returns : goal.returns
returns c = λ first before. rise-bound first before
