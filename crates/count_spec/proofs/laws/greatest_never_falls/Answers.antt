use Rattle.count_spec.proofs.Counted.{counted-greatest}
use Rattle.count_spec.proofs.laws.greatest_never_falls.Goals as goal

pub returns : goal.returns
returns c = λ width mark last before. counted-greatest width mark last before
