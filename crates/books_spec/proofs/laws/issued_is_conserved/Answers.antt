use Rattle.books_spec.proofs.Sums.{over-issued}
use Rattle.books_spec.proofs.laws.issued_is_conserved.Goals as goal

pub returns : goal.returns
returns c = λ width boots. over-issued width boots
