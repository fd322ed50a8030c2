use Rattle.books_spec.proofs.Sums.{over-marks}
use Rattle.books_spec.proofs.laws.marks_are_conserved.Goals as goal

pub returns : goal.returns
returns c = λ width boots. over-marks width boots
