use Rattle.count_spec.proofs.Counted.{answers-add_up}
use Rattle.count_spec.proofs.laws.marks_are_conserved.Goals as goal

pub returns : goal.returns
returns c = λ width marks. answers-add_up width marks
