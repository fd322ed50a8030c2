use Rattle.books_spec.proofs.Sums.{rise_over-few}
use Rattle.books_spec.proofs.laws.rise_is_bounded.Goals as goal

pub returns : goal.returns
returns g c = λ mark value width boots. rise_over-few mark value width boots
