use Rattle.std.proofs.Common.{refl}
use Rattle.books_spec.proofs.Generations.{greatest-moves, opening-stays}
use Rattle.books_spec.proofs.generation_laws.places_move.Goals as goal

pub returns-clause-greatest : goal.returns-clause-greatest
returns-clause-greatest g c = λ place mark width x y more. greatest-moves place mark width x y more

pub returns-clause-greatest_of_one : goal.returns-clause-greatest_of_one
returns-clause-greatest_of_one g c = λ place mark width x. refl

pub returns-clause-opening : goal.returns-clause-opening
returns-clause-opening g c = λ place mark x y more. opening-stays place mark x y more

pub returns-clause-opening_of_one : goal.returns-clause-opening_of_one
returns-clause-opening_of_one g c = λ place mark x. refl
