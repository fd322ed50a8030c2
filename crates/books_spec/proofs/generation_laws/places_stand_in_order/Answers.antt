use Rattle.books_spec.proofs.PlaceOrder.{before-itself, before-both, before-either, greatest-last}
use Rattle.books_spec.proofs.generation_laws.places_stand_in_order.Goals as goal

pub returns-clause-not_before_itself : goal.returns-clause-not_before_itself
returns-clause-not_before_itself c = λ p. before-itself p

pub returns-clause-in_turn : goal.returns-clause-in_turn
returns-clause-in_turn c = λ p q r e f. before-both p q r e f

pub returns-clause-one_of_two : goal.returns-clause-one_of_two
returns-clause-one_of_two c = λ p q e f. before-either p q e f

pub returns-clause-greatest : goal.returns-clause-greatest
returns-clause-greatest c = λ p more. greatest-last p more
