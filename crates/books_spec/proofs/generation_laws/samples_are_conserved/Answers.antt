use Rattle.books_spec.proofs.GenerationViews.{samples-count, samples-length}
use Rattle.books_spec.proofs.generation_laws.samples_are_conserved.Goals as goal

pub returns-clause-passing : goal.returns-clause-passing
returns-clause-passing g c = λ place mark width test boots. samples-count place mark width test boots

pub returns-clause-all : goal.returns-clause-all
returns-clause-all g c = λ place mark width boots. samples-length place mark width boots
