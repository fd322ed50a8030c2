use Rattle.books_spec.proofs.Generations.{generations-length}
use Rattle.books_spec.proofs.generation_laws.generations_grow_by_one.Goals as goal

pub returns-clause-from : goal.returns-clause-from
returns-clause-from g c = λ place mark width x before. (generations-length place mark width x before).0

pub returns-clause-to : goal.returns-clause-to
returns-clause-to g c = λ place mark width x before. (generations-length place mark width x before).1
