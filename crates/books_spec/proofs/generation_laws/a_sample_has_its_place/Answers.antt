use Rattle.std.proofs.Common.{refl}
use Rattle.books_spec.proofs.Generations.{generations-open, generations-stale, generations-stay}
use Rattle.books_spec.proofs.generation_laws.a_sample_has_its_place.Goals as goal

pub returns-clause-first : goal.returns-clause-first
returns-clause-first g c = λ place mark width x. refl

pub returns-clause-opens : goal.returns-clause-opens
returns-clause-opens g c = λ place mark width x before current closed are e. generations-open place mark width x before current closed are e

pub returns-clause-stale : goal.returns-clause-stale
returns-clause-stale g c = λ place mark width x before current closed are e f.
    generations-stale place mark width x before current closed are e f

pub returns-clause-stays : goal.returns-clause-stays
returns-clause-stays g c = λ place mark width x before current closed are e f.
    generations-stay place mark width x before current closed are e f
