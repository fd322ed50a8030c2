use Rattle.std.proofs.Common.{◌∷◌, refl}
use Rattle.count_spec.specs.declared.stretch_place.StretchPlace.TheVariants.{Current, Next, Stale}
use Rattle.books_spec.proofs.Generations.{place-opens, place-stale, place-stays, booked-step}
use Rattle.books_spec.proofs.generation_laws.a_sample_is_answered.Goals as goal

pub returns-clause-first : goal.returns-clause-first
returns-clause-first g c = λ place mark width x. refl

pub returns-clause-opens : goal.returns-clause-opens
returns-clause-opens g c = λ place mark width x before current closed are e.
    booked-step place mark width x before (current ∷ closed) Next are (place-opens place mark width current closed x e)

pub returns-clause-stale : goal.returns-clause-stale
returns-clause-stale g c = λ place mark width x before current closed are e f.
    booked-step place mark width x before (current ∷ closed) Stale are (place-stale place mark width current closed x e f)

pub returns-clause-stays : goal.returns-clause-stays
returns-clause-stays g c = λ place mark width x before current closed are e f.
    booked-step place mark width x before (current ∷ closed) Current are (place-stays place mark width current closed x e f)
