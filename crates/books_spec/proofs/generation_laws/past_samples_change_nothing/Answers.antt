use Rattle.count_spec.specs.declared.stretch_place.StretchPlace.TheVariants.{Stale}
use Rattle.books_spec.specs.Generations.{generations}
use Rattle.std.proofs.Common.{refl}
use Rattle.books_spec.proofs.Generations.{booked-step}
use Rattle.books_spec.proofs.GenerationViews.{stretches-past, stale-past}
use Rattle.books_spec.proofs.generation_laws.past_samples_change_nothing.Goals as goal

pub returns-clause-generations : goal.returns-clause-generations
returns-clause-generations g c = λ place mark width x before closed e. stretches-past place mark width x before closed e

pub returns-clause-counted : goal.returns-clause-counted
returns-clause-counted g c = λ place mark width x before closed e. stale-past place mark width x before closed e

pub returns-clause-answered : goal.returns-clause-answered
returns-clause-answered g c = λ place mark width x before e.
    booked-step place mark width x before (generations place mark width before) Stale refl e
