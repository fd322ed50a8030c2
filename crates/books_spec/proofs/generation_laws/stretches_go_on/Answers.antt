use Rattle.std.proofs.Common.{refl}
use Rattle.books_spec.proofs.GenerationViews.{stretches-new_boot, stretches-open, stretches-stay}
use Rattle.books_spec.proofs.generation_laws.stretches_go_on.Goals as goal

pub returns-clause-new_boot : goal.returns-clause-new_boot
returns-clause-new_boot g c = λ place mark width x before closed. stretches-new_boot place mark width x before closed

pub returns-clause-passed_boot : goal.returns-clause-passed_boot
returns-clause-passed_boot g c = λ place mark width closed. refl

pub returns-clause-first : goal.returns-clause-first
returns-clause-first g c = λ place mark width x closed. (refl, refl)

pub returns-clause-opens : goal.returns-clause-opens
returns-clause-opens g c = λ place mark width x before current gone closed are e.
    stretches-open place mark width x before current gone closed are e

pub returns-clause-stays : goal.returns-clause-stays
returns-clause-stays g c = λ place mark width x before current gone closed are e f.
    stretches-stay place mark width x before current gone closed are e f
