use Rattle.count_spec.proofs.TrueStretches.{true_stretches-step, past_items-step}
use Rattle.count_spec.proofs.laws.true_stretches_go_on.Goals as goal

pub returns-clause-stretches : goal.returns-clause-stretches
returns-clause-stretches g c = λ index x before numbered. true_stretches-step index x before numbered

pub returns-clause-past : goal.returns-clause-past
returns-clause-past g c = λ index x before. past_items-step index x before
