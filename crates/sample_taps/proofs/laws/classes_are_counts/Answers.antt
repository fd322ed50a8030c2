use Rattle.sample_taps.proofs.ClassCounts.{counted_exactly, one_kind_each, classes_more}
use Rattle.sample_taps.proofs.laws.classes_are_counts.Goals as goal

pub returns-clause-exact : goal.returns-clause-exact
returns-clause-exact c = λ test headers few. counted_exactly test headers few

pub returns-clause-one_kind : goal.returns-clause-one_kind
returns-clause-one_kind c = λ headers few. one_kind_each headers few

pub returns-clause-in_turn : goal.returns-clause-in_turn
returns-clause-in_turn c = λ before after. classes_more before after
