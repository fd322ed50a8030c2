use Rattle.count_spec.proofs.Near.{mark_of-near, near-from, near-below, near-mark_of}
use Rattle.count_spec.proofs.laws.near_is_the_one_number.Goals as goal

pub returns-clause-shows_the_mark : goal.returns-clause-shows_the_mark
returns-clause-shows_the_mark c = λ mark top small. mark_of-near mark top small

pub returns-clause-from : goal.returns-clause-from
returns-clause-from c = λ mark top. near-from mark top

pub returns-clause-below : goal.returns-clause-below
returns-clause-below c = λ mark top. near-below mark top

pub returns-clause-found_again : goal.returns-clause-found_again
returns-clause-found_again c = λ n top from below. near-mark_of n top from below
