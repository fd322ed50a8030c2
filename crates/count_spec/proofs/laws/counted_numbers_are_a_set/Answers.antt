use Rattle.count_spec.proofs.Counted.{counted-distinct}
use Rattle.count_spec.proofs.Sets.{has-greatest, has-greatest-bound, has-least, has-least-bound}
use Rattle.count_spec.proofs.laws.counted_numbers_are_a_set.Goals as goal

pub returns-clause-no_number_twice : goal.returns-clause-no_number_twice
returns-clause-no_number_twice c = λ width marks. counted-distinct width marks

pub returns-clause-greatest_is_there : goal.returns-clause-greatest_is_there
returns-clause-greatest_is_there c = λ n more. has-greatest n more

pub returns-clause-none_is_greater : goal.returns-clause-none_is_greater
returns-clause-none_is_greater c = λ n more k e. has-greatest-bound n more k e

pub returns-clause-least_is_there : goal.returns-clause-least_is_there
returns-clause-least_is_there c = λ n more. has-least n more

pub returns-clause-none_is_less : goal.returns-clause-none_is_less
returns-clause-none_is_less c = λ n more k e. has-least-bound n more k e
