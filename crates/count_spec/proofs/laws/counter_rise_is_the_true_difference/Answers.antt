use Rattle.std.proofs.Common.{refl}
use Rattle.count_spec.proofs.CounterRises.{counter_rise-is, step-of_32_bits, step-of_64_bits}
use Rattle.count_spec.proofs.laws.counter_rise_is_the_true_difference.Goals as goal

pub returns-clause-of_32_bits : goal.returns-clause-of_32_bits
returns-clause-of_32_bits c = λ values distinct rises less.
    counter_rise-is 4294967296 step-of_32_bits refl values distinct rises less

pub returns-clause-of_64_bits : goal.returns-clause-of_64_bits
returns-clause-of_64_bits c = λ values distinct rises less.
    counter_rise-is 18446744073709551616 step-of_64_bits refl values distinct rises less
