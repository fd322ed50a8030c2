use Rattle.std.proofs.Common.{arith}
use Rattle.command_words.proofs.Numerals.{number_decimal, decimal_number}
use Rattle.command_words.proofs.laws.numbers_are_decimal.Goals as goal

pub returns-clause-narrow : goal.returns-clause-narrow
returns-clause-narrow c = λ text n.
    (number_decimal 32 text n (omega arith), λ is. decimal_number 32 text n (omega arith) is.0 is.1)

pub returns-clause-wide : goal.returns-clause-wide
returns-clause-wide c = λ text n.
    (number_decimal 64 text n (omega arith), λ is. decimal_number 64 text n (omega arith) is.0 is.1)
