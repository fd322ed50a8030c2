use Rattle.account_laws.proofs.Weaker.{lesser}
use Rattle.account_laws.proofs.Whole.{books-are}
use Rattle.account_laws.proofs.laws.what_is_stale_needs_less.Goals as goal

pub returns-clause-implied : goal.returns-clause-implied
returns-clause-implied c = λ l history deliveries p. lesser l history deliveries p

pub returns-clause-enough : goal.returns-clause-enough
returns-clause-enough c = λ l history deliveries p. books-are l history deliveries p
