use Rattle.account_laws.proofs.Weaker.{lesser}
use Rattle.account_laws.proofs.Whole.{books-are}
use Rattle.account_laws.proofs.laws.books_are_the_account.Goals as goal

pub returns : goal.returns
returns c = λ l history deliveries p. books-are l history deliveries (lesser l history deliveries p)
