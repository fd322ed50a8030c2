use Rattle.books_spec.proofs.Entered.{readings-are-entered}
use Rattle.books_spec.proofs.book_laws.readings_are_what_was_entered.Goals as goal

pub returns : goal.returns
returns c = λ l items source. readings-are-entered l source items
