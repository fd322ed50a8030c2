use Rattle.books_spec.specs.Items.{stamp_of}
use Rattle.books_spec.specs.Books.{own}
use Rattle.books_spec.proofs.Keys.{stream-same}
use Rattle.books_spec.proofs.Adding.{entries-add_up, boots-add_up}
use Rattle.books_spec.proofs.book_laws.entries_add_up.Goals as goal

pub returns-clause-entries : goal.returns-clause-entries
returns-clause-entries c = λ l items. entries-add_up l.streams items stream-same

pub returns-clause-boots : goal.returns-clause-boots
returns-clause-boots c = λ l items stream.
    boots-add_up stamp_of l.boot_slack l.datagram_width (own stream items)
