use Rattle.std.proofs.Common.{map}
use Rattle.count_spec.specs.Boots.{sequences}
use Rattle.books_spec.specs.Items.{stamp_of}
use Rattle.books_spec.specs.Books.{stream_boots, source_boots}
use Rattle.books_spec.proofs.Sums.{over-issued}
use Rattle.books_spec.proofs.Books.{readings-issued}
use Rattle.books_spec.proofs.book_laws.issued_is_conserved_in_books.Goals as goal

pub returns-clause-streams : goal.returns-clause-streams
returns-clause-streams c = λ l items stream.
    over-issued l.datagram_width (map (sequences stamp_of) (stream_boots l stream items))

pub returns-clause-sources : goal.returns-clause-sources
returns-clause-sources c = λ l items source.
    readings-issued source.id.flow l.sample_width (source_boots l source items)
