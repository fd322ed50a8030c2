use Rattle.books_spec.specs.Listing.{same_stream, same_source}
use Rattle.books_spec.specs.Books.{streams_of, sources_of}
use Rattle.books_spec.proofs.Listings.{listed-distinct, listed-few}
use Rattle.books_spec.proofs.Keys.{stream-same, source-same}
use Rattle.books_spec.proofs.book_laws.what_is_listed_is_distinct.Goals as goal

pub returns-clause-streams : goal.returns-clause-streams
returns-clause-streams c = λ l items. listed-distinct same_stream stream-same l.streams (streams_of items)

pub returns-clause-few_streams : goal.returns-clause-few_streams
returns-clause-few_streams c = λ l items. listed-few same_stream l.streams (streams_of items)

pub returns-clause-sources : goal.returns-clause-sources
returns-clause-sources c = λ l items. listed-distinct same_source source-same l.sources (sources_of l items)

pub returns-clause-few_sources : goal.returns-clause-few_sources
returns-clause-few_sources c = λ l items. listed-few same_source l.sources (sources_of l items)
