-- What is shown, in the words of the books.
use Rattle.data_format.specs.Addresses.{address_of}
use Rattle.books_spec.specs.Books.{StreamBooks}
use Rattle.books_spec.specs.WholeBooks.{SourceLine}
use Rattle.collector_views.specs.declared.views.StreamView.{StreamView}
use Rattle.collector_views.specs.declared.views.SourceView.{SourceView}

abbrev pub stream_shown : StreamView → StreamBooks
stream_shown v = record {
  stream = record { agent = address_of v.agent; sub_agent = v.sub_agent };
  boots = v.boots;
  view = v.ledger;
  stale = v.stale;
}

abbrev pub source_shown : SourceView → SourceLine
source_shown v = record {
  stream = v.stream;
  id = record { flow = v.flow; class = v.source.class; index = v.source.index };
  view = record { generations = v.generations; ledger = v.ledger; stale = v.stale };
}
