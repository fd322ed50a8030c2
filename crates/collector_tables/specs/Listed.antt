-- A table of streams, and the items for which it stands, the LATEST FIRST.
use Rattle.std.specs.Prelude.{◌≡◌, List}
use Rattle.books_spec.specs.Items.{Item, Stream}
use Rattle.books_spec.specs.declared.limits.Limits.{Limits}
use Rattle.books_spec.specs.Books.{own, listed_streams}
use Rattle.stream_books.specs.Streams.{StreamState, StandsFor}
use Rattle.collector_tables.specs.declared.keys.StreamKey.{StreamKey}
use Rattle.collector_tables.specs.Keys.{stream_in}
use Rattle.collector_tables.specs.Tables.{Holds}

-- what is kept of a stream stands for its datagrams
pub record StreamStands (l : Limits) (items : List Item) (stream : Stream) (s : StreamState) : Type 0 where
  pub width : s.ledger.marks.width ≡ l.datagram_width
  pub stands : StandsFor l.boot_slack s (own stream items)

-- the table lists the streams of the books, in their order, and stands for the datagrams of each
abbrev pub StreamsStand : Limits → List (StreamKey × StreamState) → List Item → Type 0
StreamsStand l entries items = Holds stream_in (StreamStands l items) entries (listed_streams l items)
