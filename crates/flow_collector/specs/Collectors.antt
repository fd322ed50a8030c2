-- A collector, and the items for which it stands, the LATEST FIRST.
use Rattle.std.specs.Prelude.{◌≡◌, ◌≤◌, List, [], ◌∷◌, length}
use Rattle.books_spec.specs.declared.limits.Limits.{Limits}
use Rattle.books_spec.specs.declared.totals.Totals.{Totals}
use Rattle.books_spec.specs.Items.{Item, Got, Malformed}
use Rattle.books_spec.specs.Books.{listed_streams, sources_of, totals, most_entries}
use Rattle.books_spec.specs.PlacedSamples.{placed_boots}
use Rattle.stream_books.specs.Streams.{StreamState}
use Rattle.stream_books.specs.declared.source.SourceRecord.{SourceRecord}
use Rattle.collector_tables.specs.declared.keys.StreamKey.{StreamKey}
use Rattle.collector_tables.specs.declared.keys.SourceKey.{SourceKey}
use Rattle.collector_tables.specs.Tables.{Table}
use Rattle.collector_tables.specs.Listed.{StreamsStand}
use Rattle.collector_tables.specs.Sources.{SourcesStand}
use Rattle.if_ledger.specs.Tables.{Ledgers}
use Rattle.sample_taps.specs.declared.class_totals.ClassTotals.{ClassTotals}
use Rattle.flow_collector.specs.Interfaces.{InterfacesStand}
use Rattle.flow_collector.specs.declared.books.Books.TheInside.{Inside}

-- what contracts see of the books of a collector: what it may hold, its tables, and its counts
pub record BooksState : Type 0 where
  pub limits : Limits
  pub streams : Table StreamKey StreamState
  pub sources : Table SourceKey SourceRecord
  pub interfaces : Ledgers
  pub totals : Totals

abbrev pub books_state : Inside → BooksState
books_state c = record {
  limits = c.limits;
  streams = c.streams;
  sources = c.sources;
  interfaces = c.interfaces;
  totals = c.totals;
}

-- what contracts see of a collector: its books, and how many headers of each class it was fed
pub record CollectorState : Type 0 where
  pub books : BooksState
  pub classes : ClassTotals

-- under these limits it stands for these items
pub record StandsFor (s : BooksState) (l : Limits) (items : List Item) : Type 0 where
  pub limits_are : s.limits ≡ l
  pub stream_limit : s.streams.limit ≡ l.streams
  pub source_limit : s.sources.limit ≡ l.sources
  pub streams_stand : StreamsStand l s.streams.entries items
  pub sources_stand : SourcesStand (listed_streams l items) l.sources l.sample_width s.sources.entries
      (sources_of l items) (λ k. placed_boots l k items)
  pub interface_limit : s.interfaces.limit ≡ l.sources
  pub interfaces_stand : InterfacesStand l items s.interfaces.ledgers
  pub totals_are : s.totals ≡ totals l items

-- a datagram has at most 8,191 samples
abbrev pub AreFew : List Item → Type 0
AreFew [] = Unit {0}
AreFew (Got d ∷ before) = (length d.samples ≤ 8191) × AreFew before
AreFew (Malformed f ∷ before) = AreFew before

-- the widths of the windows, and how many may be listed
pub record AreWithin (l : Limits) : Type 0 where
  pub streams : l.streams ≤ 4096
  pub datagrams_from : 1 ≤ l.datagram_width
  pub datagrams_to : l.datagram_width ≤ 8192
  pub samples_from : 1 ≤ l.sample_width
  pub samples_to : l.sample_width ≤ 8192

-- what is always so: it stands for some items, no more than 2^48
pub record AreBooks (s : BooksState) : Type 0 where
  pub within : AreWithin s.limits
  pub items : List Item
  pub stands : StandsFor s s.limits items
  pub few_samples : AreFew items
  pub few_entries : length items ≤ most_entries
