-- The books of a collector whose sources have generations, and whose counters sources show by how much the counters of
-- an interface rose. Entries, streams and what is listed are those of Books.
-- Items have the LATEST FIRST; what is listed stands in order of first arrival.
use Rattle.std.specs.Prelude.{ℕ, Bool, true, false, Option, Some, None, List, map}
use Rattle.std.specs.List.{filter_map}
use Rattle.books_spec.specs.declared.limits.Limits.{Limits}
use Rattle.books_spec.specs.declared.totals.Totals.{Totals}
use Rattle.books_spec.specs.declared.source_view.SourceLedgerView.{SourceLedgerView}
use Rattle.books_spec.specs.declared.source_view.IfView.{IfView}
use Rattle.books_spec.specs.declared.sample_place.SamplePlace.{SamplePlace}
use Rattle.books_spec.specs.Items.{SourceId, Item, Source}
use Rattle.books_spec.specs.Books.{StreamBooks, stream_books, stream_number, totals, listed_streams, listed_sources}
use Rattle.books_spec.specs.InterfaceRise.{InterfaceCounters, NumberedCounters, first_counters, interface_shown}
use Rattle.books_spec.specs.SourceViews.{source_view, source_stretches}
use Rattle.books_spec.specs.PlacedSamples.{placed_boots, InterfaceSample, interface_boots}

-- what is shown of a source
pub record SourceLine : Type 0 where
  -- the number of its stream, counted from 1
  pub stream : ℕ
  pub id : SourceId
  pub view : SourceLedgerView

abbrev pub source_line : Limits → List Item → Source → SourceLine
source_line l items source = record {
  stream = stream_number l items source.stream;
  id = source.id;
  view = source_view source.id.flow l.sample_width (placed_boots l source items);
}

-- ---- interface counters

abbrev pub place_seen : InterfaceSample → SamplePlace
place_seen s = s.place

abbrev pub mark_seen : InterfaceSample → ℕ
mark_seen s = s.mark

abbrev pub counters_seen : InterfaceSample → Option InterfaceCounters
counters_seen s = s.counters

-- the First samples of a source that carry counters, in each generation
abbrev pub carried : ℕ → List (List InterfaceSample) → List (List NumberedCounters)
carried width boots =
    map (first_counters mark_seen counters_seen width) (source_stretches place_seen mark_seen width boots)

-- of a counters source only
abbrev pub interface_of : Bool → ℕ → List (List InterfaceSample) → Option IfView
interface_of true width boots = None
interface_of false width boots = interface_shown (carried width boots)

-- what is shown of the interface counters of a source
pub record InterfaceLine : Type 0 where
  pub stream : ℕ
  pub id : SourceId
  pub view : IfView

abbrev pub with_view : ℕ → SourceId → Option IfView → Option InterfaceLine
with_view stream id (Some view) = Some (record { stream = stream; id = id; view = view })
with_view stream id None = None

abbrev pub interface_line : Limits → List Item → Source → Option InterfaceLine
interface_line l items source = with_view (stream_number l items source.stream) source.id
    (interface_of source.id.flow l.sample_width (interface_boots l source items))

-- ---- all that is shown

pub record WholeBooks : Type 0 where
  pub totals : Totals
  pub streams : List StreamBooks
  pub sources : List SourceLine
  -- of the sources that have a sample with interface counters
  pub interfaces : List InterfaceLine

abbrev pub whole_books : Limits → List Item → WholeBooks
whole_books l items = record {
  totals = totals l items;
  streams = map (stream_books l items) (listed_streams l items);
  sources = map (source_line l items) (listed_sources l items);
  interfaces = filter_map (interface_line l items) (listed_sources l items);
}
