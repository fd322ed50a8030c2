-- The books of a collector: what it holds and shows after a list of items, one for each entry.
-- Lists of items, datagrams and samples have the LATEST FIRST, and boots the current boot first. The samples of one
-- datagram stand in the datagram's order, and what is listed in order of first arrival.
use Rattle.std.specs.Prelude.{ℕ, ◌+◌, Bool, true, false, cond, List, [], ◌∷◌, length, map, Option, Some, None, nat_le}
use Rattle.std.specs.List.{filter, filter_map, count_by, position_or_len}
use Rattle.count_spec.specs.Windows.{answer, counted}
use Rattle.count_spec.specs.Boots.{sequences, boot_place, boots, stale_items}
use Rattle.count_spec.specs.declared.stretch_place.StretchPlace.{StretchPlace}
use Rattle.count_spec.specs.declared.stretch_place.StretchPlace.TheVariants as places
use Rattle.count_spec.specs.declared.entered.Entered as window
use Rattle.count_spec.specs.declared.entered.Entered.TheVariants as answers
use Rattle.books_spec.specs.declared.limits.Limits.{Limits}
use Rattle.books_spec.specs.declared.reading.SampleReading.{SampleReading}
use Rattle.books_spec.specs.declared.ledger_view.LedgerView.{LedgerView}
use Rattle.books_spec.specs.declared.taken.Taken.{Taken}
use Rattle.books_spec.specs.declared.taken.Taken.TheVariants.{First, Repeat, Late, Stale, Unlisted, Spent}
use Rattle.books_spec.specs.declared.taken.Taken.TheVariants as takes
use Rattle.books_spec.specs.declared.totals.FirstFault.{FirstFault}
use Rattle.books_spec.specs.declared.totals.Totals.{Totals}
use Rattle.books_spec.specs.Views.{plain_view, flow_view}
use Rattle.books_spec.specs.Items.{SourceId, Sample, Of, Carrying, Other, Datagram, stamp_of, Item, Got, Malformed, Stream, stream_of, Source}
use Rattle.books_spec.specs.Listing.{same_stream, same_id, same_source, among, listed, unlisted}

-- ---- 1. entries and faults

-- the datagrams among these items
abbrev pub datagrams : List Item → List Datagram
datagrams [] = []
datagrams (Got d ∷ before) = d ∷ datagrams before
datagrams (Malformed f ∷ before) = datagrams before

abbrev pub is_malformed : Item → Bool
is_malformed (Got d) = false
is_malformed (Malformed f) = true

-- the fault of the item that came after so many, unless there was one before
abbrev pub fault_after : Option FirstFault → ℕ → Item → Option FirstFault
fault_after (Some first) before item = Some first
fault_after None before (Got d) = None
fault_after None before (Malformed f) = Some (record { entry = before + 1; fault = f })

-- the first fault
abbrev pub first_fault : List Item → Option FirstFault
first_fault [] = None
first_fault (item ∷ before) = fault_after (first_fault before) (length before) item

-- ---- 2. streams

-- the stream of each datagram
abbrev pub streams_of : List Item → List Stream
streams_of items = map stream_of (datagrams items)

-- the streams that are listed
abbrev pub listed_streams : Limits → List Item → List Stream
listed_streams l items = listed same_stream l.streams (streams_of items)

-- ---- 3. boots

-- the datagrams of a stream
abbrev pub own : Stream → List Item → List Datagram
own stream items = filter (λ d. same_stream stream (stream_of d)) (datagrams items)

-- the boots of a stream
abbrev pub stream_boots : Limits → Stream → List Item → List (List Datagram)
stream_boots l stream items = boots stamp_of l.boot_slack l.datagram_width (own stream items)

-- its datagrams that are stale
abbrev pub stale_of : Limits → Stream → List Item → List Datagram
stale_of l stream items = stale_items stamp_of l.boot_slack l.datagram_width (own stream items)

-- ---- what a further item is answered

abbrev pub taken_of : window.Entered → Taken
taken_of (answers.First place n) = First
taken_of answers.Repeat = Repeat
taken_of answers.Late = Late

-- the sequence words of the first of these boots
abbrev pub current_marks : List (List Datagram) → List ℕ
current_marks [] = []
current_marks (current ∷ closed) = sequences stamp_of current

-- at this place after these boots
abbrev pub taken_at : ℕ → StretchPlace → List (List Datagram) → ℕ → Taken
taken_at width places.Current boots mark = taken_of (answer width (counted width (current_marks boots)) mark)
taken_at width places.Next boots mark = First
taken_at width places.Stale boots mark = Stale

-- a datagram of a listed stream, after these boots of it
abbrev pub taken_in : Limits → List (List Datagram) → Datagram → Taken
taken_in l boots d = taken_at l.datagram_width
    (boot_place stamp_of l.boot_slack l.datagram_width boots d) boots d.head.sequence

-- an item, of whatever number
abbrev pub taken_now : Limits → List Item → Item → Taken
taken_now l before (Malformed f) = takes.Malformed
taken_now l before (Got d) = cond (among same_stream (listed_streams l (Got d ∷ before)) (stream_of d))
    (taken_in l (stream_boots l (stream_of d) before) d) Unlisted

-- how many entries are taken at most
abbrev pub most_entries : ℕ
most_entries = 281474976710656

-- the answer to an item after these
abbrev pub taken : Limits → List Item → Item → Taken
taken l before item = cond (nat_le most_entries (length before)) Spent (taken_now l before item)

-- ---- 4. samples

-- the samples of a datagram that is answered so: they are entered where it is First
abbrev pub samples_at : Taken → List Sample → List Sample
samples_at First samples = samples
samples_at Repeat samples = []
samples_at Late samples = []
samples_at Stale samples = []
samples_at Unlisted samples = []
samples_at takes.Malformed samples = []
samples_at Spent samples = []

-- these, from their first on, and before them the rest
abbrev pub onto : {X : Type 0} → List X → List X → List X
onto [] rest = rest
onto (x ∷ more) rest = onto more (x ∷ rest)

-- a sample that is entered, and its stream
pub record Entered : Type 0 where
  pub stream : Stream
  pub sample : Sample

abbrev pub entered_in : Stream → Sample → Entered
entered_in stream sample = record { stream = stream; sample = sample }

abbrev pub entered_of : Taken → Item → List Entered
entered_of taken (Got d) = map (entered_in (stream_of d)) (samples_at taken d.samples)
entered_of taken (Malformed f) = []

-- the samples that are entered
abbrev pub entered : Limits → List Item → List Entered
entered l [] = []
entered l (item ∷ before) = onto (entered_of (taken_now l before item) item) (entered l before)

-- the source of a sample, if its format has one
abbrev pub source_in : Stream → Sample → Option Source
source_in stream (Of id reading) = Some (record { stream = stream; id = id })
source_in stream (Carrying id reading counters) = Some (record { stream = stream; id = id })
source_in stream Other = None

abbrev pub source_of : Entered → Option Source
source_of e = source_in e.stream e.sample

-- the source of each sample that has one
abbrev pub sources_of : Limits → List Item → List Source
sources_of l items = filter_map source_of (entered l items)

-- the sources that are listed
abbrev pub listed_sources : Limits → List Item → List Source
listed_sources l items = listed same_source l.sources (sources_of l items)

abbrev pub is_other : Sample → Bool
is_other (Of id reading) = false
is_other (Carrying id reading counters) = false
is_other Other = true

-- ---- 5. sources over boots

-- the samples of the First datagrams of one boot
abbrev pub first_samples : ℕ → List Datagram → List Sample
first_samples width [] = []
first_samples width (d ∷ before) =
    onto (samples_at (taken_of (answer width (counted width (sequences stamp_of before)) d.head.sequence)) d.samples)
    (first_samples width before)

-- the reading, where the sample is of this source
abbrev pub reading_of : SourceId → Sample → Option SampleReading
reading_of id (Of other reading) = cond (same_id id other) (Some reading) None
reading_of id (Carrying other reading counters) = cond (same_id id other) (Some reading) None
reading_of id Other = None

-- the readings of a source in one boot
abbrev pub readings : ℕ → SourceId → List Datagram → List SampleReading
readings width id boot = filter_map (reading_of id) (first_samples width boot)

-- the readings of a source in each boot of its stream
abbrev pub source_boots : Limits → Source → List Item → List (List SampleReading)
source_boots l source items = map (readings l.datagram_width source.id) (stream_boots l source.stream items)

-- ---- 6. what is shown

pub record StreamBooks : Type 0 where
  pub stream : Stream
  -- how many boots it had
  pub boots : ℕ
  pub view : LedgerView
  -- how many of its datagrams were stale
  pub stale : ℕ

abbrev pub stream_books : Limits → List Item → Stream → StreamBooks
stream_books l items stream = record {
  stream = stream;
  boots = length (stream_boots l stream items);
  view = plain_view l.datagram_width (map (sequences stamp_of) (stream_boots l stream items));
  stale = length (stale_of l stream items);
}

abbrev pub mark_in : SampleReading → ℕ
mark_in r = r.sequence

abbrev pub pool_in : SampleReading → ℕ
pool_in r = r.pool

abbrev pub drops_in : SampleReading → ℕ
drops_in r = r.drops

abbrev pub rate_in : SampleReading → ℕ
rate_in r = r.rate

-- the view of a source of flow samples, or of one of counters samples
abbrev pub readings_view : Bool → ℕ → List (List SampleReading) → LedgerView
readings_view true width boots = flow_view mark_in pool_in drops_in rate_in width boots
readings_view false width boots = plain_view width (map (map mark_in) boots)

pub record SourceBooks : Type 0 where
  -- the number of its stream, counted from 1
  pub stream : ℕ
  pub id : SourceId
  pub view : LedgerView

-- the place of a stream among those listed, counted from 1
abbrev pub stream_number : Limits → List Item → Stream → ℕ
stream_number l items stream = position_or_len (same_stream stream) (listed_streams l items) + 1

abbrev pub source_books : Limits → List Item → Source → SourceBooks
source_books l items source = record {
  stream = stream_number l items source.stream;
  id = source.id;
  view = readings_view source.id.flow l.sample_width (source_boots l source items);
}

-- counts of all items
abbrev pub totals : Limits → List Item → Totals
totals l items = record {
  entries = length items;
  malformed = count_by is_malformed items;
  unlisted = unlisted same_stream l.streams (streams_of items);
  unlisted_samples = unlisted same_source l.sources (sources_of l items);
  other = count_by (λ (e : Entered). is_other e.sample) (entered l items);
  first_fault = first_fault items;
}

-- all that is shown
pub record Books : Type 0 where
  pub totals : Totals
  pub streams : List StreamBooks
  pub sources : List SourceBooks

abbrev pub books : Limits → List Item → Books
books l items = record {
  totals = totals l items;
  streams = map (stream_books l items) (listed_streams l items);
  sources = map (source_books l items) (listed_sources l items);
}
