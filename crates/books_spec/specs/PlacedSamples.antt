-- The samples that a collector enters, each with its place: the number of its datagram in the boot, and its index
-- among all samples of the datagram, counted from 0.
-- Lists have the LATEST FIRST, and boots the current one first; the samples of one datagram stand in its order.
use Rattle.std.specs.Prelude.{ℕ, suc, cond, List, [], ◌∷◌, length, map, ℤ, Option, Some, None}
use Rattle.std.specs.List.{filter_map}
use Rattle.count_spec.specs.Windows.{answer, counted}
use Rattle.count_spec.specs.Boots.{sequences, boot_place}
use Rattle.count_spec.specs.declared.entered.Entered.{Entered}
use Rattle.count_spec.specs.declared.entered.Entered.TheVariants.{First, Repeat, Late}
use Rattle.count_spec.specs.declared.stretch_place.StretchPlace.{StretchPlace}
use Rattle.count_spec.specs.declared.stretch_place.StretchPlace.TheVariants as places
use Rattle.books_spec.specs.declared.limits.Limits.{Limits}
use Rattle.books_spec.specs.declared.reading.SampleReading.{SampleReading}
use Rattle.books_spec.specs.declared.sample_place.SamplePlace.{SamplePlace}
use Rattle.books_spec.specs.Items.{SourceId, Sample, Of, Carrying, Other, Datagram, stamp_of, Item, Got, Malformed, Stream, stream_of, Source}
use Rattle.books_spec.specs.Listing.{same_id, same_stream, among}
use Rattle.books_spec.specs.Books.{onto, current_marks, stream_boots, listed_streams, reading_of}
use Rattle.books_spec.specs.InterfaceRise.{InterfaceCounters}
use Rattle.books_spec.specs.SourceViews.{PlacedReading}

-- a sample, and where it stands
pub record PlacedSample : Type 0 where
  pub place : SamplePlace
  pub sample : Sample

-- these samples of the datagram of this number, from this index on
abbrev pub placed_from : ℤ → ℕ → List Sample → List PlacedSample
placed_from datagram index [] = []
placed_from datagram index (sample ∷ more) =
    record { place = record { datagram = datagram; index = index }; sample = sample }
    ∷ placed_from datagram (suc index) more

-- the samples of a datagram that its boot's window answers so: they are entered where it is First
abbrev pub placed_at : Entered → List Sample → List PlacedSample
placed_at (First place n) samples = placed_from n 0 samples
placed_at Repeat samples = []
placed_at Late samples = []

-- ---- of one boot

-- the samples of the First datagrams of a boot
abbrev pub first_placed : ℕ → List Datagram → List PlacedSample
first_placed width [] = []
first_placed width (d ∷ before) =
    onto (placed_at (answer width (counted width (sequences stamp_of before)) d.head.sequence) d.samples)
    (first_placed width before)

-- what is read of a sample, at its place
abbrev pub read_at : SamplePlace → Option SampleReading → Option PlacedReading
read_at place (Some reading) = Some (record { place = place; reading = reading })
read_at place None = None

-- the reading, where the sample is of this source
abbrev pub placed_reading_of : SourceId → PlacedSample → Option PlacedReading
placed_reading_of id p = read_at p.place (reading_of id p.sample)

-- the readings of a source in a boot
abbrev pub placed_readings : ℕ → SourceId → List Datagram → List PlacedReading
placed_readings width id boot = filter_map (placed_reading_of id) (first_placed width boot)

-- a sample of a source as its interface counters see it
pub record InterfaceSample : Type 0 where
  pub place : SamplePlace
  pub mark : ℕ
  pub counters : Option InterfaceCounters

abbrev pub seen_at : SamplePlace → SampleReading → Option InterfaceCounters → InterfaceSample
seen_at place reading counters = record { place = place; mark = reading.sequence; counters = counters }

-- where the sample is of this source
abbrev pub interface_sample_at : SamplePlace → SourceId → Sample → Option InterfaceSample
interface_sample_at place id (Of other reading) = cond (same_id id other) (Some (seen_at place reading None)) None
interface_sample_at place id (Carrying other reading counters) =
    cond (same_id id other) (Some (seen_at place reading (Some counters))) None
interface_sample_at place id Other = None

-- the samples of a source in a boot, alike
abbrev pub interface_samples : ℕ → SourceId → List Datagram → List InterfaceSample
interface_samples width id boot = filter_map (λ p. interface_sample_at p.place id p.sample) (first_placed width boot)

-- ---- of all boots of a stream

-- the readings of a source in each boot of its stream
abbrev pub placed_boots : Limits → Source → List Item → List (List PlacedReading)
placed_boots l source items =
    map (placed_readings l.datagram_width source.id) (stream_boots l source.stream items)

abbrev pub interface_boots : Limits → Source → List Item → List (List InterfaceSample)
interface_boots l source items =
    map (interface_samples l.datagram_width source.id) (stream_boots l source.stream items)

-- ---- all that is entered

-- a sample that is entered: its stream, the number of its boot, counted from 1, and its place there
pub record EnteredSample : Type 0 where
  pub stream : Stream
  pub boot : ℕ
  pub placed : PlacedSample

-- the samples of a datagram with this sequence word, which stands at this place after these boots
abbrev pub placed_after : ℕ → StretchPlace → List (List Datagram) → ℕ → List Sample → List PlacedSample
placed_after width places.Current boots mark samples =
    placed_at (answer width (counted width (current_marks boots)) mark) samples
placed_after width places.Next boots mark samples = placed_at (answer width [] mark) samples
placed_after width places.Stale boots mark samples = []

-- the samples of a datagram of a listed stream, after these boots of it
abbrev pub placed_in : Limits → List (List Datagram) → Datagram → List PlacedSample
placed_in l boots d = placed_after l.datagram_width
    (boot_place stamp_of l.boot_slack l.datagram_width boots d) boots d.head.sequence d.samples

abbrev pub entered_now : Limits → List Item → Item → List EnteredSample
entered_now l before (Malformed f) = []
entered_now l before (Got d) =
    cond (among same_stream (listed_streams l (Got d ∷ before)) (stream_of d))
    (map (λ p. record { stream = stream_of d; boot = length (stream_boots l (stream_of d) (Got d ∷ before)); placed = p })
    (placed_in l (stream_boots l (stream_of d) before) d)) []

-- the samples that are entered
abbrev pub entered_samples : Limits → List Item → List EnteredSample
entered_samples l [] = []
entered_samples l (item ∷ before) = onto (entered_now l before item) (entered_samples l before)
