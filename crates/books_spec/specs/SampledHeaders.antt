-- The sampled headers that count: those of the First flow samples.
-- Items have the LATEST FIRST. The headers of a sample stand in the order of its records, and those that count in order
-- of arrival.
use Rattle.std.specs.Prelude.{ℕ, Bool, false, cond, ◌&&◌, List, [], ◌∷◌, ◌++◌, map}
use Rattle.count_spec.specs.Windows.{is_first}
use Rattle.books_spec.specs.declared.limits.Limits.{Limits}
use Rattle.books_spec.specs.declared.reading.SampleReading.{SampleReading}
use Rattle.books_spec.specs.declared.sample_place.SamplePlace.{SamplePlace}
use Rattle.books_spec.specs.declared.booked.Booked.{Booked}
use Rattle.books_spec.specs.declared.booked.Booked.TheVariants.{Entered, Past}
use Rattle.books_spec.specs.Items.{SourceId, Sample, Of, Carrying, Other, Datagram, Item, Got, Malformed, stream_of, Source}
use Rattle.books_spec.specs.Listing.{same_stream, same_source, among}
use Rattle.books_spec.specs.Books.{stream_boots, listed_streams, listed_sources, stream_number}
use Rattle.books_spec.specs.Generations.{booked}
use Rattle.books_spec.specs.SourceViews.{PlacedReading, place_in, placed_mark}
use Rattle.books_spec.specs.PlacedSamples.{PlacedSample, placed_in, placed_boots}

-- the header of a sampled packet (sFlow Version 5, section 5): its header protocol, the length in bytes of the frame
-- before it was cut, and the bytes
pub record SampledHeader : Type 0 where
  pub protocol : ℕ
  pub frame_length : ℕ
  pub bytes : List ℕ

-- an item, and the headers of each sample of its datagram, in the datagram's order
pub record HeaderedItem : Type 0 where
  pub item : Item
  pub headers : List (List SampledHeader)

abbrev pub item_within : HeaderedItem → Item
item_within i = i.item

abbrev pub items_within : List HeaderedItem → List Item
items_within items = map item_within items

-- a header that counts, with the number of its stream, counted from 1, and the class, the index and the sampling rate
-- of its source
pub record FirstHeader : Type 0 where
  pub stream : ℕ
  pub class : ℕ
  pub index : ℕ
  pub rate : ℕ
  pub header : SampledHeader

abbrev pub header_from : ℕ → SourceId → SampleReading → SampledHeader → FirstHeader
header_from stream id reading header =
    record { stream = stream; class = id.class; index = id.index; rate = reading.rate; header = header }

-- ---- one sample

-- the current one of the boots of a source
abbrev pub current_readings : List (List PlacedReading) → List PlacedReading
current_readings [] = []
current_readings (current ∷ closed) = current

-- what a further sample of a source is answered, in the boot of the last of these items
abbrev pub answer_to : Limits → List Item → Source → PlacedReading → Booked
answer_to l items source r =
    booked place_in placed_mark l.sample_width (current_readings (placed_boots l source items)) r

abbrev pub is_first_booked : Booked → Bool
is_first_booked (Entered answer) = is_first answer
is_first_booked Past = false

-- whether a source is among those listed after a datagram
abbrev pub is_listed : Limits → List Item → Datagram → Source → Bool
is_listed l before d source = among same_source (listed_sources l (Got d ∷ before)) source

-- the datagram with one sample more
abbrev pub and_sample : Datagram → Sample → Datagram
and_sample d sample = record d { samples = d.samples ++ sample ∷ [] }

-- whether a sample that shows this is a First flow sample of a listed source, after these items and the samples of its
-- datagram so far
abbrev pub counts : Limits → List Item → Datagram → SamplePlace → SourceId → SampleReading → Bool
counts l before so_far place id reading =
    id.flow && (is_listed l before (and_sample so_far (Of id reading)) (record { stream = stream_of so_far; id = id })
    && is_first_booked (answer_to l (Got so_far ∷ before) (record { stream = stream_of so_far; id = id })
    (record { place = place; reading = reading })))

-- the headers of one sample, as far as they count
abbrev pub headers_at : Limits → List Item → Datagram → SamplePlace → Sample → List SampledHeader → List FirstHeader
headers_at l before so_far place (Of id reading) headers =
    cond (counts l before so_far place id reading)
    (map (header_from (stream_number l (Got so_far ∷ before) (stream_of so_far)) id reading) headers) []
headers_at l before so_far place (Carrying id reading counters) headers = []
headers_at l before so_far place Other headers = []

-- ---- all samples

-- the headers of the samples of a datagram that come behind those so far
abbrev pub headers_behind :
    Limits → List Item → Datagram → List PlacedSample → List (List SampledHeader) → List FirstHeader
headers_behind l before so_far [] headers = []
headers_behind l before so_far (p ∷ more) [] = []
headers_behind l before so_far (p ∷ more) (own ∷ headers) =
    headers_at l before so_far p.place p.sample own
    ++ headers_behind l before (and_sample so_far p.sample) more headers

-- the headers of an item: those of a datagram that is First in a boot of a listed stream
abbrev pub headers_now : Limits → List Item → Item → List (List SampledHeader) → List FirstHeader
headers_now l before (Malformed f) headers = []
headers_now l before (Got d) headers =
    cond (among same_stream (listed_streams l (Got d ∷ before)) (stream_of d))
    (headers_behind l before (record d { samples = [] }) (placed_in l (stream_boots l (stream_of d) before) d) headers) []

-- all headers that count
abbrev pub first_headers : Limits → List HeaderedItem → List FirstHeader
first_headers l [] = []
first_headers l (i ∷ before) =
    first_headers l before ++ headers_now l (items_within before) i.item i.headers
