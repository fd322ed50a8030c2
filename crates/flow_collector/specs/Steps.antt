-- The items for which a collector stands while it takes a datagram: first the datagram without its samples, and then
-- with one sample more after the other.
use Rattle.std.specs.Prelude.{◌≡◌, ℕ, ◌<◌, ℤ, Bool, true, false, ◌&&◌, Option, Some, None, List, [], ◌∷◌, ◌++◌, length, slice_get}
use Rattle.books_spec.specs.declared.limits.Limits.{Limits}
use Rattle.books_spec.specs.declared.taken.Taken.{Taken}
use Rattle.books_spec.specs.declared.taken.Taken.TheVariants.{First, Repeat, Late, Stale, Unlisted, Malformed, Spent}
use Rattle.books_spec.specs.declared.reading.SampleReading.{SampleReading}
use Rattle.books_spec.specs.declared.sample_place.SamplePlace.{SamplePlace}
use Rattle.books_spec.specs.Items.{SourceId, Sample, Of, Datagram, Item, Got, stream_of}
use Rattle.books_spec.specs.Books.{listed_streams, taken_now, stream_boots, most_entries}
use Rattle.books_spec.specs.SampledHeaders.{is_first_booked, is_listed, answer_to, and_sample}
use Rattle.stream_books.specs.Receipts.{receipt_in}
use Rattle.collector_tables.specs.declared.sources.EnteredAt.{EnteredAt}
use Rattle.collector_tables.specs.declared.streams.TakenAt.{TakenAt}
use Rattle.flow_collector.specs.Collectors.{BooksState, StandsFor, AreFew}

-- the samples of a datagram that is answered so are entered
abbrev pub is_first : Taken → Bool
is_first First = true
is_first Repeat = false
is_first Late = false
is_first Stale = false
is_first Unlisted = false
is_first Malformed = false
is_first Spent = false

abbrev pub is_unlisted : Taken → Bool
is_unlisted First = false
is_unlisted Repeat = false
is_unlisted Late = false
is_unlisted Stale = false
is_unlisted Unlisted = true
is_unlisted Malformed = false
is_unlisted Spent = false

abbrev pub with_samples : Datagram → List Sample → Datagram
with_samples d samples = record d { samples = samples }

-- the datagram with one sample more
abbrev pub with_sample : Datagram → Sample → Datagram
with_sample d x = with_samples d (d.samples ++ x ∷ [])

-- the boot of the datagram's stream in which it is, where it begins one or is in the current one
abbrev pub boot_number : Limits → List Item → Datagram → ℕ
boot_number l items d = length (stream_boots l (stream_of d) (Got d ∷ items))

-- the number that its sequence word stands for in that boot, where it is First
abbrev pub number_in : Limits → List Item → Datagram → ℤ
number_in l items d = (receipt_in l.boot_slack l.datagram_width (stream_boots l (stream_of d) items) d).number

-- after these items and the datagram, its stream stands at this place and has so many boots, and its number is this
pub record IsFound (l : Limits) (items : List Item) (t : TakenAt) (d : Datagram) : Type 0 where
  pub at : slice_get (listed_streams l (Got d ∷ items)) t.place ≡ Some (stream_of d)
  pub boot_is : t.boot ≡ boot_number l items d
  pub number_is : t.receipt.number ≡ number_in l items d

-- the samples of the datagram are entered after these items, by this place and boot of its stream and this number
pub record Enters (l : Limits) (items : List Item) (t : TakenAt) (d : Datagram) : Type 0 where
  pub found : IsFound l items t d
  pub first : taken_now l items (Got d) ≡ First

-- the collector stands for items the last of which is a datagram whose samples are being entered, so many of them so far
pub record Midway (s : BooksState) (t : TakenAt) (index : ℕ) : Type 0 where
  pub items : List Item
  pub datagram : Datagram
  pub enters : Enters s.limits items t datagram
  pub stands : StandsFor s s.limits (Got datagram ∷ items)
  pub few_samples : AreFew items
  pub few_entries : length items < most_entries
  pub index_is : length datagram.samples ≡ index

-- ---- First samples

-- whether a sample that was entered so is First
abbrev pub is_first_at : Option EnteredAt → Bool
is_first_at None = false
is_first_at (Some e) = is_first_booked e.booked

-- whether a sample of this place that shows this is a First one of a listed source, after these items and the samples of
-- its datagram so far
abbrev pub is_first_of : Limits → List Item → Datagram → SamplePlace → SourceId → SampleReading → Bool
is_first_of l before so_far place id reading =
    is_listed l before (and_sample so_far (Of id reading)) (record { stream = stream_of so_far; id = id })
    && is_first_booked (answer_to l (Got so_far ∷ before) (record { stream = stream_of so_far; id = id })
    (record { place = place; reading = reading }))
