-- The generations of a source's readings, in the words of the books.
-- Every list has the LATEST FIRST, and generations and boots the current one first.
use Rattle.std.specs.Prelude.{ℕ, List, map}
use Rattle.count_spec.specs.declared.stretch_place.StretchPlace.{StretchPlace}
use Rattle.books_spec.specs.declared.sample_place.SamplePlace.{SamplePlace}
use Rattle.books_spec.specs.declared.booked.Booked.{Booked}
use Rattle.books_spec.specs.Generations as books
use Rattle.books_spec.specs.SourceViews.{PlacedReading, place_in, placed_mark, joined}
use Rattle.books_spec.specs.SourceViews as views

-- the greatest place of the First samples among these
abbrev pub newest_place : ℕ → List PlacedReading → SamplePlace
newest_place width current = books.greatest_place (books.first_places place_in placed_mark width current)

-- the place of the sample that opened the generation
abbrev pub opening_place : List PlacedReading → SamplePlace
opening_place current = books.opening_place place_in placed_mark current

-- where a sample belongs after these generations
abbrev pub generation_place : ℕ → List (List PlacedReading) → PlacedReading → StretchPlace
generation_place width so_far x = books.generation_place place_in placed_mark width so_far x

-- the generations of these samples of one boot, and those that are in none
abbrev pub generations : ℕ → List PlacedReading → List (List PlacedReading)
generations width samples = books.generations place_in placed_mark width samples

abbrev pub stale_samples : ℕ → List PlacedReading → List PlacedReading
stale_samples width samples = books.stale_samples place_in placed_mark width samples

-- what is answered to a sample at this place after these generations, and to one after these samples of its boot
abbrev pub booked_at : ℕ → StretchPlace → List (List PlacedReading) → ℕ → Booked
booked_at width place so_far mark = books.booked_at place_in placed_mark width place so_far mark

abbrev pub booked : ℕ → List PlacedReading → PlacedReading → Booked
booked width before x = books.booked place_in placed_mark width before x

-- ---- over boots

-- the generations of all boots, in one list
abbrev pub all_generations : ℕ → List (List PlacedReading) → List (List PlacedReading)
all_generations width boots = joined (map (generations width) boots)

-- the same, behind an empty one where the current boot has none
abbrev pub source_stretches : ℕ → List (List PlacedReading) → List (List PlacedReading)
source_stretches width boots = views.source_stretches place_in placed_mark width boots

abbrev pub generation_count : ℕ → List (List PlacedReading) → ℕ
generation_count width boots = views.generation_count place_in placed_mark width boots

abbrev pub stale_count : ℕ → List (List PlacedReading) → ℕ
stale_count width boots = views.stale_count place_in placed_mark width boots
