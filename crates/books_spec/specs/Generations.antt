-- The generations of a source in one boot: the stretches between resets of the source, which begins its sample
-- numbers again (sFlow Version 5, section 5).
-- A reset shows in two things: the sample stands behind all others of the generation, and its number isn't above them.
-- Samples are of any type that shows a place and a mark. Every list has the LATEST FIRST, and the current generation
-- first.
use Rattle.std.specs.Prelude.{ℕ, Bool, false, cond, ◌||◌, ◌&&◌, nat_lt, List, [], ◌∷◌, map, ℤ, pos, int_lt, int_le}
use Rattle.std.specs.Ordering.{int_eq}
use Rattle.count_spec.specs.Windows.{near, greatest, answer, counted}
use Rattle.count_spec.specs.Stretches.{stretches, stale_among}
use Rattle.count_spec.specs.declared.entered.Entered.{Entered}
use Rattle.count_spec.specs.declared.entered.Entered.TheVariants.{First, Repeat, Late}
use Rattle.count_spec.specs.declared.stretch_place.StretchPlace.{StretchPlace}
use Rattle.count_spec.specs.declared.stretch_place.StretchPlace.TheVariants.{Current, Next, Stale}
use Rattle.books_spec.specs.declared.sample_place.SamplePlace.{SamplePlace}
use Rattle.books_spec.specs.declared.booked.Booked.{Booked}
use Rattle.books_spec.specs.declared.booked.Booked.TheVariants as bookings

-- ---- places

-- whether the first place is before the second: by the datagram, and within one by the index
abbrev pub is_before : SamplePlace → SamplePlace → Bool
is_before p q =
    int_lt p.datagram q.datagram || (int_eq p.datagram q.datagram && nat_lt p.index q.index)

-- the later one of two places
abbrev pub later : SamplePlace → SamplePlace → SamplePlace
later p q = cond (is_before p q) q p

abbrev pub first_place : SamplePlace
first_place = record { datagram = pos 0; index = 0 }

-- the greatest of these places
abbrev pub greatest_place : List SamplePlace → SamplePlace
greatest_place [] = first_place
greatest_place (p ∷ []) = p
greatest_place (p ∷ q ∷ more) = later p (greatest_place (q ∷ more))

-- the places with one more, where this answer is First
abbrev pub with_place : Entered → SamplePlace → List SamplePlace → List SamplePlace
with_place (First place n) p before = p ∷ before
with_place Repeat p before = before
with_place Late p before = before

module _ {X : Type 0} (place : X → SamplePlace) (mark : X → ℕ) where
  -- the places of the First samples among these
  abbrev pub first_places : ℕ → List X → List SamplePlace
  first_places width [] = []
  first_places width (x ∷ before) =
      with_place (answer width (counted width (map mark before)) (mark x)) (place x) (first_places width before)

  -- the place of the sample that opened the generation
  abbrev pub opening_place : List X → SamplePlace
  opening_place [] = first_place
  opening_place (x ∷ []) = place x
  opening_place (x ∷ y ∷ before) = opening_place (y ∷ before)

  -- ---- generations

  -- whether the mark stands for a number that isn't above those counted of these samples
  abbrev pub does_not_rise : ℕ → List X → ℕ → Bool
  does_not_rise width current m =
      let top : ℤ = greatest (counted width (map mark current)) in int_le (near m top) top

  -- whether a sample opens the generation after these samples
  abbrev pub opens : ℕ → List X → X → Bool
  opens width current x =
      is_before (greatest_place (first_places width current)) (place x) && does_not_rise width current (mark x)

  -- whether a sample is from before the current generation, which isn't the first
  abbrev pub is_before_opening : List X → List (List X) → X → Bool
  is_before_opening current [] x = false
  is_before_opening current (last ∷ more) x = is_before (place x) (opening_place current)

  -- where a sample belongs after these generations: the first sample opens the first
  abbrev pub generation_place : ℕ → List (List X) → X → StretchPlace
  generation_place width [] x = Next
  generation_place width (current ∷ closed) x =
      cond (opens width current x) Next (cond (is_before_opening current closed x) Stale Current)

  -- the generations of these samples
  abbrev pub generations : ℕ → List X → List (List X)
  generations width samples = stretches (generation_place width) samples

  -- the samples that are in none
  abbrev pub stale_samples : ℕ → List X → List X
  stale_samples width samples = stale_among (generation_place width) samples

  -- ---- what a further sample is answered

  -- the marks of the first of these generations
  abbrev pub marks_of_current : List (List X) → List ℕ
  marks_of_current [] = []
  marks_of_current (current ∷ closed) = map mark current

  -- at this place after these generations: its generation's own window answers, or it is past
  abbrev pub booked_at : ℕ → StretchPlace → List (List X) → ℕ → Booked
  booked_at width Current so_far m = bookings.Entered (answer width (counted width (marks_of_current so_far)) m)
  booked_at width Next so_far m = bookings.Entered (answer width [] m)
  booked_at width Stale so_far m = bookings.Past

  -- the answer to a sample after these of its boot
  abbrev pub booked : ℕ → List X → X → Booked
  booked width before x =
      let so_far : List (List X) = generations width before in
      booked_at width (generation_place width so_far x) so_far (mark x)
