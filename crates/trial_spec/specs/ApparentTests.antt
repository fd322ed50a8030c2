-- Whether resets show in numbers and their order, sample by sample. What is kept of a source is the generation of its first
-- sample in the boot, its newest generation and the newest number of that, and where the sample stood that opened each
-- later generation. Samples are those of one source in one boot, the LATEST FIRST.
use Rattle.std.specs.Prelude.{◌≡◌, ℕ, ◌≤◌, ◌<◌, ◌==◌, nat_lt, nat_le, Bool, true, false, cond, not, ◌&&◌, ◌||◌, Option, Some, None, List, [], ◌∷◌, ℤ, int_le}
use Rattle.count_spec.specs.Windows.{near, mark_of}
use Rattle.count_spec.specs.TrueStretches.{newest_index}
use Rattle.books_spec.specs.declared.sample_place.SamplePlace.{SamplePlace}
use Rattle.books_spec.specs.Generations.{is_before}
use Rattle.account_spec.specs.Arrivals.{Arrived, generation_of, sample_number}
use Rattle.account_spec.specs.Apparent.{first_generation, newest_number, DoesNotRise}

-- the place of the sample that opened this generation, but where that was the first of all
abbrev pub opener_of : ℕ → List Arrived → Option SamplePlace
opener_of g [] = None
opener_of g (x ∷ []) = None
opener_of g (x ∷ y ∷ before) =
    cond (nat_lt (newest_index generation_of (y ∷ before)) (generation_of x) && (generation_of x == g))
    (Some x.place) (opener_of g (y ∷ before))

-- a place isn't before that one, if there is one
abbrev pub IsNotBefore : SamplePlace → Option SamplePlace → Type 0
IsNotBefore p None = Unit {0}
IsNotBefore p (Some opener) = is_before p opener ≡ false

-- a further sample is apparent after these
abbrev pub IsApparentAfter : List Arrived → Arrived → Type 0
IsApparentAfter [] x = Unit {0}
IsApparentAfter (y ∷ before) x =
    (first_generation (y ∷ before) ≤ generation_of x)
    × ((newest_index generation_of (y ∷ before) < generation_of x
    → DoesNotRise (sample_number x) (newest_number (y ∷ before)))
    × IsNotBefore x.place (opener_of (generation_of x) (y ∷ before)))

abbrev pub EachApparent : List Arrived → Type 0
EachApparent [] = Unit {0}
EachApparent (x ∷ before) = IsApparentAfter before x × EachApparent before

-- ---- the tests

abbrev pub does_not_rise : ℤ → ℤ → Bool
does_not_rise n from = int_le (near (mark_of n) from) from

abbrev pub is_not_before : SamplePlace → Option SamplePlace → Bool
is_not_before p None = true
is_not_before p (Some opener) = not (is_before p opener)

abbrev pub is_apparent_after : List Arrived → Arrived → Bool
is_apparent_after [] x = true
is_apparent_after (y ∷ before) x =
    nat_le (first_generation (y ∷ before)) (generation_of x)
    && ((not (nat_lt (newest_index generation_of (y ∷ before)) (generation_of x))
    || does_not_rise (sample_number x) (newest_number (y ∷ before)))
    && is_not_before x.place (opener_of (generation_of x) (y ∷ before)))

abbrev pub are_apparent : List Arrived → Bool
are_apparent [] = true
are_apparent (x ∷ before) = is_apparent_after before x && are_apparent before
