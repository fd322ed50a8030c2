-- Resets show in numbers and their order. Samples are those of one source in one boot, the LATEST FIRST.
use Rattle.std.specs.Prelude.{◌≡◌, ℕ, ◌≤◌, ◌<◌, false, ◌==◌, List, [], ◌∷◌, ℤ, ◌≤ℤ◌}
use Rattle.std.specs.List.{filter, AllByRecursion}
use Rattle.count_spec.specs.Windows.{near, mark_of, greatest}
use Rattle.count_spec.specs.TrueStretches.{newest_index}
use Rattle.books_spec.specs.Generations.{is_before}
use Rattle.account_spec.specs.Arrivals.{Arrived, generation_of, sample_number, sample_numbers}

-- the generation of the first of them
abbrev pub first_generation : List Arrived → ℕ
first_generation [] = 0
first_generation (x ∷ []) = generation_of x
first_generation (x ∷ y ∷ before) = first_generation (y ∷ before)

-- all samples of a generation
abbrev pub of_generation : ℕ → List Arrived → List Arrived
of_generation generation samples = filter (λ (x : Arrived). generation_of x == generation) samples

-- the number of the newest sample of the newest generation
abbrev pub newest_number : List Arrived → ℤ
newest_number samples = greatest (sample_numbers (of_generation (newest_index generation_of samples) samples))

-- the signed difference of 32 bits of a number from another is at most 0
abbrev pub DoesNotRise : ℤ → ℤ → Type 0
DoesNotRise n from = near (mark_of n) from ≤ℤ from

-- a sample of the same generation doesn't stand before this one
abbrev pub StandsBehind : Arrived → Arrived → Type 0
StandsBehind x y = generation_of y ≡ generation_of x → is_before y.place x.place ≡ false

-- a sample that opens a generation after some, and with these afterwards
pub record OpensApparently (after : List Arrived) (x : Arrived) (before : List Arrived) : Type 0 where
  pub number : DoesNotRise (sample_number x) (newest_number before)
  pub first : AllByRecursion (StandsBehind x) after

-- each sample but the first that is of a later generation than all before it opens it so
abbrev pub OpenApparently : List Arrived → List Arrived → Type 0
OpenApparently after [] = Unit {0}
OpenApparently after (x ∷ []) = Unit {0}
OpenApparently after (x ∷ y ∷ before) =
    (newest_index generation_of (y ∷ before) < generation_of x → OpensApparently after x (y ∷ before))
    × OpenApparently (x ∷ after) (y ∷ before)

-- none is of a generation before that of the first
pub record AreApparent (samples : List Arrived) : Type 0 where
  pub none_before : AllByRecursion (λ (x : Arrived). first_generation samples ≤ generation_of x) samples
  pub opened : OpenApparently [] samples
