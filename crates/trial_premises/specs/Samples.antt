-- What is kept of a source in its boot, and the samples for which it stands: the LATEST FIRST, the current generation
-- first.
use Rattle.std.specs.Prelude.{◌≡◌, ℕ, ◌^◌, ◌≤◌, ◌<◌, ◌==◌, nat_lt, nat_le, Bool, true, false, cond, not, ◌&&◌, ◌||◌, Option, Some, None, List, ◌∷◌, pos}
use Rattle.std.specs.List.{filter, AllByRecursion}
use Rattle.count_spec.specs.Rise.{NumberedValue}
use Rattle.count_spec.specs.TrueStretches.{newest_index, true_stretches}
use Rattle.account_spec.specs.Arrivals.{Arrived, generation_of, sample_number, sample_numbers}
use Rattle.account_spec.specs.Accounts.{kept, values, pool_of, drops_of}
use Rattle.account_spec.specs.Apparent.{first_generation}
use Rattle.trial_spec.specs.Newest.{is_close_to}
use Rattle.trial_spec.specs.CloseTests.{Ends, both_ends, ends_with, rises_from}
use Rattle.trial_spec.specs.ApparentTests.{opener_of, does_not_rise, is_not_before}
use Rattle.trial_premises.specs.declared.delivered.TrueSample.{TrueSample}
use Rattle.trial_premises.specs.declared.places.TruePlace.{TruePlace}
use Rattle.trial_premises.specs.ByIndex as slots
use Rattle.trial_premises.specs.Newest.{as_int, greatest_of, newer_of, KeepsNewest}
use Rattle.trial_premises.specs.Places.{place_shown, opener_shown}
use Rattle.trial_premises.specs.Ends.{ends_in}
use Rattle.trial_premises.specs.Window.{is_behind}

pub record SourceState : Type 0 where
  -- the boot of its latest sample, or 0
  pub boot : ℕ
  -- the generation of the first sample in the boot
  pub first : ℕ
  -- the newest generation there, and its newest number
  pub newest : ℕ
  pub newest_number : ℕ
  -- the newest number of each generation
  pub numbers : List (Option ℕ)
  -- where the sample stood that opened each generation
  pub openers : List (Option TruePlace)
  -- pools and drops in the newest generation
  pub pools : Ends
  pub drops : Ends
  -- over all boots
  pub close : Bool
  pub apparent : Bool

-- what is handed in is of this sample
pub record IsArrived (t : TrueSample) (at : TruePlace) (a : Arrived) : Type 0 where
  pub generation : generation_of a ≡ t.generation
  pub counted : 1 ≤ t.generation
  pub number : a.sample.number ≡ t.number
  pub pool : a.sample.pool ≡ t.pool
  pub drops : a.sample.drops ≡ t.drops
  pub place : a.place ≡ place_shown at

abbrev pub pool_in : TrueSample → NumberedValue
pool_in t = record { number = pos t.number; value = t.pool }

abbrev pub drops_in : TrueSample → NumberedValue
drops_in t = record { number = pos t.number; value = t.drops }

-- all samples of the newest generation
abbrev pub newest_samples : List Arrived → List Arrived
newest_samples samples =
    filter (λ (x : Arrived). generation_of x == newest_index generation_of samples) samples

-- what is kept stands for these samples of its boot, of which there is one at least
pub record Shows (width : ℕ) (s : SourceState) (samples : List Arrived) : Type 0 where
  pub current : List Arrived
  pub closed : List (List Arrived)
  pub numbered : AllByRecursion (λ (x : Arrived). 1 ≤ generation_of x) samples
  pub stretches_are : true_stretches generation_of samples ≡ current ∷ closed
  pub current_is : newest_samples samples ≡ current
  pub first_is : first_generation samples ≡ s.first
  pub newest_is : newest_index generation_of samples ≡ s.newest
  pub newest_number_is : greatest_of (sample_numbers current) ≡ Some (pos s.newest_number)
  pub numbers_are : KeepsNewest generation_of sample_number s.numbers samples
  pub openers_are : (g : ℕ) → opener_shown (slots.kept s.openers g) ≡ opener_of g samples
  pub pools_are : ends_in (values pool_of (kept width current)) ≡ Some s.pools
  pub drops_are : ends_in (values drops_of (kept width current)) ≡ Some s.drops

-- ---- what one sample more makes of it

-- whether a sample is apparent after those so far
abbrev pub is_apparent_in : SourceState → TruePlace → TrueSample → Bool
is_apparent_in s at t =
    nat_le s.first t.generation
    && ((not (nat_lt s.newest t.generation) || does_not_rise (pos t.number) (pos s.newest_number))
    && is_not_before (place_shown at) (opener_shown (slots.kept s.openers t.generation)))

abbrev pub is_close_in : SourceState → TrueSample → Bool
is_close_in s t = is_close_to (as_int (slots.kept s.numbers t.generation)) (pos t.number)

abbrev pub rises_in : SourceState → TrueSample → Bool
rises_in s t = rises_from (2 ^ 32) s.pools (pool_in t) && rises_from (2 ^ 32) s.drops (drops_in t)

-- the first sample of a boot
pub record Begins (boot : ℕ) (t : TrueSample) (was now : SourceState) : Type 0 where
  pub boot_is : now.boot ≡ boot
  pub first_is : now.first ≡ t.generation
  pub newest_is : now.newest ≡ t.generation
  pub newest_number_is : now.newest_number ≡ t.number
  pub numbers_are : (i : ℕ) → slots.kept now.numbers i ≡ cond (t.generation == i) (Some t.number) None
  pub openers_are : (i : ℕ) → slots.kept now.openers i ≡ None
  pub pools_are : now.pools ≡ both_ends (pool_in t)
  pub drops_are : now.drops ≡ both_ends (drops_in t)
  pub close_is : now.close ≡ was.close
  pub apparent_is : now.apparent ≡ was.apparent

-- of a generation that is later than all before
pub record Opens (at : TruePlace) (t : TrueSample) (was now : SourceState) : Type 0 where
  pub newest_is : now.newest ≡ t.generation
  pub newest_number_is : now.newest_number ≡ t.number
  pub openers_are : (i : ℕ) → slots.kept now.openers i ≡ cond (t.generation == i) (Some at) (slots.kept was.openers i)
  pub pools_are : now.pools ≡ both_ends (pool_in t)
  pub drops_are : now.drops ≡ both_ends (drops_in t)
  pub close_is : now.close ≡ was.close

-- of the newest generation, or of an earlier one
pub record Stays (was now : SourceState) : Type 0 where
  pub newest_is : now.newest ≡ was.newest
  pub openers_are : now.openers ≡ was.openers

pub record Passes (was now : SourceState) : Type 0 where
  pub newest_number_is : now.newest_number ≡ was.newest_number
  pub pools_are : now.pools ≡ was.pools
  pub drops_are : now.drops ≡ was.drops
  pub close_is : now.close ≡ was.close

pub record Counts (t : TrueSample) (was now : SourceState) : Type 0 where
  pub newest_number_is : now.newest_number ≡ newer_of (Some was.newest_number) t.number
  pub pools_are : now.pools ≡ ends_with was.pools (pool_in t)
  pub drops_are : now.drops ≡ ends_with was.drops (drops_in t)
  pub close_is : now.close ≡ (rises_in was t && was.close)

-- where the sample's generation is the newest, or later, or earlier
pub record Advances (width : ℕ) (at : TruePlace) (t : TrueSample) (was now : SourceState) : Type 0 where
  pub later : was.newest < t.generation → Opens at t was now
  pub stays : t.generation ≤ was.newest → Stays was now
  pub late : t.generation ≡ was.newest → is_behind width (Some was.newest_number) t.number ≡ true → Passes was now
  pub counts : t.generation ≡ was.newest → is_behind width (Some was.newest_number) t.number ≡ false → Counts t was now
  pub earlier : t.generation < was.newest → Passes was now

-- a sample that isn't the first of its boot
pub record GoesOn (width : ℕ) (at : TruePlace) (t : TrueSample) (was now : SourceState) : Type 0 where
  pub boot_is : now.boot ≡ was.boot
  pub first_is : now.first ≡ was.first
  pub numbers_are : (i : ℕ) → slots.kept now.numbers i
      ≡ cond (t.generation == i) (Some (newer_of (slots.kept was.numbers t.generation) t.number)) (slots.kept was.numbers i)
  pub apparent_is : now.apparent ≡ (is_apparent_in was at t && was.apparent)
  pub advances : Advances width at t (record was { close = is_close_in was t && was.close }) now
