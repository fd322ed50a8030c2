-- Whether fewer than 2^31 numbers separate receipts, and pools and drops rise by less than 2^32, item by item. What is kept
-- is the newest number of each boot or generation, and of the newest generation what it showed at its ends. What is given
-- has the LATEST FIRST.
use Rattle.std.specs.Prelude.{ℕ, ◌+◌, ◌^◌, nat_lt, Bool, true, cond, not, ◌&&◌, ◌||◌, List, [], ◌∷◌, ℤ, int_lt, int_le}
use Rattle.std.specs.List.{list_all}
use Rattle.count_spec.specs.Rise.{NumberedValue}
use Rattle.count_spec.specs.TrueStretches.{true_stretches}
use Rattle.account_spec.specs.Arrivals.{Arrived, generation_of, sample_number}
use Rattle.account_spec.specs.Accounts.{kept, values, pool_of, drops_of}
use Rattle.trial_spec.specs.Newest.{newest_at, newest_each, is_close_to}

-- each number is close to the newest before it of its own index
abbrev pub are_close_each : {X : Type 0} → (X → ℕ) → (X → ℤ) → List X → Bool
are_close_each index number [] = true
are_close_each index number (x ∷ before) =
    is_close_to (newest_at (index x) (newest_each index number before)) (number x) && are_close_each index number before

-- ---- values

-- the greatest number and the least, and the latest value at each
pub record Ends : Type 0 where
  pub greatest : ℤ
  pub at_greatest : ℕ
  pub least : ℤ
  pub at_least : ℕ

abbrev pub both_ends : NumberedValue → Ends
both_ends v = record { greatest = v.number; at_greatest = v.value; least = v.number; at_least = v.value }

-- with a further value
abbrev pub ends_with : Ends → NumberedValue → Ends
ends_with e v = record {
  greatest = cond (int_le e.greatest v.number) v.number e.greatest;
  at_greatest = cond (int_le e.greatest v.number) v.value e.at_greatest;
  least = cond (int_le v.number e.least) v.number e.least;
  at_least = cond (int_le v.number e.least) v.value e.at_least;
}

-- of a value and those before it
abbrev pub ends_of : NumberedValue → List NumberedValue → Ends
ends_of v [] = both_ends v
ends_of v (u ∷ before) = ends_with (ends_of u before) v

-- a new greatest number rises by less than the modulus, and so does the least from a new one
abbrev pub rises_from : ℕ → Ends → NumberedValue → Bool
rises_from modulus e v =
    (not (int_lt e.greatest v.number) || nat_lt v.value (e.at_greatest + modulus))
    && (not (int_lt v.number e.least) || nat_lt e.at_least (v.value + modulus))

abbrev pub rise_by_less : ℕ → List NumberedValue → Bool
rise_by_less modulus [] = true
rise_by_less modulus (v ∷ []) = true
rise_by_less modulus (v ∷ u ∷ before) = rises_from modulus (ends_of u before) v && rise_by_less modulus (u ∷ before)

-- ---- samples of one source in one boot

abbrev pub rise_slowly : ℕ → List Arrived → Bool
rise_slowly width generation =
    rise_by_less (2 ^ 32) (values pool_of (kept width generation))
    && rise_by_less (2 ^ 32) (values drops_of (kept width generation))

abbrev pub are_close_samples : ℕ → List Arrived → Bool
are_close_samples width samples =
    are_close_each generation_of sample_number samples
    && list_all (rise_slowly width) (true_stretches generation_of samples)
