-- Fewer than 2^31 numbers separate receipts. Every list has the LATEST FIRST.
use Rattle.std.specs.Prelude.{ℕ, ◌^◌, ◌==◌, List, [], ◌∷◌, map, ℤ}
use Rattle.std.specs.List.{filter, AllByRecursion}
use Rattle.count_spec.specs.TrueRise.{RiseByLess}
use Rattle.count_spec.specs.TrueStretches.{true_stretches}
use Rattle.account_spec.specs.TrueNumbers.{IsClose}
use Rattle.account_spec.specs.Arrivals.{Arrived, generation_of, sample_number}
use Rattle.account_spec.specs.Accounts.{kept, values, pool_of, drops_of}

-- each number is less than 2^31 from the newest before it of its own boot, or of its own generation
abbrev pub AreCloseEach : {X : Type 0} → (X → ℕ) → (X → ℤ) → List X → Type 0
AreCloseEach index number [] = Unit {0}
AreCloseEach {X} index number (x ∷ before) =
    IsClose (map number (filter (λ (y : X). index y == index x) before)) (number x) × AreCloseEach index number before

-- true pools and drops rise by less than 2^32
pub record RiseSlowly (width : ℕ) (generation : List Arrived) : Type 0 where
  pub pools : RiseByLess (2 ^ 32) (values pool_of (kept width generation))
  pub drops : RiseByLess (2 ^ 32) (values drops_of (kept width generation))

-- of the samples of one source in one boot
pub record AreCloseSamples (width : ℕ) (samples : List Arrived) : Type 0 where
  pub numbers : AreCloseEach generation_of sample_number samples
  pub rise : AllByRecursion (RiseSlowly width) (true_stretches generation_of samples)
