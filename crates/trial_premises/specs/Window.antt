-- A window over true numbers, and the numbers for which it stands: the LATEST FIRST.
use Rattle.std.specs.Prelude.{◌≡◌, ℕ, ◌==◌, ◌-◌, ◌%◌, nat_le, Bool, false, ◌&&◌, Option, Some, None, List, ℤ, pos}
use Rattle.count_spec.specs.Windows.{has}
use Rattle.account_spec.specs.TrueNumbers.{is_late, in_time}
use Rattle.trial_premises.specs.ByIndex.{kept}
use Rattle.trial_premises.specs.Newest.{as_int, greatest_of}

pub record WindowState : Type 0 where
  pub width : ℕ
  -- the newest number, if there is one
  pub newest : Option ℕ
  -- the number that was counted last in each slot
  pub slots : List (Option ℕ)

-- whether a number is at most the newest less the width
abbrev pub is_behind : ℕ → Option ℕ → ℕ → Bool
is_behind width None n = false
is_behind width (Some m) n = nat_le n m && nat_le width (m - n)

-- whether a slot has this number
abbrev pub is_kept : Option ℕ → ℕ → Bool
is_kept None n = false
is_kept (Some m) n = m == n

pub record StandsFor (s : WindowState) (numbers : List ℤ) : Type 0 where
  pub newest_is : as_int s.newest ≡ greatest_of numbers
  pub counted_are : (n : ℕ) → is_late s.width numbers (pos n) ≡ false
      → is_kept (kept s.slots (n % s.width)) n ≡ has (in_time s.width numbers) (pos n)
