-- What a further mark changes in a window, by its distance from the newest number.
use Rattle.std.specs.Prelude.{◌≡◌, ℕ, ◌+◌, ◌-◌, ◌<◌, ◌≤◌, ◌==◌, ◌&&◌, ◌||◌, nat_le, ℤ, pos, ◌+ℤ◌, ◌-ℤ◌}
use Rattle.late_window.specs.States.{WindowState, is_recent}
use Rattle.late_window.specs.declared.side.Side.{Side}
use Rattle.late_window.specs.declared.side.Side.TheVariants.{Above, Below}

-- the number n is on this side of the newest number, less than 2^31 above it or at most 2^31 below it
abbrev pub IsBeside : Side → ℤ → ℤ → Type 0
IsBeside (Above step) newest n = (n ≡ (newest +ℤ pos step)) × (0 < step) × (step < 2147483648)
IsBeside (Below back) newest n = (n ≡ (newest -ℤ pos back)) × (back ≤ 2147483648)

-- the first mark stands for itself
pub record Begins (old new : WindowState) (mark : ℕ) : Type 0 where
  pub width : new.width ≡ old.width
  pub entered : new.entered ≡ old.entered + 1
  pub received : new.received ≡ 1
  pub newest : new.newest ≡ pos mark
  pub span : new.span ≡ 0
  pub recent : (k : ℕ) → k < new.width → is_recent new k ≡ (k == 0)

-- a number is counted, so far above the newest one
pub record Advances (old new : WindowState) (step : ℕ) : Type 0 where
  pub width : new.width ≡ old.width
  pub entered : new.entered ≡ old.entered + 1
  pub received : new.received ≡ old.received + 1
  pub newest : new.newest ≡ (old.newest +ℤ pos step)
  pub span : new.span ≡ old.span + step
  pub recent : (k : ℕ) → k < new.width
      → is_recent new k ≡ (k == 0 || (nat_le step k && is_recent old (k - step)))

-- a number is counted, so far below the newest one; the span is then this
pub record Fills (old new : WindowState) (back span : ℕ) : Type 0 where
  pub width : new.width ≡ old.width
  pub entered : new.entered ≡ old.entered + 1
  pub received : new.received ≡ old.received + 1
  pub newest : new.newest ≡ old.newest
  pub span_is : new.span ≡ span
  pub recent : (k : ℕ) → k < new.width → is_recent new k ≡ (k == back || is_recent old k)

-- nothing is counted
abbrev pub Passes : WindowState → WindowState → Type 0
Passes old new = new ≡ record old { entered = old.entered + 1 }
