-- The fields of a window.
use Rattle.std.specs.Prelude.{◌≡◌, ℕ, ◌+◌, ◌*◌, ◌^◌, ◌<◌, ◌≤◌, Bool, pos, ◌≤ℤ◌}
use Rattle.late_window.specs.Distances.{tabulated}
use Rattle.late_window.specs.Ring.{bit_below}
use Rattle.late_window.specs.Settled.{IsSettled, IsEmpty}
use Rattle.late_window.specs.States.{WindowState}
use Rattle.late_window.specs.declared.TheConstants.{MAX_WIDTH}
use Rattle.late_window.specs.declared.window.Window.TheInside.{Inside}

-- whether the number so far below the newest was counted, as the window's bits tell it
abbrev pub held : Inside → ℕ → Bool
held w back = bit_below w.recent.words w.recent.slots w.recent.head back

abbrev pub window_state : Inside → WindowState
window_state w = record {
  width = w.width;
  entered = w.entered;
  received = w.received;
  newest = w.newest;
  span = w.span;
  recent = tabulated (held w) w.width;
}

-- what each window keeps
pub record IsWindow (w : Inside) : Type 0 where
  pub width_from : 1 ≤ w.width
  pub width_to : w.width ≤ MAX_WIDTH
  pub room : w.width ≤ w.recent.slots
  pub few : w.entered ≤ 2 ^ 62
  pub received_few : w.received ≤ w.entered
  pub newest_from : pos 0 ≤ℤ w.newest
  pub newest_to : w.newest ≤ℤ pos (2 ^ 32 * w.entered)
  pub span_to : w.span ≤ 2 ^ 31 * w.entered
  pub empty : w.received ≡ 0 → (w.newest ≡ pos 0) × IsEmpty (held w) w.width w.span w.pending w.entered
  pub settled : 0 < w.received → IsSettled (held w) w.width w.span w.pending
  pub sum : 0 < w.received → w.received + w.pending ≤ w.span + 1
