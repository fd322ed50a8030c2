-- A ledger of marks, and the stretches of marks for which it stands: the current one first, and in each the
-- LATEST FIRST.
use Rattle.std.specs.Prelude.{◌≡◌, ℕ, List, length}
use Rattle.std.specs.List.{sum_by}
use Rattle.count_spec.specs.Windows.{repeat_count, late_count}
use Rattle.late_window.specs.States.{WindowState}
use Rattle.late_window.specs.States as window
use Rattle.books_spec.specs.Views.{closed_figures}
use Rattle.source_ledger.specs.Stretches.{current_of, closed_of}

-- what is to be seen of a ledger of marks
pub record MarksState : Type 0 where
  pub width : ℕ
  -- how many marks were entered
  pub entered : ℕ
  -- how many numbers were issued in the closed stretches, how many of them were received, and how many are lost
  pub issued : ℕ
  pub received : ℕ
  pub lost : ℕ
  -- how many marks of all stretches were Repeats, and how many Late
  pub repeated : ℕ
  pub late : ℕ
  -- the window of the current stretch
  pub window : WindowState

-- the ledger stands for these stretches
pub record StandsFor (s : MarksState) (stretches : List (List ℕ)) : Type 0 where
  pub all_entered : s.entered ≡ sum_by length stretches
  pub width_is : s.window.width ≡ s.width
  pub window_stands : window.StandsFor s.window (current_of stretches)
  pub issued_is : s.issued ≡ (closed_figures s.width (closed_of stretches)).issued
  pub received_is : s.received ≡ (closed_figures s.width (closed_of stretches)).received
  pub lost_is : s.lost ≡ (closed_figures s.width (closed_of stretches)).lost
  pub repeated_are : s.repeated ≡ sum_by (repeat_count s.width) stretches
  pub late_are : s.late ≡ sum_by (late_count s.width) stretches
