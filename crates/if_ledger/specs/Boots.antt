-- A ledger of interface counters, and the samples of its source in each boot for which it stands. Samples have the
-- LATEST FIRST, and boots and generations the current one first.
use Rattle.std.specs.Prelude.{◌≡◌, ℕ, ◌≤◌, ◌<◌, false, Option, Some, None, List, [], ◌∷◌, length}
use Rattle.count_spec.specs.Windows.{has}
use Rattle.count_spec.specs.declared.entered.Entered as window
use Rattle.count_spec.specs.declared.entered.Entered.TheVariants.{First, Repeat, Late}
use Rattle.books_spec.specs.declared.booked.Booked.{Booked}
use Rattle.books_spec.specs.declared.booked.Booked.TheVariants.{Entered, Past}
use Rattle.books_spec.specs.Generations.{generations}
use Rattle.books_spec.specs.SourceViews.{generation_count}
use Rattle.books_spec.specs.PlacedSamples.{InterfaceSample}
use Rattle.books_spec.specs.InterfaceRise.{InterfaceCounters, NumberedCounters, first_counters}
use Rattle.books_spec.specs.WholeBooks.{place_seen, mark_seen, counters_seen, carried}
use Rattle.if_ledger.specs.Ledgers.{IfState, StandsFor, numbers_in}

-- the stretches in which a sample carries counters: each is a run of the ledger
abbrev pub runs_of : List (List NumberedCounters) → List (List NumberedCounters)
runs_of [] = []
runs_of ([] ∷ more) = runs_of more
runs_of ((x ∷ xs) ∷ more) = (x ∷ xs) ∷ runs_of more

-- how many generations there were in all boots
abbrev pub runs_before : ℕ → List (List InterfaceSample) → ℕ
runs_before width boots = generation_count place_seen mark_seen width boots

-- so many generations there were, these samples of the current one carry counters: the last run is the current
-- generation's, or an earlier one where none does
abbrev pub IsLastRun : ℕ → ℕ → List NumberedCounters → Type 0
IsLastRun run count [] = run < count
IsLastRun run count (x ∷ more) = run ≡ count

-- of these generations of the current boot
abbrev pub IsRunIn : ℕ → ℕ → ℕ → List (List InterfaceSample) → Type 0
IsRunIn width run count [] = run ≤ count
IsRunIn width run count (current ∷ closed) = IsLastRun run count (first_counters mark_seen counters_seen width current)

abbrev pub IsRunOf : ℕ → ℕ → List (List InterfaceSample) → Type 0
IsRunOf width run [] = run ≡ 0
IsRunOf width run (current ∷ closed) =
    IsRunIn width run (runs_before width (current ∷ closed)) (generations place_seen mark_seen width current)

-- under windows of this width the ledger stands for these boots
pub record StandsForBoots (width : ℕ) (s : IfState) (boots : List (List InterfaceSample)) : Type 0 where
  pub run_is : IsRunOf width s.run boots
  pub runs_stand : StandsFor s (runs_of (carried width boots))

-- ---- one sample more

-- what a sample that was answered so, and carries these counters, adds to its run
abbrev pub numbered : window.Entered → InterfaceCounters → Option NumberedCounters
numbered (First place n) counters = Some (record { number = n; counters = counters })
numbered Repeat counters = None
numbered Late counters = None

abbrev pub added : Booked → Option InterfaceCounters → Option NumberedCounters
added Past counters = None
added (Entered answer) None = None
added (Entered answer) (Some counters) = numbered answer counters

-- a ledger after a sample of this run was entered
pub record Takes (run : ℕ) (x : NumberedCounters) (old new : IfState) : Type 0 where
  pub begins : (runs : List (List NumberedCounters)) → old.run < run → StandsFor old runs
      → StandsFor new ((x ∷ []) ∷ runs)
  pub goes_on : (current : List NumberedCounters) (closed : List (List NumberedCounters)) → run ≡ old.run
      → 1 ≤ length current → has (numbers_in current) x.number ≡ false → StandsFor old (current ∷ closed)
      → StandsFor new ((x ∷ current) ∷ closed)
  pub run_is : new.run ≡ run

-- and after one that may add nothing
abbrev pub TakesAny : ℕ → Option NumberedCounters → IfState → IfState → Type 0
TakesAny run None old new = new ≡ old
TakesAny run (Some x) old new = Takes run x old new
