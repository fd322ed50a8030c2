-- A walk over the script of a made run, whose lines are made one after the other. Every list of lines has the LATEST FIRST.
use Rattle.std.specs.Prelude.{◌≡◌, ℕ, List, Result, Ok, Err}
use Rattle.script_spec.specs.Lines.{Line}
use Rattle.made_runs.specs.Scripts.{Gave, IsWhole, ScriptState}

-- these lines of the script of a run were made
pub record BeginsRun (seed packets : ℕ) (lines : List Line) : Type 0 where
  pub state : ScriptState
  pub gave : Gave state lines
  pub seed_is : state.seed ≡ seed
  pub total_is : state.total ≡ packets

-- all lines were made and taken
pub record TookRun (stands takes : List Line → Type 0) (seed packets : ℕ) : Type 0 where
  pub lines : List Line
  pub whole : IsWhole seed packets lines
  pub stand : stands lines
  pub were : takes lines

-- memory was lacking behind these
pub record TookSome (stands takes : List Line → Type 0) (seed packets : ℕ) : Type 0 where
  pub lines : List Line
  pub begins : BeginsRun seed packets lines
  pub stand : stands lines
  pub were : takes lines

-- all were taken, or memory was lacking behind some; this stands of the lines
abbrev pub RunEnds : {T E : Type 0} → (all some takes : List Line → Type 0) → (seed packets : ℕ) → Result T E → Type 0
RunEnds all some takes seed packets (Ok done) = TookRun all takes seed packets
RunEnds all some takes seed packets (Err lacking) = TookSome some takes seed packets
