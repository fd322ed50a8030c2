-- A ledger of marks over the boots of a stream, and the boots for which it stands: the current boot first, and in
-- each the LATEST FIRST. A boot may have no mark.
use Rattle.std.specs.Prelude.{◌≡◌, ℕ, List, [], ◌∷◌, length}
use Rattle.source_ledger.specs.Marks.{MarksState}
use Rattle.source_ledger.specs.Marks as marks

-- the boots up to the last one that has an entry
abbrev pub entered_boots : {X : Type 0} → List (List X) → List (List X)
entered_boots [] = []
entered_boots ([] ∷ closed) = entered_boots closed
entered_boots ((x ∷ more) ∷ closed) = (x ∷ more) ∷ closed

-- what is to be seen of it
pub record BootsState : Type 0 where
  -- the number of the boot that was entered last, or 0
  pub boot : ℕ
  -- the marks of the boots up to that one
  pub marks : MarksState

-- the ledger shows these boots, the first of which has a mark
pub record ShowsBoots (s : BootsState) (boots : List (List ℕ)) : Type 0 where
  pub boot_is : s.boot ≡ length boots
  pub marks_stand : marks.StandsFor s.marks boots

-- the ledger stands for these boots: those after the last that has a mark don't matter
abbrev pub StandsFor : BootsState → List (List ℕ) → Type 0
StandsFor s boots = ShowsBoots s (entered_boots boots)
