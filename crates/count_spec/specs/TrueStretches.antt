-- Stretches by what each item is truly of, as the boot or the generation of its agent: the index of an item, counted
-- from 1. An item is past where one of a later index came before it. Every list has the LATEST FIRST, and the current
-- stretch first.
use Rattle.std.specs.Prelude.{ℕ, Bool, cond, not, ◌&&◌, ◌==◌, max, nat_lt, List, [], ◌∷◌, map}
use Rattle.count_spec.specs.declared.stretch_place.StretchPlace.{StretchPlace}
use Rattle.count_spec.specs.declared.stretch_place.StretchPlace.TheVariants.{Current, Next, Stale}

module _ {X : Type 0} (index : X → ℕ) where
  -- the newest index among these, or 0
  abbrev pub newest_index : List X → ℕ
  newest_index [] = 0
  newest_index (x ∷ before) = max (index x) (newest_index before)

  -- whether an item of a later index came before
  abbrev pub is_past : List X → X → Bool
  is_past before x = nat_lt (index x) (newest_index before)

  -- the items of this index that aren't past
  abbrev pub stretch_of : ℕ → List X → List X
  stretch_of i [] = []
  stretch_of i (x ∷ before) =
      cond ((index x == i) && not (is_past before x)) (x ∷ stretch_of i before) (stretch_of i before)

  -- the indexes of the items that aren't past, the newest first
  abbrev pub indexes : List X → List ℕ
  indexes [] = []
  indexes (x ∷ before) = cond (nat_lt (newest_index before) (index x)) (index x ∷ indexes before) (indexes before)

  -- the true stretches
  abbrev pub true_stretches : List X → List (List X)
  true_stretches items = map (λ i. stretch_of i items) (indexes items)

  -- the items that are past
  abbrev pub past_items : List X → List X
  past_items [] = []
  past_items (x ∷ before) = cond (is_past before x) (x ∷ past_items before) (past_items before)

  -- where an item truly belongs after these
  abbrev pub true_place : List X → X → StretchPlace
  true_place before x =
      cond (is_past before x) Stale (cond (nat_lt (newest_index before) (index x)) Next Current)
