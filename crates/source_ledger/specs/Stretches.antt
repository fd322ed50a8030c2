-- Stretches of a list of items: the current one first, and in each the LATEST FIRST.
use Rattle.std.specs.Prelude.{List, [], ◌∷◌}

-- the items of the current stretch
abbrev pub current_of : {X : Type 0} → List (List X) → List X
current_of [] = []
current_of (current ∷ closed) = current

-- the other stretches
abbrev pub closed_of : {X : Type 0} → List (List X) → List (List X)
closed_of [] = []
closed_of (current ∷ closed) = closed
