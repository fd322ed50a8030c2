-- Lines for a list of things, one after the other, each with its number.
use Rattle.std.specs.Prelude.{ℕ, ◌+◌, List, [], ◌∷◌, ◌++◌}

-- the lines of these, the first of which has this number
abbrev pub lines_of : {A : Type 0} → (ℕ → A → List ℕ) → ℕ → List A → List ℕ
lines_of line number [] = []
lines_of line number (x ∷ xs) = line number x ++ lines_of line (number + 1) xs
