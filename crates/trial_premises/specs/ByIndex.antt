-- Values for some indexes, each in a slot of its own.
use Rattle.std.specs.Prelude.{ℕ, zero, suc, Option, None, List, [], ◌∷◌}

-- the value of an index, if it has one
abbrev pub kept : {T : Type 0} → List (Option T) → ℕ → Option T
kept [] i = None
kept (slot ∷ more) zero = slot
kept (slot ∷ more) (suc i) = kept more i
