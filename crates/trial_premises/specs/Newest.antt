-- The newest number of each index, as of each boot or of each generation. What is given has the LATEST FIRST.
use Rattle.std.specs.Prelude.{◌≡◌, ℕ, ◌==◌, nat_lt, cond, Option, Some, None, option_map, List, [], ◌∷◌, map, ℤ, pos}
use Rattle.std.specs.List.{filter}
use Rattle.count_spec.specs.Windows.{greatest}
use Rattle.trial_premises.specs.ByIndex.{kept}

-- the greatest of these, if there is one
abbrev pub greatest_of : List ℤ → Option ℤ
greatest_of [] = None
greatest_of (n ∷ more) = Some (greatest (n ∷ more))

abbrev pub as_int : Option ℕ → Option ℤ
as_int n = option_map pos n

-- the newer one of a number and that one, if there is one
abbrev pub newer_of : Option ℕ → ℕ → ℕ
newer_of None n = n
newer_of (Some m) n = cond (nat_lt m n) n m

-- what is kept is the newest number of each index
abbrev pub KeepsNewest : {X : Type 0} → (X → ℕ) → (X → ℤ) → List (Option ℕ) → List X → Type 0
KeepsNewest {X} index number slots xs =
    (i : ℕ) → as_int (kept slots i) ≡ greatest_of (map number (filter (λ (y : X). index y == i) xs))
