-- The newest number of each index, as of each boot or each generation, kept number by number. What is given has the
-- LATEST FIRST.
use Rattle.std.specs.Prelude.{ℕ, ◌==◌, Bool, true, cond, ◌&&◌, Option, Some, None, List, [], ◌∷◌, ℤ, pos, ◌+ℤ◌, int_lt}
use Rattle.std.specs.Int.{int_max}

-- the newest number of this index
pub record Newest : Type 0 where
  pub index : ℕ
  pub number : ℤ

abbrev pub newest_at : ℕ → List Newest → Option ℤ
newest_at i [] = None
newest_at i (t ∷ more) = cond (t.index == i) (Some t.number) (newest_at i more)

-- with a further number of this index
abbrev pub with_number : ℕ → ℤ → List Newest → List Newest
with_number i n [] = record { index = i; number = n } ∷ []
with_number i n (t ∷ more) =
    cond (t.index == i) (record { index = i; number = int_max n t.number } ∷ more) (t ∷ with_number i n more)

module _ {X : Type 0} (index : X → ℕ) (number : X → ℤ) where
  -- those of all of these
  abbrev pub newest_each : List X → List Newest
  newest_each [] = []
  newest_each (x ∷ before) = with_number (index x) (number x) (newest_each before)

-- a number is less than 2^31 from that one, if there is one
abbrev pub is_close_to : Option ℤ → ℤ → Bool
is_close_to None n = true
is_close_to (Some m) n = int_lt n (m +ℤ pos 2147483648) && int_lt m (n +ℤ pos 2147483648)
