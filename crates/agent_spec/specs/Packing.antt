-- The datagrams of a send: staged samples, in order of issue, cut into longest prefixes that fit one datagram.
use Rattle.std.specs.Prelude.{ℕ, zero, suc, Bool, cond, List, [], ◌∷◌, ◌++◌, length, take, drop}

-- lists, one behind the other
abbrev pub joined : {X : Type 0} → List (List X) → List X
joined [] = []
joined (items ∷ more) = items ++ joined more

module _ {X : Type 0} (fits : List X → Bool) where
  -- the greatest number from 1 to k of items at the front that fit together
  abbrev pub longest : List X → ℕ → ℕ
  longest items zero = 1
  longest items (suc k) = cond (fits (take (suc k) items)) (suc k) (longest items k)

  -- up to so many longest prefixes, one after the other
  abbrev pub prefixes : ℕ → List X → List (List X)
  prefixes zero items = []
  prefixes (suc most) [] = []
  prefixes (suc most) (x ∷ more) =
      let size : ℕ = longest (x ∷ more) (length (x ∷ more)) in
      take size (x ∷ more) ∷ prefixes most (drop size (x ∷ more))

  -- the whole list in longest prefixes, none of which is empty
  abbrev pub cut : List X → List (List X)
  cut items = prefixes (length items) items
