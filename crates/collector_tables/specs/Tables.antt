-- The entries of a table, in the order of their places, and what they stand for.
use Rattle.std.specs.Prelude.{◌≡◌, ℕ, List, [], ◌∷◌, map}

-- what contracts see of a table: its entries, and how many there may be
pub record Table (K V : Type 0) : Type 0 where
  pub entries : List (K × V)
  pub limit : ℕ

-- the keys of the entries, as the definitions have them
abbrev pub keys_in : {K V S : Type 0} → (K → S) → List (K × V) → List S
keys_in {K} {V} key entries = map (λ (e : K × V). key e.0) entries

-- what is kept at each key is so
abbrev pub Each : {K V S : Type 0} → (K → S) → (S → V → Type 0) → List (K × V) → Type 0
Each key P [] = Unit {0}
Each key P (e ∷ more) = P (key e.0) e.1 × Each key P more

-- the table has these keys, and what it keeps at each is so
pub record Holds {K V S : Type 0} (key : K → S) (P : S → V → Type 0) (entries : List (K × V)) (keys : List S) : Type 0 where
  pub keys_are : keys_in key entries ≡ keys
  pub each : Each key P entries
