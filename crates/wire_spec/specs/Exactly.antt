-- How many values a fact has.
use Rattle.std.specs.Prelude.{◌≡◌, ◌⊎◌}

-- one, and no other
abbrev pub ExactlyOne : {A : Type 0} → (A → Type 0) → Type 0
ExactlyOne {A} P = (x : A) × P x × ((y : A) → P y → y ≡ x)

-- none at all
abbrev pub NoneIs : {A : Type 0} → (A → Type 0) → Type 0
NoneIs {A} P = (y : A) → P y → ⊥

-- one value of the first fact and none of the second, or one of the second and none of the first
abbrev pub OneOfEither : {A B : Type 0} → (A → Type 0) → (B → Type 0) → Type 0
OneOfEither P Q = (ExactlyOne P × NoneIs Q) ⊎ (ExactlyOne Q × NoneIs P)
