-- Two lists side by side.
use Rattle.std.specs.Prelude.{List, [], ◌∷◌}

-- they are of one length, and this holds of the items at each place
abbrev pub Each : {A B : Type 0} → (A → B → Type 0) → List A → List B → Type 0
Each P [] [] = Unit {0}
Each P [] (b ∷ bs) = ⊥
Each P (a ∷ more) [] = ⊥
Each P (a ∷ more) (b ∷ bs) = P a b × Each P more bs
