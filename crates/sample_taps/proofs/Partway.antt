-- Consumers of which the first ones have taken what all are to take.
use Rattle.std.proofs.Common.{◌≡◌, ℕ, zero, suc, ◌<◌, ◌≤◌, ◌+◌, List, [], ◌∷◌, length, get_or, set, refl, subst, arith, add-one}
use Rattle.std.specs.List.{AllZip}

module _ {X : Type 0} (Took : X → X → Type 0) where
  -- the first n did their part, and the others are as they were
  abbrev pub Partway : ℕ → List X → List X → Type 0
  Partway n [] [] = Unit {0}
  Partway n [] (y ∷ ys) = ⊥
  Partway n (x ∷ xs) [] = ⊥
  Partway zero (x ∷ xs) (y ∷ ys) = (y ≡ x) × Partway zero xs ys
  Partway (suc n) (x ∷ xs) (y ∷ ys) = Took x y × Partway n xs ys

  pub at_first : (xs : List X) → Partway 0 xs xs
  at_first [] = tt
  at_first (x ∷ xs) = (refl, at_first xs)

  one_further : (n : ℕ) (xs ys : List X) (d z : X) → Partway n xs ys → n < length ys → Took (get_or ys n d) z
      → Partway (suc n) xs (set ys n z)
  one_further n [] [] d z part lt took = absurd (omega (arith, lt))
  one_further n [] (y ∷ ys) d z part lt took = absurd part
  one_further n (x ∷ xs) [] d z part lt took = absurd part
  one_further zero (x ∷ xs) (y ∷ ys) d z part lt took = (subst (λ w. Took w z) part.0 took, part.1)
  one_further (suc n) (x ∷ xs) (y ∷ ys) d z part lt took = (part.0, one_further n xs ys d z part.1 (omega (arith, lt)) took)

  pub further : (n : ℕ) (xs ys : List X) (d z : X) → Partway n xs ys → n < length ys → Took (get_or ys n d) z
      → Partway (n + 1) xs (set ys n z)
  further n xs ys d z part lt took = rw (add-one n) (one_further n xs ys d z part lt took)

  pub at_last : (n : ℕ) (xs ys : List X) → Partway n xs ys → length ys ≤ n → AllZip Took xs ys
  at_last n [] [] part le = tt
  at_last n [] (y ∷ ys) part le = absurd part
  at_last n (x ∷ xs) [] part le = absurd part
  at_last zero (x ∷ xs) (y ∷ ys) part le = absurd (omega (arith, le))
  at_last (suc n) (x ∷ xs) (y ∷ ys) part le = (part.0, at_last n xs ys part.1 (omega (arith, le)))
