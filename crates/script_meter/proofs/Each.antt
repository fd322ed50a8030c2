-- Rows that are set anew, one after the other.
use Rattle.std.proofs.Common.{◌≡◌, ◌∙◌, ◌+◌, ◌<◌, ℕ, zero, suc, List, [], ◌∷◌, ◌++◌, length, map, take, drop, set, get_or, refl, ap, arith}

module _ {X : Type 0} (f : X → X) where
  abbrev done : ℕ → List X → List X
  done i xs = map f (take i xs) ++ drop i xs

  next : (xs : List X) (i : ℕ) (d : X) → i < length xs → set (done i xs) i (f (get_or (done i xs) i d)) ≡ done (suc i) xs
  next [] i d within = absurd (omega (arith, within))
  next (x ∷ more) zero d within = refl
  next (x ∷ more) (suc i) d within = ap (λ (l : List X). f x ∷ l) (next more i d (omega (arith, within)))

  pub step : (xs ys : List X) (i : ℕ) (d y : X) → i < length xs → ys ≡ done i xs → y ≡ f (get_or ys i d)
      → set ys i y ≡ done (i + 1) xs
  step xs ys i d y within is made =
      let one : suc i ≡ i + 1 = omega arith in
      ap (λ (z : X). set ys i z) made ∙ ap (λ (l : List X). set l i (f (get_or l i d))) is ∙ next xs i d within
      ∙ ap (λ (n : ℕ). done n xs) one

  pub all_done : (xs : List X) (i : ℕ) → i ≡ length xs → done i xs ≡ map f xs
  all_done xs i e = ap (λ (n : ℕ). done n xs) e ∙ whole xs
    where
      whole : (l : List X) → done (length l) l ≡ map f l
      whole [] = refl
      whole (x ∷ more) = ap (λ (k : List X). f x ∷ k) (whole more)

  pub same_long : (xs ys : List X) (i : ℕ) → ys ≡ done i xs → length ys ≡ length xs
  same_long xs ys i is = ap length is ∙ long xs i
    where
      long : (l : List X) (n : ℕ) → length (done n l) ≡ length l
      long [] zero = refl
      long [] (suc n) = refl
      long (x ∷ more) zero = refl
      long (x ∷ more) (suc n) = ap (λ (m : ℕ). suc m) (long more n)
