-- What slots keep after a change.
use Rattle.std.proofs.Common.{◌≡◌, ◌∙◌, ◌<◌, ◌≤◌, ◌+◌, ℕ, zero, suc, Bool, true, false, cond, Option, None, List, [], ◌∷◌, ◌++◌, length, get_or, refl, sym, ap, arith}
use Rattle.std.specs.Prelude.{◌==◌, slice_set}
use Rattle.std.proofs.lemmas.Bool.{eqb-true, eqb-false}
use Rattle.trial_premises.specs.ByIndex.{kept}

pub kept-get_or : {T : Type 0} (slots : List (Option T)) (i : ℕ) (d : Option T) → i < length slots
    → get_or slots i d ≡ kept slots i
kept-get_or [] i d h = absurd (omega arith)
kept-get_or (slot ∷ more) zero d h = refl
kept-get_or (slot ∷ more) (suc i) d h = kept-get_or more i d (omega arith)

pub kept-past : {T : Type 0} (slots : List (Option T)) (i : ℕ) → length slots ≤ i → kept slots i ≡ None
kept-past [] i e = refl
kept-past (slot ∷ more) zero e = absurd (omega arith)
kept-past (slot ∷ more) (suc i) e = kept-past more i (omega arith)

pub kept-push : {T : Type 0} (slots : List (Option T)) (i : ℕ) → kept (slots ++ None ∷ []) i ≡ kept slots i
kept-push [] zero = refl
kept-push [] (suc i) = refl
kept-push (slot ∷ more) zero = refl
kept-push (slot ∷ more) (suc i) = kept-push more i

pub kept-same : {T : Type 0} (slots : List (Option T)) (i : ℕ) (o : Option T) → i < length slots
    → kept (slice_set slots i o) i ≡ o
kept-same [] i o h = absurd (omega arith)
kept-same (slot ∷ more) zero o h = refl
kept-same (slot ∷ more) (suc i) o h = kept-same more i o (omega arith)

pub kept-other : {T : Type 0} (slots : List (Option T)) (i j : ℕ) (o : Option T) → (j ≡ i → ⊥)
    → kept (slice_set slots j o) i ≡ kept slots i
kept-other [] i j o apart = refl
kept-other (slot ∷ more) zero zero o apart = absurd (apart refl)
kept-other (slot ∷ more) zero (suc j) o apart = refl
kept-other (slot ∷ more) (suc i) zero o apart = refl
kept-other (slot ∷ more) (suc i) (suc j) o apart = kept-other more i j o (λ e. apart (ap suc e))

pub kept-set : {T : Type 0} (slots : List (Option T)) (j : ℕ) (o : Option T) → j < length slots → (i : ℕ)
    → kept (slice_set slots j o) i ≡ cond (j == i) o (kept slots i)
kept-set {T} slots j o h i = go (j == i) refl
  where
    go : (b : Bool) → (j == i) ≡ b → kept (slice_set slots j o) i ≡ cond b o (kept slots i)
    go true e = ap (λ (k : ℕ). kept (slice_set slots j o) k) (sym (eqb-true j i e)) ∙ kept-same slots j o h
    go false e = kept-other slots i j o (eqb-false j i e)

-- none is kept of those below
pub none-more : {T : Type 0} (slots : List (Option T)) (i : ℕ) → i < length slots
    → ((k : ℕ) → k < i → kept slots k ≡ None) → (k : ℕ) → k < i + 1 → kept (slice_set slots i None) k ≡ None
none-more slots i h none k low = kept-set slots i None h k ∙ go (i == k) refl
  where
    go : (b : Bool) → (i == k) ≡ b → cond b None (kept slots k) ≡ None
    go true e = refl
    go false e = let apart : i ≡ k → ⊥ = eqb-false i k e in none k (omega arith)

pub none-left : {T : Type 0} (slots : List (Option T)) → ((k : ℕ) → k < length slots → kept slots k ≡ None)
    → (k : ℕ) → kept slots k ≡ None
none-left [] none k = refl
none-left (slot ∷ more) none zero = none zero (omega arith)
none-left (slot ∷ more) none (suc k) = none-left more (λ j h. none (suc j) (omega arith)) k
