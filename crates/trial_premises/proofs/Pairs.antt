-- Two lists side by side: another item at one place, where what the others are of is told apart.
use Rattle.std.proofs.Common.{◌≡◌, ◌∙◌, ◌<◌, ℕ, zero, suc, inl, inr, Bool, true, false, ◌||◌, Some, List, [], ◌∷◌, ◌++◌, length, map, refl, sym, subst, arith}
use Rattle.std.specs.Prelude.{slice_get, slice_set}
use Rattle.std.specs.List.{AllByRecursion}
use Rattle.std.proofs.lemmas.Bool.{cases_Bool, false≢true}
use Rattle.std.proofs.lemmas.Option.{same_Some}
use Rattle.books_spec.specs.Listing.{among, AreDistinct}
use Rattle.books_spec.proofs.Listings.{IsSame}
use Rattle.trial_premises.specs.Pairs.{Each}

or-false : (a b : Bool) → (a || b) ≡ false → (a ≡ false) × (b ≡ false)
or-false true b e = absurd (false≢true (sym e))
or-false false b e = (refl, e)

-- a place in the first list is one in the second
pub each-within : {A B : Type 0} (P : A → B → Type 0) (xs : List A) (ys : List B) (p : ℕ) (x : A) → slice_get xs p ≡ Some x
    → Each P xs ys → p < length ys
each-within P [] ys p x at e = absurd cc
each-within P (a ∷ more) [] p x at e = absurd e
each-within P (a ∷ more) (b ∷ rest) zero x at e = omega arith
each-within P (a ∷ more) (b ∷ rest) (suc p) x at e =
    let within : p < length rest = each-within P more rest p x at e.1 in omega arith

pub each-all : {A B : Type 0} (P : A → B → Type 0) (Q : B → Type 0) (xs : List A) (ys : List B)
    → ((x : A) (y : B) → Q y → P x y) → length xs ≡ length ys → AllByRecursion Q ys → Each P xs ys
each-all P Q [] [] to long h = tt
each-all P Q [] (y ∷ rest) to long h = absurd (omega (arith, long))
each-all P Q (x ∷ more) [] to long h = absurd (omega (arith, long))
each-all P Q (x ∷ more) (y ∷ rest) to long h = (to x y h.0, each-all P Q more rest to (omega (arith, long)) h.1)

pub each-like : {A B : Type 0} (P Q : A → B → Type 0) (xs : List A) (ys : List B)
    → ((x : A) (y : B) → P x y → Q x y) → Each P xs ys → Each Q xs ys
each-like P Q [] [] to e = tt
each-like P Q [] (y ∷ rest) to e = absurd e
each-like P Q (x ∷ more) [] to e = absurd e
each-like P Q (x ∷ more) (y ∷ rest) to e = (to x y e.0, each-like P Q more rest to e.1)

pub all-push : {B : Type 0} (Q : B → Type 0) (ys : List B) (y : B) → AllByRecursion Q ys → Q y
    → AllByRecursion Q (ys ++ y ∷ [])
all-push Q [] y h q = (q, tt)
all-push Q (z ∷ more) y h q = (h.0, all-push Q more y h.1 q)

turned : {K : Type 0} (same : K → K → Bool) → IsSame same → (a b : K) → same a b ≡ false → same b a ≡ false
turned same laws a b e = elim (cases_Bool (same b a)) [
  | inl there ↦
      let q : b ≡ a = laws.to b a there in
      absurd (false≢true (sym e ∙ subst (λ k. same k b ≡ true) q (laws.self b)))
  | inr none ↦ none
]

at-apart : {A K : Type 0} (key : A → K) (same : K → K → Bool) (k : K) (xs : List A) (p : ℕ) (x : A)
    → among same (map key xs) k ≡ false → slice_get xs p ≡ Some x → same k (key x) ≡ false
at-apart key same k [] p x none at = absurd cc
at-apart key same k (a ∷ more) zero x none at =
    let q : a ≡ x = same_Some a x at in
    subst (λ y. same k (key y) ≡ false) q (or-false (same k (key a)) (among same (map key more) k) none).0
at-apart key same k (a ∷ more) (suc p) x none at =
    at-apart key same k more p x (or-false (same k (key a)) (among same (map key more) k) none).1 at

module _ {A B K : Type 0} (key : A → K) (same : K → K → Bool) (laws : IsSame same) where
  each-others : (P Q : A → B → Type 0) (k : K) (xs : List A) (ys : List B) → among same (map key xs) k ≡ false
      → ((x : A) (y : B) → same (key x) k ≡ false → P x y → Q x y) → Each P xs ys → Each Q xs ys
  each-others P Q k [] [] none to e = tt
  each-others P Q k [] (y ∷ rest) none to e = absurd e
  each-others P Q k (x ∷ more) [] none to e = absurd e
  each-others P Q k (x ∷ more) (y ∷ rest) none to e =
      let parts = or-false (same k (key x)) (among same (map key more) k) none in
      (to x y (turned same laws k (key x) parts.0) e.0, each-others P Q k more rest parts.1 to e.1)

  pub each-set : (P Q : A → B → Type 0) (xs : List A) (ys : List B) (p : ℕ) (x : A) (new : B)
      → AreDistinct same (map key xs) → slice_get xs p ≡ Some x
      → ((y : B) → slice_get ys p ≡ Some y → P x y → Q x new)
      → ((z : A) (y : B) → same (key z) (key x) ≡ false → P z y → Q z y) → Each P xs ys → Each Q xs (slice_set ys p new)
  each-set P Q [] ys p x new apart at here to e = absurd cc
  each-set P Q (a ∷ more) [] p x new apart at here to e = absurd e
  each-set P Q (a ∷ more) (b ∷ rest) zero x new apart at here to e =
      let q : a ≡ x = same_Some a x at in (
        subst (λ (y : A). Q y new) (sym q) (here b refl (subst (λ (y : A). P y b) q e.0)),
        each-others P Q (key x) more rest (subst (λ (y : A). among same (map key more) (key y) ≡ false) q apart.0) to e.1,
      )
  each-set P Q (a ∷ more) (b ∷ rest) (suc p) x new apart at here to e = (
    to a b (at-apart key same (key a) more p x apart.0 at) e.0,
    each-set P Q more rest p x new apart.1 at here to e.1,
  )

pub each-push : {A B : Type 0} (P : A → B → Type 0) (xs : List A) (ys : List B) (x : A) (y : B) → Each P xs ys → P x y
    → Each P (xs ++ x ∷ []) (ys ++ y ∷ [])
each-push P [] [] x y e p = (p, tt)
each-push P [] (b ∷ rest) x y e p = absurd e
each-push P (a ∷ more) [] x y e p = absurd e
each-push P (a ∷ more) (b ∷ rest) x y e p = (e.0, each-push P more rest x y e.1 p)

pub each-through : {A B C : Type 0} (P : A → B → Type 0) (Q : B → C → Type 0) (R : A → C → Type 0) (xs : List A)
    (ys : List B) (zs : List C) → ((x : A) (y : B) (z : C) → P x y → Q y z → R x z) → Each P xs ys → Each Q ys zs
    → Each R xs zs
each-through P Q R [] [] [] to e f = tt
each-through P Q R [] [] (z ∷ rest) to e f = absurd f
each-through P Q R [] (y ∷ ys) zs to e f = absurd e
each-through P Q R (x ∷ xs) [] zs to e f = absurd e
each-through P Q R (x ∷ xs) (y ∷ ys) [] to e f = absurd f
each-through P Q R (x ∷ xs) (y ∷ ys) (z ∷ zs) to e f = (to x y z e.0 f.0, each-through P Q R xs ys zs to e.1 f.1)
