-- Items in stretches.
use Rattle.std.proofs.Common.{◌≡◌, ℕ, suc, ◌+◌, Bool, true, cond, List, [], ◌∷◌, length, arith, refl}
use Rattle.std.specs.Prelude.{nat_le}
use Rattle.std.specs.List.{count_by, sum_by, list_all}
use Rattle.std.proofs.lemmas.Bool.{false≢true, le-leb}
use Rattle.std.proofs.lemmas.List.Sums.{sum_by-cons}
use Rattle.count_spec.specs.Stretches.{placed, stretches, with_stale, stale_among}
use Rattle.count_spec.specs.declared.stretch_place.StretchPlace.{StretchPlace}
use Rattle.count_spec.specs.declared.stretch_place.StretchPlace.TheVariants.{Current, Next, Stale}
use Rattle.count_spec.proofs.Counts.{count_by-cons}

-- each item that passes the test is counted in one stretch, or among the stale
placed-counts : {X : Type 0} (p : X → Bool) (where_ : StretchPlace) (x : X) (bs : List (List X)) (stale : List X)
    → sum_by (count_by p) (placed where_ x bs) + count_by p (with_stale where_ x stale)
    ≡ cond (p x) 1 0 + (sum_by (count_by p) bs + count_by p stale)
placed-counts p Current x [] stale =
    let a = sum_by-cons (count_by p) (x ∷ []) [] in
    let b = count_by-cons p x [] in
    omega (arith, a, b)
placed-counts p Current x (boot ∷ closed) stale =
    let a = sum_by-cons (count_by p) (x ∷ boot) closed in
    let b = sum_by-cons (count_by p) boot closed in
    let c = count_by-cons p x boot in
    omega (arith, a, b, c)
placed-counts p Next x bs stale =
    let a = sum_by-cons (count_by p) (x ∷ []) bs in
    let b = count_by-cons p x [] in
    omega (arith, a, b)
placed-counts p Stale x bs stale =
    let a = count_by-cons p x stale in
    omega (arith, a)

pub stretches-count : {X : Type 0} (place : List (List X) → X → StretchPlace) (p : X → Bool) (items : List X)
    → sum_by (count_by p) (stretches place items) + count_by p (stale_among place items) ≡ count_by p items
stretches-count place p [] = refl
stretches-count place p (x ∷ before) =
    let here = placed-counts p (place (stretches place before) x) x (stretches place before)
    (stale_among place before) in
    let later = stretches-count place p before in
    let whole = count_by-cons p x before in
    omega (arith, here, later, whole)

-- no stretch is empty
one_at_least : (n : ℕ) → nat_le 1 (suc n) ≡ true
one_at_least n = le-leb 1 (suc n) (omega arith)

placed-some : {X : Type 0} (where_ : StretchPlace) (x : X) (bs : List (List X))
    → list_all (λ (b : List X). nat_le 1 (length b)) bs ≡ true
    → list_all (λ (b : List X). nat_le 1 (length b)) (placed where_ x bs) ≡ true
placed-some Current x [] h = refl
placed-some Current x ([] ∷ closed) h = absurd (false≢true h)
placed-some Current x ((y ∷ boot) ∷ closed) h =
    rw (one_at_least (suc (length boot))) (rw (one_at_least (length boot)) at h)
placed-some Next x bs h = h
placed-some Stale x bs h = h

pub stretches-some : {X : Type 0} (place : List (List X) → X → StretchPlace) (items : List X)
    → list_all (λ (b : List X). nat_le 1 (length b)) (stretches place items) ≡ true
stretches-some place [] = refl
stretches-some place (x ∷ before) =
    placed-some (place (stretches place before) x) x (stretches place before) (stretches-some place before)
