-- The greatest and the least of a set of numbers, and what is in it.
use Rattle.std.proofs.Common.{◌≡◌, ◌≢◌, inl, inr, Bool, true, false, ◌||◌, List, [], ◌∷◌, ℤ, ◌≤ℤ◌, arith, refl, ap}
use Rattle.std.specs.Prelude.{int_lt}
use Rattle.std.specs.Ordering.{int_eq}
use Rattle.std.proofs.lemmas.Int.{ints, clamps}
use Rattle.std.proofs.lemmas.Bool.{cases_Bool, or_cases, false≢true}
use Rattle.count_spec.specs.Windows.{greatest, least, has}
use Rattle.count_spec.proofs.Integers.{int_eq-same, int_eq-is}

pub or-right : (a b : Bool) → b ≡ true → (a || b) ≡ true
or-right true b e = refl
or-right false b e = e

pub has-head : (n : ℤ) (more : List ℤ) → has (n ∷ more) n ≡ true
has-head n more = rw (int_eq-same n) refl

pub has-tail : (n : ℤ) (more : List ℤ) (k : ℤ) → has more k ≡ true → has (n ∷ more) k ≡ true
has-tail n more k e = or-right (int_eq n k) (has more k) e

pub greatest-bounds : (n m : ℤ) (more : List ℤ)
    → (n ≤ℤ greatest (n ∷ m ∷ more)) × (greatest (m ∷ more) ≤ℤ greatest (n ∷ m ∷ more))
greatest-bounds n m more = (omega (arith, ints, clamps), omega (arith, ints, clamps))

pub least-bounds : (n m : ℤ) (more : List ℤ)
    → (least (n ∷ m ∷ more) ≤ℤ n) × (least (n ∷ m ∷ more) ≤ℤ least (m ∷ more))
least-bounds n m more = (omega (arith, ints, clamps), omega (arith, ints, clamps))

-- what is in a set is at most its greatest number
pub has-greatest-bound : (n : ℤ) (more : List ℤ) (k : ℤ) → has (n ∷ more) k ≡ true → k ≤ℤ greatest (n ∷ more)
has-greatest-bound n [] k e =
    elim (or_cases (int_eq n k) false e) [
      | inl same ↦ let q : n ≡ k = int_eq-is n k same in omega (arith, ints)
      | inr none ↦ absurd (false≢true none)
    ]
has-greatest-bound n (m ∷ more) k e =
    let b = greatest-bounds n m more in
    elim (or_cases (int_eq n k) (has (m ∷ more) k) e) [
      | inl same ↦ let q : n ≡ k = int_eq-is n k same in let u : n ≤ℤ greatest (n ∷ m ∷ more) = b.0 in
          omega (arith, ints, q, u)
      | inr later ↦
          let h : k ≤ℤ greatest (m ∷ more) = has-greatest-bound m more k later in
          let u : greatest (m ∷ more) ≤ℤ greatest (n ∷ m ∷ more) = b.1 in
          omega (arith, ints, h, u)
    ]

-- what is in a set is at least its least number
pub has-least-bound : (n : ℤ) (more : List ℤ) (k : ℤ) → has (n ∷ more) k ≡ true → least (n ∷ more) ≤ℤ k
has-least-bound n [] k e =
    elim (or_cases (int_eq n k) false e) [
      | inl same ↦ let q : n ≡ k = int_eq-is n k same in omega (arith, ints)
      | inr none ↦ absurd (false≢true none)
    ]
has-least-bound n (m ∷ more) k e =
    let b = least-bounds n m more in
    elim (or_cases (int_eq n k) (has (m ∷ more) k) e) [
      | inl same ↦ let q : n ≡ k = int_eq-is n k same in let u : least (n ∷ m ∷ more) ≤ℤ n = b.0 in
          omega (arith, ints, q, u)
      | inr later ↦
          let h : least (m ∷ more) ≤ℤ k = has-least-bound m more k later in
          let u : least (n ∷ m ∷ more) ≤ℤ least (m ∷ more) = b.1 in
          omega (arith, ints, h, u)
    ]

-- the greatest number is in the set
pub has-greatest : (n : ℤ) (more : List ℤ) → has (n ∷ more) (greatest (n ∷ more)) ≡ true
has-greatest n [] = has-head n []
has-greatest n (m ∷ more) =
    elim (cases_Bool (int_lt (greatest (m ∷ more)) n)) [
      | inl e ↦ rw e (has-head n (m ∷ more))
      | inr e ↦ rw e (has-tail n (m ∷ more) (greatest (m ∷ more)) (has-greatest m more))
    ]

-- the least number is in the set
pub has-least : (n : ℤ) (more : List ℤ) → has (n ∷ more) (least (n ∷ more)) ≡ true
has-least n [] = has-head n []
has-least n (m ∷ more) =
    elim (cases_Bool (int_lt (least (m ∷ more)) n)) [
      | inl e ↦ rw e (has-tail n (m ∷ more) (least (m ∷ more)) (has-least m more))
      | inr e ↦ rw e (has-head n (m ∷ more))
    ]

pub least-at_most-greatest : (n : ℤ) (more : List ℤ) → least (n ∷ more) ≤ℤ greatest (n ∷ more)
least-at_most-greatest n more = has-least-bound n more (greatest (n ∷ more)) (has-greatest n more)

-- a number in the set isn't one outside it
pub has-differs : (set : List ℤ) (n m : ℤ) → has set n ≡ false → has set m ≡ true → n ≢ m
has-differs set n m out member same = let e : has set n ≡ has set m = ap (has set) same in cc
