-- How many numbers of a list pass a test.
use Rattle.std.proofs.Common.{◌≡◌, ℕ, ◌+◌, ◌≤◌, Bool, true, false, cond, not, ◌&&◌, List, [], ◌∷◌, arith, refl, ap, ◌∙◌}
use Rattle.std.specs.List.{count_by}
use Rattle.std.proofs.lemmas.List.Sums.{sum_by-cons}

pub count_by-cons : {X : Type 0} (p : X → Bool) (x : X) (xs : List X)
    → count_by p (x ∷ xs) ≡ cond (p x) 1 0 + count_by p xs
count_by-cons p x xs = sum_by-cons (λ y. cond (p y) 1 0) x xs

pub count_by-yes : {X : Type 0} (p : X → Bool) (x : X) (xs : List X) → p x ≡ true
    → count_by p (x ∷ xs) ≡ 1 + count_by p xs
count_by-yes p x xs e = count_by-cons p x xs ∙ ap (λ (b : Bool). cond b 1 0 + count_by p xs) e

pub count_by-no : {X : Type 0} (p : X → Bool) (x : X) (xs : List X) → p x ≡ false
    → count_by p (x ∷ xs) ≡ count_by p xs
count_by-no p x xs e =
    count_by-cons p x xs ∙ ap (λ (b : Bool). cond b 1 0 + count_by p xs) e ∙ zero_and (count_by p xs)
  where
    zero_and : (n : ℕ) → 0 + n ≡ n
    zero_and n = omega arith

-- those that pass p are those that pass q too and those that do not
pub count_by-split : {X : Type 0} (p q r : X → Bool) → ((x : X) → r x ≡ not (q x)) → (xs : List X)
    → count_by (λ x. p x && q x) xs + count_by (λ x. p x && r x) xs ≡ count_by p xs
count_by-split p q r other [] = refl
count_by-split {X} p q r other (x ∷ xs) =
    let a = count_by-cons (λ (y : X). p y && q y) x xs in
    let b = count_by-cons (λ (y : X). p y && r y) x xs in
    let c = count_by-cons p x xs in
    let later = count_by-split p q r other xs in
    let here = bit (p x) (q x) (r x) (other x) in
    omega (arith, a, b, c, later, here)
  where
    bit : (a b c : Bool) → c ≡ not b → cond (a && b) 1 0 + cond (a && c) 1 0 ≡ cond a 1 0
    bit true true c e = rw e refl
    bit true false c e = rw e refl
    bit false b c e = refl

-- those that pass both are no more than those that pass one
pub count_by-and-bound : {X : Type 0} (p q : X → Bool) (xs : List X)
    → count_by (λ x. p x && q x) xs ≤ count_by q xs
count_by-and-bound p q [] = omega arith
count_by-and-bound {X} p q (x ∷ xs) =
    let a = count_by-cons (λ (y : X). p y && q y) x xs in
    let b = count_by-cons q x xs in
    let later = count_by-and-bound p q xs in
    let here = bit (p x) (q x) in
    omega (arith, a, b, later, here)
  where
    bit : (a b : Bool) → cond (a && b) 1 0 ≤ cond b 1 0
    bit true b = omega arith
    bit false b = omega arith

pub count_by-none : {X : Type 0} (xs : List X) → count_by (λ (x : X). false) xs ≡ 0
count_by-none [] = refl
count_by-none {X} (x ∷ xs) = count_by-no (λ (y : X). false) x xs refl ∙ count_by-none xs
