-- The first place of a count.
use Rattle.std.proofs.Common.{◌≡◌, ℕ, zero, suc, ◌+◌, ◌<◌, Bool, true, false, not, cond, List, [], ◌∷◌, length, take, get_or, refl, sym, ap, arith, nat_eq}
use Rattle.std.proofs.lemmas.Bool.Decides.{nat_tests}
use Rattle.std.specs.List.{position_or_len}

pub same_count : (a b : ℕ) → a ≡ b → nat_eq a b ≡ true
same_count a b is = grind (arith, nat_tests)

-- the place behind a first element that fails
rest_place : (b : Bool) (m n : ℕ) → cond (not b) (1 + m) 0 ≡ suc n → m ≡ n
rest_place true m n is = absurd (omega (arith, is))
rest_place false m n is = omega (arith, is)

first_fails : (b : Bool) (m n : ℕ) → cond (not b) (1 + m) 0 ≡ suc n → b ≡ false
first_fails true m n is = absurd (omega (arith, is))
first_fails false m n is = refl

passed : (b : Bool) (n m : ℕ) → b ≡ false → n ≡ m → suc n ≡ cond (not b) (1 + m) 0
passed true n m is same = cc
passed false n m is same = omega (arith, same)

-- a place before which none passes, and which passes
pub found_here : (test : ℕ → Bool) (xs : List ℕ) (k d : ℕ) → k < length xs → position_or_len test (take k xs) ≡ k → test (get_or xs k d) ≡ true
    → k ≡ position_or_len test xs
found_here test [] k d lt none is = absurd (omega (arith, lt))
found_here test (x ∷ xs) zero d lt none is = sym (ap (λ b. cond (not b) (1 + position_or_len test xs) 0) is)
found_here test (x ∷ xs) (suc k) d lt none is =
    let behind = position_or_len test (take k xs) in
    passed (test x) k (position_or_len test xs) (first_fails (test x) behind k none)
    (found_here test xs k d (omega (arith, lt)) (rest_place (test x) behind k none) is)
