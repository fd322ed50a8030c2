-- Numbers that never wrap, as integers.
use Rattle.std.proofs.Common.{◌≡◌, ◌∙◌, ◌-◌, ℕ, inl, inr, Bool, true, false, cond, Option, Some, None, List, [], ◌∷◌, map, ℤ, pos, ◌+ℤ◌, refl, sym, ap, arith}
use Rattle.std.specs.Prelude.{◌==◌, nat_lt, int_lt}
use Rattle.std.specs.List.{filter}
use Rattle.std.specs.Int.{int_max}
use Rattle.std.proofs.lemmas.Option.{same_Some}
use Rattle.count_spec.specs.Windows.{greatest}
use Rattle.std.proofs.lemmas.Int.{ints, clamps}
use Rattle.std.proofs.lemmas.Bool.{cases_lt, lt-ltb, le-ltb, eqb-true}
use Rattle.count_spec.proofs.Integers.{int_lt-true, int_lt-false}
use Rattle.trial_premises.specs.ByIndex.{kept}
use Rattle.trial_premises.specs.Newest.{greatest_of, as_int, newer_of, KeepsNewest}

pub less-ahead : (n m : ℕ) → nat_lt (n - m) 2147483648 ≡ int_lt (pos n) (pos m +ℤ pos 2147483648)
less-ahead n m = elim (cases_lt (n - m) 2147483648) [
  | inl low ↦ lt-ltb (n - m) 2147483648 low
      ∙ sym (int_lt-true (pos n) (pos m +ℤ pos 2147483648) (omega (arith, ints)))
  | inr high ↦ le-ltb (n - m) 2147483648 high
      ∙ sym (int_lt-false (pos n) (pos m +ℤ pos 2147483648) (omega (arith, ints)))
]

pub ruleset less_ahead = (less-ahead)

max-is : (m n : ℕ) → pos (cond (nat_lt m n) n m) ≡ int_max (pos n) (pos m)
max-is m n = elim (cases_lt m n) [
  | inl above ↦ ap (λ (b : Bool). pos (cond b n m)) (lt-ltb m n above) ∙ omega (arith, ints, clamps)
  | inr not_above ↦ ap (λ (b : Bool). pos (cond b n m)) (le-ltb m n not_above) ∙ omega (arith, ints, clamps)
]

-- the greatest with one more
pub greatest-more : (o : Option ℕ) (n : ℕ) (ms : List ℤ) → as_int o ≡ greatest_of ms
    → Some (pos (newer_of o n)) ≡ greatest_of (pos n ∷ ms)
greatest-more None n [] e = refl
greatest-more None n (m ∷ more) e = absurd cc
greatest-more (Some m) n [] e = absurd cc
greatest-more (Some m) n (k ∷ more) e =
    let same : pos m ≡ greatest (k ∷ more) = same_Some (pos m) (greatest (k ∷ more)) e in
    ap Some (max-is m n ∙ ap (λ (g : ℤ). int_max (pos n) g) same)

-- the newest of each index with one more
module _ {X : Type 0} (index : X → ℕ) (number : X → ℤ) where
  pub keeps-more : (slots now : List (Option ℕ)) (x : X) (xs : List X) (i n : ℕ) → index x ≡ i → number x ≡ pos n
      → ((j : ℕ) → kept now j ≡ cond (i == j) (Some (newer_of (kept slots i) n)) (kept slots j))
      → KeepsNewest index number slots xs → KeepsNewest index number now (x ∷ xs)
  keeps-more slots now x xs i n at is changed h j =
      ap as_int (changed j) ∙ go (i == j) refl ∙ ap (λ (k : ℕ). greatest_of (map number (with-x (k == j)))) (sym at)
    where
      with-x : Bool → List X
      with-x b = cond b (x ∷ filter (λ (y : X). index y == j) xs) (filter (λ (y : X). index y == j) xs)

      go : (b : Bool) → (i == j) ≡ b
          → as_int (cond b (Some (newer_of (kept slots i) n)) (kept slots j)) ≡ greatest_of (map number (with-x (i == j)))
      go true e =
          let same : i ≡ j = eqb-true i j e in
          let mine : as_int (kept slots i) ≡ greatest_of (map number (filter (λ (y : X). index y == j) xs)) =
          ap (λ (k : ℕ). as_int (kept slots k)) same ∙ h j in
          greatest-more (kept slots i) n (map number (filter (λ (y : X). index y == j) xs)) mine
          ∙ ap (λ (k : ℤ). greatest_of (k ∷ map number (filter (λ (y : X). index y == j) xs))) (sym is)
          ∙ ap (λ (b : Bool). greatest_of (map number (with-x b))) (sym e)
      go false e = h j ∙ ap (λ (b : Bool). greatest_of (map number (with-x b))) (sym e)
