-- The sums of skip numbers, and the test for marked packets.
use Rattle.std.proofs.Common.{◌≡◌, ℕ, zero, suc, ◌%◌, ◌≤◌, inl, inr, Bool, true, false, List, length, arith, refl, ap, sym, ◌∙◌}
use Rattle.std.specs.Prelude.{◌==◌, ◌||◌, ◌↔◌}
use Rattle.std.proofs.Math.Nat.{mod-lt}
use Rattle.std.specs.List.{AllByRecursion}
use Rattle.std.proofs.lemmas.Bool.{cases_lt, eqb-true, eq-eqb, true≢false}
use Rattle.agent_spec.specs.Marks.{skip_number, sum_of_skips, IsMarked, is_sum_within, is_marked}
use Rattle.agent_spec.proofs.Lists.{all-at}

module _ (skips : List ℕ) (all : AllByRecursion (λ (n : ℕ). 1 ≤ n) skips) (some : 1 ≤ length skips) where
  pub skip-some : (k : ℕ) → 1 ≤ skip_number skips k
  skip-some k = all-at skips (k % length skips) all (mod-lt k some)

  pub sum-from : (m : ℕ) → m ≤ sum_of_skips skips m
  sum-from zero = omega arith
  sum-from (suc m) = omega (arith, sum-from m, skip-some m)

or-yes : (a b : Bool) → b ≡ true → (a || b) ≡ true
or-yes true b e = refl
or-yes false b e = e

or-first : (a b : Bool) → a ≡ true → (a || b) ≡ true
or-first a b e = rw e refl

-- the sum of this many is found
found : (skips : List ℕ) (j m count : ℕ) → 1 ≤ count → count ≤ m → sum_of_skips skips count ≡ j
    → is_sum_within skips j m ≡ true
found skips j zero count some within is = absurd (omega (arith, some, within))
found skips j (suc m) count some within is = elim (cases_lt m count) [
  | inl above ↦
      let last : count ≡ suc m = omega (arith, above, within) in
      or-first (sum_of_skips skips (suc m) == j) (is_sum_within skips j m)
      (eq-eqb (sum_of_skips skips (suc m)) j (ap (sum_of_skips skips) (sym last) ∙ is))
  | inr below ↦
      or-yes (sum_of_skips skips (suc m) == j) (is_sum_within skips j m) (found skips j m count some below is)
]

-- what is found is a sum
sums : (skips : List ℕ) (j m : ℕ) → is_sum_within skips j m ≡ true → IsMarked skips j
sums skips j zero e = absurd (true≢false (sym e))
sums skips j (suc m) e = go (sum_of_skips skips (suc m) == j) refl e (sums skips j m)
  where
    go : (b : Bool) → (sum_of_skips skips (suc m) == j) ≡ b → (b || is_sum_within skips j m) ≡ true
        → (is_sum_within skips j m ≡ true → IsMarked skips j) → IsMarked skips j
    go true h e later = record { count = suc m; some = omega arith; sum_is = eqb-true _ _ h }
    go false h e later = later e

pub marked-is : (skips : List ℕ) (j : ℕ) → AllByRecursion (λ (n : ℕ). 1 ≤ n) skips → 1 ≤ length skips
    → (is_marked skips j ≡ true) ↔ IsMarked skips j
marked-is skips j all some = (
  sums skips j j,
  λ m. found skips j j m.count m.some (omega (arith, sum-from skips all some m.count, m.sum_is)) m.sum_is,
)
