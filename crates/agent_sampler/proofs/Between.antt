-- Which packets are marked, by the sums of the skip numbers before them and up to the next mark.
use Rattle.std.proofs.Common.{◌≡◌, ℕ, zero, suc, ◌+◌, ◌≤◌, ◌<◌, inl, inr, true, false, List, arith, ap, sym}
use Rattle.std.proofs.lemmas.Bool.{cases_Bool, cases_lt}
use Rattle.agent_spec.specs.Marks.{sum_of_skips, IsMarked, is_marked}
use Rattle.agent_spec.proofs.Sums.{marked-is}
use Rattle.agent_sampler.specs.Skips.{AreSkips}

-- the sum never falls
sum-rises : (skips : List ℕ) (a b : ℕ) → a ≤ b → sum_of_skips skips a ≤ sum_of_skips skips b
sum-rises skips a zero h =
    let e : a ≡ 0 = omega (arith, h) in
    let same : sum_of_skips skips a ≡ sum_of_skips skips 0 = ap (sum_of_skips skips) e in omega (arith, same)
sum-rises skips a (suc b) h = elim (cases_lt b a) [
  | inl above ↦
      let e : a ≡ suc b = omega (arith, above, h) in
      let same : sum_of_skips skips a ≡ sum_of_skips skips (suc b) = ap (sum_of_skips skips) e in
      omega (arith, same)
  | inr below ↦ omega (arith, sum-rises skips a b below)
]

-- none is marked between two sums, one next to the other
pub not-between : (skips : List ℕ) (packets m : ℕ) → AreSkips skips → sum_of_skips skips m ≤ packets
    → 1 + packets < sum_of_skips skips (suc m) → is_marked skips (1 + packets) ≡ false
not-between skips packets m are low high = elim (cases_Bool (is_marked skips (1 + packets))) [
  | inl e ↦ absurd (no ((marked-is skips (1 + packets) are.least are.some).0 e))
  | inr e ↦ e
]
  where
    no : IsMarked skips (1 + packets) → ⊥
    no k = elim (cases_lt m k.count) [
      | inl above ↦ omega (arith, k.sum_is, high, sum-rises skips (suc m) k.count above)
      | inr below ↦ omega (arith, k.sum_is, low, sum-rises skips k.count m below)
    ]

-- the one at a sum is marked
pub at-sum : (skips : List ℕ) (packets m : ℕ) → AreSkips skips → 1 + packets ≡ sum_of_skips skips (suc m)
    → is_marked skips (1 + packets) ≡ true
at-sum skips packets m are e = (marked-is skips (1 + packets) are.least are.some).1
    (record { count = suc m; some = omega arith; sum_is = sym e })
