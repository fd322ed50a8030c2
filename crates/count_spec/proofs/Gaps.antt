-- What lies between two numbers, and the parts of two numbers far apart.
use Rattle.std.proofs.Common.{◌≡◌, ℕ, zero, suc, ◌+◌, ◌-◌, ◌≤◌, inl, inr, Bool, true, false, not, ◌&&◌, ◌||◌, [], ◌∷◌, ℤ, pos, ◌+ℤ◌, ◌-ℤ◌, ◌≤ℤ◌, ◌<ℤ◌, arith, refl, ap, ◌∙◌, sym}
use Rattle.std.specs.Prelude.{int_lt, int_le, unsigned_abs}
use Rattle.std.specs.Ordering.{int_eq}
use Rattle.std.specs.List.{count_by}
use Rattle.std.proofs.lemmas.Int.{ints}
use Rattle.std.proofs.lemmas.Bool.{cases_Bool, or_cases, false≢true}
use Rattle.count_spec.specs.Windows.{has, AreDistinct}
use Rattle.count_spec.specs.Parts.{parts_between, numbers_from, between}
use Rattle.count_spec.proofs.Integers.{int_lt-false, int_eq-other, int_eq-is, int_eq-is_not}
use Rattle.count_spec.proofs.Sets.{has-head, has-tail}
use Rattle.count_spec.proofs.Conservation.{parts_between-add_up}
use Rattle.count_spec.proofs.Between.{count_by-on, count_by-after}

-- a stretch has exactly the numbers from its first up to and without its end
has-numbers_from : (from : ℤ) (n : ℕ) (k : ℤ)
    → has (numbers_from from n) k ≡ (int_le from k && int_lt k (from +ℤ pos n))
has-numbers_from from zero k = sym (none (int_le from k) refl)
  where
    none : (b : Bool) → int_le from k ≡ b → (b && int_lt k (from +ℤ pos 0)) ≡ false
    none false e = refl
    none true e = int_lt-false k (from +ℤ pos 0) (omega (arith, ints))
has-numbers_from from (suc n) k =
    ap (λ (b : Bool). int_eq from k || b) (has-numbers_from (from +ℤ pos 1) n k)
    ∙ cases (int_eq from k) (int_le from k) (int_lt k (from +ℤ pos (suc n)))
    (int_le (from +ℤ pos 1) k) (int_lt k ((from +ℤ pos 1) +ℤ pos n)) refl refl refl refl refl
  where
    cases : (a b c d e : Bool) → int_eq from k ≡ a → int_le from k ≡ b → int_lt k (from +ℤ pos (suc n)) ≡ c
        → int_le (from +ℤ pos 1) k ≡ d → int_lt k ((from +ℤ pos 1) +ℤ pos n) ≡ e → (a || (d && e)) ≡ (b && c)
    cases true true true d e p q r s t = refl
    cases true true false d e p q r s t =
        let same : from ≡ k = int_eq-is from k p in absurd (omega (arith, ints))
    cases true false c d e p q r s t =
        let same : from ≡ k = int_eq-is from k p in absurd (omega (arith, ints))
    cases false false c false e p q r s t = refl
    cases false false c true e p q r s t = absurd (omega (arith, ints))
    cases false true true true true p q r s t = refl
    cases false true false true false p q r s t = refl
    cases false true false false e p q r s t = refl
    cases false true true true false p q r s t = absurd (omega (arith, ints))
    cases false true false true true p q r s t = absurd (omega (arith, ints))
    cases false true true false e p q r s t =
        absurd (int_eq-is_not from k p (omega (arith, ints)))

-- exactly the numbers strictly between
pub has-between : (low high n : ℤ) → low ≤ℤ high → has (between low high) n ≡ (int_lt low n && int_lt n high)
unfolding between
has-between low high n order =
    has-numbers_from (low +ℤ pos 1) (unsigned_abs (high -ℤ low) - 1) n
    ∙ cases (int_le (low +ℤ pos 1) n) (int_lt n ((low +ℤ pos 1) +ℤ pos (unsigned_abs (high -ℤ low) - 1)))
    (int_lt low n) (int_lt n high) refl refl refl refl
  where
    cases : (a b c d : Bool) → int_le (low +ℤ pos 1) n ≡ a
        → int_lt n ((low +ℤ pos 1) +ℤ pos (unsigned_abs (high -ℤ low) - 1)) ≡ b
        → int_lt low n ≡ c → int_lt n high ≡ d → (a && b) ≡ (c && d)
    cases true true true true p q r s = refl
    cases true true true false p q r s = absurd (omega (arith, ints))
    cases true true false d p q r s = absurd (omega (arith, ints))
    cases true false true true p q r s = absurd (omega (arith, ints))
    cases true false true false p q r s = refl
    cases true false false d p q r s = refl
    cases false b true d p q r s = absurd (omega (arith, ints))
    cases false b false d p q r s = refl

-- each once
distinct-numbers_from : (from : ℤ) (n : ℕ) → AreDistinct (numbers_from from n)
distinct-numbers_from from zero = tt
distinct-numbers_from from (suc n) = (above, distinct-numbers_from (from +ℤ pos 1) n)
  where
    above : has (numbers_from (from +ℤ pos 1) n) from ≡ false
    above = has-numbers_from (from +ℤ pos 1) n from
        ∙ ap (λ (b : Bool). b && int_lt from ((from +ℤ pos 1) +ℤ pos n)) (int_le-low from)
      where
        int_le-low : (k : ℤ) → int_le (k +ℤ pos 1) k ≡ false
        int_le-low k =
            elim (cases_Bool (int_le (k +ℤ pos 1) k)) [ inl e ↦ absurd (omega (arith, ints)) | inr e ↦ e ]

pub distinct-between : (low high : ℤ) → AreDistinct (between low high)
unfolding between
distinct-between low high = distinct-numbers_from (low +ℤ pos 1) (unsigned_abs (high -ℤ low) - 1)

-- two numbers as far apart as the width or farther: the width less one is pending
pub pending-two : (width : ℕ) (low high : ℤ) → (low +ℤ pos width) ≤ℤ high → 1 ≤ width
    → count_by (λ n. not (has (high ∷ low ∷ []) n) && int_lt (high -ℤ pos width) n) (between low high) + 1
    ≡ width
unfolding between
pending-two width low high far one =
    let n : ℕ = unsigned_abs (high -ℤ low) - 1 in
    let bound : ℤ = high -ℤ pos width in
    let e = count_by-on (λ (k : ℤ). not (has (high ∷ low ∷ []) k) && int_lt bound k) (int_lt bound)
    (low +ℤ pos 1) n
    (λ k a b. free k a (omega (arith, ints))) in
    let c = count_by-after bound (low +ℤ pos 1) n (n + 1 - width) (omega (arith, ints))
    (omega (arith, ints)) in
    omega (arith, ints, e, c)
  where
    free : (k : ℤ) → (low +ℤ pos 1) ≤ℤ k → k <ℤ high
        → (not (has (high ∷ low ∷ []) k) && int_lt (high -ℤ pos width) k) ≡ int_lt (high -ℤ pos width) k
    free k a b =
        rw (int_eq-other high k (λ e. omega (arith, ints)), int_eq-other low k (λ e. omega (arith, ints)))
        refl

-- of two numbers as far apart as the width or farther the others between them are lost
pub lost-two : (width : ℕ) (low high : ℤ) → (low +ℤ pos width) ≤ℤ high → 1 ≤ width
    → count_by (λ n. not (has (high ∷ low ∷ []) n) && int_le n (high -ℤ pos width)) (between low high) + width
    ≡ unsigned_abs (high -ℤ low)
lost-two width low high far one =
    let sum = parts_between-add_up width (high ∷ low ∷ []) low high (omega (arith, ints))
    (rw (int_eq-other low high (λ e. omega (arith, ints))) refl, (refl, tt))
    (has-tail high (low ∷ []) low (has-head low [])) (has-head high (low ∷ [])) inside in
    let some = pending-two width low high far one in
    omega (arith, sum, some)
  where
    inside : (k : ℤ) → has (high ∷ low ∷ []) k ≡ true → (low ≤ℤ k) × (k ≤ℤ high)
    inside k e = elim (or_cases (int_eq high k) (int_eq low k || false) e) [
      | inl same ↦ let q : high ≡ k = int_eq-is high k same in (omega (arith, ints), omega (arith, ints))
      | inr other ↦ elim (or_cases (int_eq low k) false other) [
        | inl same ↦ let q : low ≡ k = int_eq-is low k same in (omega (arith, ints), omega (arith, ints))
        | inr none ↦ absurd (false≢true none)
      ]
    ]

-- the parts of two such numbers
pub parts-two : (width : ℕ) (low high : ℤ) → (low +ℤ pos width) ≤ℤ high → 1 ≤ width
    → parts_between width (high ∷ low ∷ []) low high
    ≡ record {
      issued = unsigned_abs (high -ℤ low) + 1;
      received = 2;
      pending = width - 1;
      lost = unsigned_abs (high -ℤ low) - width;
    }
parts-two width low high far one =
    let some = pending-two width low high far one in
    let rest = lost-two width low high far one in
    rw (of_sum _ 1 width some, of_sum _ width (unsigned_abs (high -ℤ low)) rest) refl
  where
    of_sum : (a b c : ℕ) → a + b ≡ c → a ≡ c - b
    of_sum a b c e = omega arith
