-- Counting over a stretch of numbers.
use Rattle.std.proofs.Common.{◌≡◌, ◌≢◌, ℕ, zero, suc, ◌+◌, ◌-◌, ◌≤◌, inl, inr, Bool, true, false, cond, not, ◌||◌, List, [], ◌∷◌, length, ℤ, pos, ◌+ℤ◌, ◌≤ℤ◌, ◌<ℤ◌, arith, refl, ap, ◌∙◌, sym}
use Rattle.std.specs.Prelude.{int_lt}
use Rattle.std.specs.Ordering.{int_eq}
use Rattle.std.specs.List.{count_by}
use Rattle.std.proofs.lemmas.Int.{ints}
use Rattle.std.proofs.lemmas.Bool.{cases_Bool}
use Rattle.count_spec.specs.Windows.{has, AreDistinct}
use Rattle.count_spec.specs.Parts.{numbers_from}
use Rattle.count_spec.proofs.Integers.{int_lt-true, int_lt-false, int_eq-is, int_eq-is_not, int_eq-other}
use Rattle.count_spec.proofs.Counts.{count_by-cons, count_by-yes, count_by-no}
use Rattle.count_spec.proofs.Sets.{has-head, has-tail}

-- tests that agree on a stretch count alike there
pub count_by-on : (p q : ℤ → Bool) (from : ℤ) (n : ℕ)
    → ((k : ℤ) → from ≤ℤ k → k <ℤ (from +ℤ pos n) → p k ≡ q k)
    → count_by p (numbers_from from n) ≡ count_by q (numbers_from from n)
count_by-on p q from zero agree = refl
count_by-on p q from (suc n) agree =
    let here : p from ≡ q from = agree from (omega (arith, ints)) (omega (arith, ints)) in
    let later = count_by-on p q (from +ℤ pos 1) n
    (λ k a b. agree k (omega (arith, ints)) (omega (arith, ints))) in
    let more : List ℤ = numbers_from (from +ℤ pos 1) n in
    count_by-cons p from more ∙ both (p from) (q from) (count_by p more) (count_by q more) here later
    ∙ sym (count_by-cons q from more)
  where
    both : (a b : Bool) (m n : ℕ) → a ≡ b → m ≡ n → cond a 1 0 + m ≡ cond b 1 0 + n
    both a b m n e f = rw (e, f) refl

-- all numbers of a stretch above the bound
pub count_by-above : (bound from : ℤ) (n : ℕ) → bound <ℤ from
    → count_by (int_lt bound) (numbers_from from n) ≡ n
count_by-above bound from zero h = refl
count_by-above bound from (suc n) h =
    let later = count_by-above bound (from +ℤ pos 1) n (omega (arith, ints)) in
    let here = count_by-yes (int_lt bound) from (numbers_from (from +ℤ pos 1) n) (int_lt-true bound from h) in
    omega (arith, later, here)

-- the first k numbers of a stretch aren't above the bound
pub count_by-after : (bound from : ℤ) (n k : ℕ) → k ≤ n → (from +ℤ pos k) ≡ (bound +ℤ pos 1)
    → count_by (int_lt bound) (numbers_from from n) + k ≡ n
count_by-after bound from n zero h e =
    let all = count_by-above bound from n (omega (arith, ints)) in omega (arith, all)
count_by-after bound from zero (suc k) h e = absurd (omega arith)
count_by-after bound from (suc n) (suc k) h e =
    let later = count_by-after bound (from +ℤ pos 1) n k (omega arith) (omega (arith, ints)) in
    let here = count_by-no (int_lt bound) from (numbers_from (from +ℤ pos 1) n)
    (int_lt-false bound from (omega (arith, ints))) in
    omega (arith, later, here)

-- ---- what a set lacks of a stretch

abbrev pub lacks : List ℤ → ℤ → Bool
lacks set k = not (has set k)

-- a number below the stretch makes no odds to it
lacks-below : (m : ℤ) (set : List ℤ) (from : ℤ) (n : ℕ) → m <ℤ from
    → count_by (lacks (m ∷ set)) (numbers_from from n) ≡ count_by (lacks set) (numbers_from from n)
lacks-below m set from n below = count_by-on (lacks (m ∷ set)) (lacks set) from n same
  where
    same : (k : ℤ) → from ≤ℤ k → k <ℤ (from +ℤ pos n) → lacks (m ∷ set) k ≡ lacks set k
    same k a b = rw (int_eq-other m k (λ e. omega (arith, ints))) refl

-- a set with one number more lacks one fewer
lacks-one : (m : ℤ) (set : List ℤ) (from : ℤ) (n : ℕ) → has set m ≡ false → from ≤ℤ m → m <ℤ (from +ℤ pos n)
    → count_by (lacks (m ∷ set)) (numbers_from from n) + 1 ≡ count_by (lacks set) (numbers_from from n)
lacks-one m set from zero out low high = absurd (omega (arith, ints))
lacks-one m set from (suc n) out low high =
    elim (cases_Bool (int_eq m from)) [
      | inl e ↦
          let same : m ≡ from = int_eq-is m from e in
          let gone : lacks (m ∷ set) from ≡ false = ap (λ (b : Bool). not (b || has set from)) e in
          let there : lacks set from ≡ true = ap (λ (k : ℤ). not (has set k)) (sym same) ∙ ap not out in
          let a = count_by-no (lacks (m ∷ set)) from (numbers_from (from +ℤ pos 1) n) gone in
          let b = count_by-yes (lacks set) from (numbers_from (from +ℤ pos 1) n) there in
          let c = lacks-below m set (from +ℤ pos 1) n (omega (arith, ints)) in
          omega (arith, a, b, c)
      | inr e ↦
          let apart : m ≢ from = int_eq-is_not m from e in
          let head : lacks (m ∷ set) from ≡ lacks set from = ap (λ (b : Bool). not (b || has set from)) e in
          let later = lacks-one m set (from +ℤ pos 1) n out (omega (arith, ints)) (omega (arith, ints)) in
          let a = count_by-cons (lacks (m ∷ set)) from (numbers_from (from +ℤ pos 1) n) in
          let b = count_by-cons (lacks set) from (numbers_from (from +ℤ pos 1) n) in
          joined _ _ _ _ _ _ (ap (λ (v : Bool). cond {A = ℕ} v 1 0) head) a b later
    ]
  where
    joined : (x y s t s' t' : ℕ) → x ≡ y → s ≡ x + s' → t ≡ y + t' → s' + 1 ≡ t' → s + 1 ≡ t
    joined x y s t s' t' e a b h = omega arith

lacks-all : (from : ℤ) (n : ℕ) → count_by (lacks []) (numbers_from from n) ≡ n
lacks-all from zero = refl
lacks-all from (suc n) =
    let later = lacks-all (from +ℤ pos 1) n in
    let here = count_by-yes (lacks []) from (numbers_from (from +ℤ pos 1) n) refl in
    omega (arith, later, here)

-- a set within a stretch has what it doesn't lack of it
pub lacks-within : (set : List ℤ) (from : ℤ) (n : ℕ) → AreDistinct set
    → ((k : ℤ) → has set k ≡ true → (from ≤ℤ k) × (k <ℤ (from +ℤ pos n)))
    → count_by (lacks set) (numbers_from from n) + length set ≡ n
lacks-within [] from n distinct within = let all = lacks-all from n in omega (arith, all)
lacks-within (m ∷ set) from n distinct within =
    let here = within m (has-head m set) in
    let later = lacks-within set from n distinct.1 (λ k e. within k (has-tail m set k e)) in
    let one = lacks-one m set from n distinct.0 here.0 here.1 in
    omega (arith, later, one)

-- ---- a stretch without its ends

last_fails : (p : ℤ → Bool) (from : ℤ) (n : ℕ) → p (from +ℤ pos n) ≡ false
    → count_by p (numbers_from from (suc n)) ≡ count_by p (numbers_from from n)
last_fails p from zero out =
    let here : p from ≡ false = ap p (omega (arith, ints)) ∙ out in
    count_by-no p from [] here
last_fails p from (suc n) out =
    let there : p ((from +ℤ pos 1) +ℤ pos n) ≡ false = ap p (omega (arith, ints)) ∙ out in
    let later = last_fails p (from +ℤ pos 1) n there in
    count_by-cons p from (numbers_from (from +ℤ pos 1) (suc n)) ∙ ap (λ (c : ℕ). cond (p from) 1 0 + c) later
    ∙ sym (count_by-cons p from (numbers_from (from +ℤ pos 1) n))

-- where neither end passes the test, the numbers strictly between them count as many
pub ends_fail : (p : ℤ → Bool) (low : ℤ) (far : ℕ) → p low ≡ false → p (low +ℤ pos far) ≡ false
    → count_by p (numbers_from low (far + 1)) ≡ count_by p (numbers_from (low +ℤ pos 1) (far - 1))
ends_fail p low zero a b = count_by-no p low [] a
ends_fail p low (suc far) a b =
    let more : suc far + 1 ≡ suc (suc far) = omega arith in
    let less : suc far - 1 ≡ far = omega arith in
    rw (more, less) (last_fails p low (suc far) b ∙ count_by-no p low (numbers_from (low +ℤ pos 1) far) a)
