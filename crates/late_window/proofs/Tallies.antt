-- How many of the numbers below n pass a test.
use Rattle.std.proofs.Common.{◌≡◌, ℕ, zero, suc, ◌+◌, ◌-◌, ◌<◌, ◌≤◌, inl, inr, Bool, true, false, cond, refl, sym, ◌∙◌, ap, arith, add-suc}
use Rattle.std.proofs.lemmas.Bool.{cases_eq}
use Rattle.late_window.specs.Distances.{count_below}

pub count-zero : (p : ℕ → Bool) → count_below p 0 ≡ 0
unfolding count_below
count-zero p = refl

pub count-suc : (p : ℕ → Bool) (n : ℕ) → count_below p (suc n) ≡ cond (p n) 1 0 + count_below p n
unfolding count_below
count-suc p n = refl

-- tests that agree below n count alike
pub count-same : (p q : ℕ → Bool) (n : ℕ) → ((k : ℕ) → k < n → p k ≡ q k) → count_below p n ≡ count_below q n
count-same p q zero agree = count-zero p ∙ sym (count-zero q)
count-same p q (suc n) agree =
    let here : p n ≡ q n = agree n (omega arith) in
    let later : count_below p n ≡ count_below q n = count-same p q n (λ k b. agree k (omega arith)) in
    rw (count-suc p n, count-suc q n, here, later) refl

pub count-none : (p : ℕ → Bool) (n : ℕ) → ((k : ℕ) → k < n → p k ≡ false) → count_below p n ≡ 0
count-none p zero out = count-zero p
count-none p (suc n) out =
    let here : p n ≡ false = out n (omega arith) in
    let later : count_below p n ≡ 0 = count-none p n (λ k b. out k (omega arith)) in
    rw (count-suc p n, here, later) refl

pub count-all : (p : ℕ → Bool) (n : ℕ) → ((k : ℕ) → k < n → p k ≡ true) → count_below p n ≡ n
count-all p zero in_all = count-zero p
count-all p (suc n) in_all =
    let here : p n ≡ true = in_all n (omega arith) in
    let later : count_below p n ≡ n = count-all p n (λ k b. in_all k (omega arith)) in
    rw (count-suc p n, here, later) (omega arith)

pub count-bound : (p : ℕ → Bool) (n : ℕ) → count_below p n ≤ n
count-bound p zero = rw (count-zero p) (omega arith)
count-bound p (suc n) = rw (count-suc p n) (bit (p n) (count_below p n) (count-bound p n))
  where
    bit : (b : Bool) (c : ℕ) → c ≤ n → cond b 1 0 + c ≤ suc n
    bit true c h = omega arith
    bit false c h = omega arith

-- those below a, and those from a on
pub count-split : (p : ℕ → Bool) (a b : ℕ)
    → count_below p (a + b) ≡ count_below p a + count_below (λ k. p (a + k)) b
count-split p a zero =
    let none : a + 0 ≡ a = omega arith in
    rw (none, count-zero (λ k. p (a + k))) (omega arith)
count-split p a (suc b) =
    let later = count-split p a b in
    rw (add-suc a b, count-suc p (a + b), count-suc (λ k. p (a + k)) b, later) (omega arith)

-- the first, and the others
pub count-first : (p : ℕ → Bool) (n : ℕ)
    → count_below p (suc n) ≡ cond (p 0) 1 0 + count_below (λ k. p (suc k)) n
count-first p zero = rw (count-suc p 0, count-zero p, count-zero (λ k. p (suc k))) refl
count-first p (suc n) =
    let later = count-first p n in
    rw (count-suc p (suc n), count-suc (λ k. p (suc k)) n, later) (omega arith)

-- from the last to the first
pub count-reversed : (p : ℕ → Bool) (n : ℕ) → count_below p n ≡ count_below (λ k. p (n - 1 - k)) n
count-reversed p zero = count-zero p ∙ sym (count-zero (λ k. p (0 - 1 - k)))
count-reversed p (suc n) =
    let last : cond {A = ℕ} (p (suc n - 1 - 0)) 1 0 ≡ cond {A = ℕ} (p n) 1 0 =
    ap (λ (k : ℕ). cond {A = ℕ} (p k) 1 0) (omega arith) in
    let others : count_below (λ k. p (n - 1 - k)) n ≡ count_below (λ k. p (suc n - 1 - suc k)) n =
    count-same (λ k. p (n - 1 - k)) (λ k. p (suc n - 1 - suc k)) n (λ k b. ap p (omega arith)) in
    let turned = count-first (λ k. p (suc n - 1 - k)) n in
    let later = count-reversed p n in
    let here = count-suc p n in
    omega (arith, here, later, others, last, turned)

-- one number passes q and not p, and else they agree
pub count-one : (p q : ℕ → Bool) (j n : ℕ) → j < n → p j ≡ false → q j ≡ true
    → ((k : ℕ) → k < n → (k ≡ j → ⊥) → p k ≡ q k) → count_below q n ≡ count_below p n + 1
count-one p q j zero within out in_it agree = absurd (omega arith)
count-one p q j (suc n) within out in_it agree =
    elim (cases_eq j n) [
      | inl last ↦
          let there : p n ≡ false = ap p (sym last) ∙ out in
          let here : q n ≡ true = ap q (sym last) ∙ in_it in
          let rest : count_below p n ≡ count_below q n =
          count-same p q n (λ k b. agree k (omega arith) (λ e. not_last k n j b last e)) in
          rw (count-suc p n, count-suc q n, there, here, rest) (omega arith)
      | inr before ↦
          let same : p n ≡ q n = agree n (omega arith) (λ e. before (sym e)) in
          let rest : count_below q n ≡ count_below p n + 1 =
          count-one p q j n (below_it j n within before) out in_it (λ k b. agree k (omega arith)) in
          rw (count-suc p n, count-suc q n, same, rest) (omega arith)
    ]
  where
    not_last : (k n j : ℕ) → k < n → j ≡ n → k ≡ j → ⊥
    not_last k n j b last e = omega arith

    below_it : (j n : ℕ) → j < suc n → (j ≡ n → ⊥) → j < n
    below_it j n b e = omega arith
