-- The bits of one word: a run of ones, a word without such a run, and how many of it a word lacks.
use Rattle.std.proofs.Common.{◌≡◌, ℕ, zero, suc, ◌+◌, ◌-◌, ◌*◌, ◌/◌, ◌%◌, ◌^◌, ◌<◌, ◌≤◌, ◌⊎◌, inl, inr, not, refl, sym, ◌∙◌, ap, arith, bit_and, w64}
use Rattle.std.specs.Prelude.{◌==◌, min, cond, count_ones}
use Rattle.std.specs.Int.{bit_at}
use Rattle.std.proofs.Math.Nat.{pow-le-pow_right, mod-eq_of_lt, mul-sub}
use Rattle.std.proofs.lemmas.Bool.{eq-eqb, ne_eqb}
use Rattle.std.proofs.lemmas.Nat.{one_shl, pow_pos, pow-add, ones_cat, ones-le, ones_le_self, and_le_r}
use Rattle.std.proofs.lemmas.Nat.Bits.{bit_at-lt, bit_at-suc, bit_at_lowest, bit_at_and, bit_at_not, ones_shr, bit_at_mask_inside, bit_at_mask_below, bit_at_mask_above}
use Rattle.late_window.specs.Distances.{count_below}
use Rattle.late_window.proofs.Tallies.{count-zero, count-same, count-none, count-split, count-first, count-reversed}

-- ---- a run of ones

run-shifted : (low count : ℕ) → (2 ^ count - 1) * 2 ^ low ≡ 2 ^ (low + count) - 2 ^ low
run-shifted low count =
    let product = mul-sub (2 ^ low) (2 ^ count) 1 in
    let sum = pow-add 2 low count in
    omega (arith, product, sum)

run-fits : (low count : ℕ) → low + count ≤ 64 → 2 ^ (low + count) - 2 ^ low < 2 ^ 64
run-fits low count in_word =
    let most : 2 ^ (low + count) ≤ 2 ^ 64 = pow-le-pow_right (omega arith) in_word in
    let some = pow_pos low in
    omega (arith, most, some)

pub run-made : (low count : ℕ) → low + count ≤ 64
    → (2 ^ 64 - 1) / 2 ^ (64 - count) * 2 ^ low % 2 ^ 64 ≡ 2 ^ (low + count) - 2 ^ low
run-made low count in_word =
    let left : 64 - (64 - count) ≡ count = omega arith in
    let ones : (2 ^ 64 - 1) / 2 ^ (64 - count) ≡ 2 ^ count - 1 =
    ones_shr 64 (64 - count) (omega arith) ∙ ap (λ (j : ℕ). 2 ^ j - 1) left in
    ap (λ (n : ℕ). n * 2 ^ low % 2 ^ 64) ones ∙ ap (λ (n : ℕ). n % 2 ^ 64) (run-shifted low count)
    ∙ mod-eq_of_lt (run-fits low count in_word)

pub one-made : (low : ℕ) → low < 64 → 1 * 2 ^ low % 2 ^ 64 ≡ 2 ^ (low + 1) - 2 ^ low
one-made low within =
    let one = one_shl low 64 within in
    let double = pow-add 2 low 1 in
    omega (arith, one, double)

-- ---- a word without a run

none-of : (a b m : ℕ) → b ≡ 1 - m → m ≡ 1 → min a b ≡ 0
none-of a b m e one = omega arith

all-of : (a b m : ℕ) → b ≡ 1 - m → m ≡ 0 → a < 2 → min a b ≡ a
all-of a b m e none small = omega arith

pub bit-cleared : (word low count i : ℕ) → low + count ≤ 64 → low ≤ i → i < low + count
    → bit_at (bit_and word (2 ^ 64 - 1 - (2 ^ (low + count) - 2 ^ low))) i ≡ 0
bit-cleared word low count i in_word from to =
    bit_at_and word (2 ^ 64 - 1 - (2 ^ (low + count) - 2 ^ low)) i
    ∙ none-of (bit_at word i) _ (bit_at (2 ^ (low + count) - 2 ^ low) i)
    (bit_at_not w64 (2 ^ (low + count) - 2 ^ low) i (run-fits low count in_word) (omega arith))
    (bit_at_mask_inside low (low + count) i from to)

pub bit-left : (word low count i : ℕ) → low + count ≤ 64 → i < 64 → (i < low) ⊎ (low + count ≤ i)
    → bit_at (bit_and word (2 ^ 64 - 1 - (2 ^ (low + count) - 2 ^ low))) i ≡ bit_at word i
bit-left word low count i in_word within out =
    bit_at_and word (2 ^ 64 - 1 - (2 ^ (low + count) - 2 ^ low)) i
    ∙ all-of (bit_at word i) _ (bit_at (2 ^ (low + count) - 2 ^ low) i)
    (bit_at_not w64 (2 ^ (low + count) - 2 ^ low) i (run-fits low count in_word) within)
    (outside out) (bit_at-lt word i)
  where
    outside : (i < low) ⊎ (low + count ≤ i) → bit_at (2 ^ (low + count) - 2 ^ low) i ≡ 0
    outside (inl below) = bit_at_mask_below low (low + count) i below
    outside (inr above) = bit_at_mask_above low (low + count) i above

-- ---- how many ones

ones-digit : (n : ℕ) → n < 2 → count_ones n ≡ cond (n == 1) 1 0
unfolding lib.Count.ones
ones-digit zero small = omega (arith, ones_le_self 0)
ones-digit (suc zero) small = refl
ones-digit (suc (suc n)) small = absurd (omega arith)

-- the ones of a number are its bits that are 1
ones-counted : (d n : ℕ) → n < 2 ^ d → count_ones n ≡ count_below (λ i. bit_at n i == 1) d
ones-counted zero n small =
    let none = ones-le 0 n small in
    let zero = count-zero (λ i. bit_at n i == 1) in
    omega (arith, none, zero)
ones-counted (suc d) n small =
    let whole : n / 2 * 2 + n % 2 ≡ n = omega arith in
    let double = pow-add 2 1 d in
    let parts : count_ones n ≡ count_ones (n / 2) + count_ones (n % 2) =
    ap count_ones (sym whole) ∙ ones_cat 1 (n / 2) (n % 2) (omega arith) in
    let first : count_ones (n % 2) ≡ cond (bit_at n 0 == 1) 1 0 =
    ones-digit (n % 2) (omega arith) ∙ ap (λ (b : ℕ). cond (b == 1) 1 0) (sym (bit_at_lowest n)) in
    let rest : count_ones (n / 2) ≡ count_below (λ i. bit_at n (suc i) == 1) d =
    ones-counted d (n / 2) (omega (arith, double))
    ∙ count-same (λ i. bit_at (n / 2) i == 1) (λ i. bit_at n (suc i) == 1) d
    (λ i within. ap (λ (b : ℕ). b == 1) (sym (bit_at-suc n i))) in
    let all = count-first (λ i. bit_at n i == 1) d in
    omega (arith, parts, first, rest, all)

lacks : (a b m x : ℕ) → x ≡ min b m → b ≡ 1 - a → m ≡ 1 → a < 2 → (x == 1) ≡ not (a == 1)
lacks zero b m x e turned one small = eq-eqb x 1 (omega arith)
lacks (suc zero) b m x e turned one small = ne_eqb x 1 (λ q. zero-one x b m e turned one q)
  where
    zero-one : (x b m : ℕ) → x ≡ min b m → b ≡ 1 - 1 → m ≡ 1 → x ≡ 1 → ⊥
    zero-one x b m e turned one q = omega arith
lacks (suc (suc a)) b m x e turned one small = absurd (omega arith)

-- how many bits a word lacks
pub word-lacked : (word : ℕ) → word < 2 ^ 64
    → count_ones (2 ^ 64 - 1 - word) ≡ count_below (λ i. not (bit_at word i == 1)) 64
word-lacked word fits =
    ones-counted 64 (2 ^ 64 - 1 - word) (omega arith)
    ∙ count-same (λ i. bit_at (2 ^ 64 - 1 - word) i == 1) (λ i. not (bit_at word i == 1)) 64
    (λ i within. lacks (bit_at word i) (bit_at (2 ^ 64 - 1 - word) i) 1 (bit_at (2 ^ 64 - 1 - word) i)
    (turned (bit_at word i) (bit_at (2 ^ 64 - 1 - word) i) (bit_at_not w64 word i fits within))
    (bit_at_not w64 word i fits within) refl (bit_at-lt word i))
  where
    turned : (a b : ℕ) → b ≡ 1 - a → b ≡ min b 1
    turned a b e = omega arith

-- how many bits of a run a word lacks, from the highest down
pub run-lacked : (word low count : ℕ) → word < 2 ^ 64 → low + count ≤ 64
    → count_ones (bit_and (2 ^ 64 - 1 - word) (2 ^ (low + count) - 2 ^ low))
    ≡ count_below (λ k. not (bit_at word (low + (count - 1 - k)) == 1)) count
run-lacked word low count fits in_word =
    let run : ℕ = 2 ^ (low + count) - 2 ^ low in
    let x : ℕ = bit_and (2 ^ 64 - 1 - word) run in
    let some = pow_pos low in
    let most = pow_pos (low + count) in
    let below : x ≤ run = and_le_r (2 ^ 64 - 1 - word) run in
    let small : x < 2 ^ (low + count) = omega (arith, below, some, most) in
    let none : count_below (λ i. bit_at x i == 1) low ≡ 0 =
    count-none (λ i. bit_at x i == 1) low (λ i under. ne_eqb (bit_at x i) 1 (λ e. below_it i under e)) in
    let those : count_below (λ i. bit_at x (low + i) == 1) count ≡ count_below (λ i. not (bit_at word (low + i) == 1)) count =
    count-same (λ i. bit_at x (low + i) == 1) (λ i. not (bit_at word (low + i) == 1)) count
    (λ i within. lacks (bit_at word (low + i)) (bit_at (2 ^ 64 - 1 - word) (low + i)) (bit_at run (low + i)) (bit_at x (low + i))
    (bit_at_and (2 ^ 64 - 1 - word) run (low + i)) (bit_at_not w64 word (low + i) fits (omega arith))
    (bit_at_mask_inside low (low + count) (low + i) (omega arith) (omega arith)) (bit_at-lt word (low + i))) in
    let split = count-split (λ i. bit_at x i == 1) low count in
    ones-counted (low + count) x small ∙ split ∙ (rw (none, those)
    (omega arith)) ∙ count-reversed (λ i. not (bit_at word (low + i) == 1)) count
  where
    small-min : (a b m : ℕ) → m ≡ 0 → min a m ≡ 1 → ⊥
    small-min a b m none e = omega arith

    below_it : (i : ℕ) → i < low → bit_at (bit_and (2 ^ 64 - 1 - word) (2 ^ (low + count) - 2 ^ low)) i ≡ 1 → ⊥
    below_it i under e =
        small-min (bit_at (2 ^ 64 - 1 - word) i) 0 (bit_at (2 ^ (low + count) - 2 ^ low) i)
        (bit_at_mask_below low (low + count) i under)
        (sym (bit_at_and (2 ^ 64 - 1 - word) (2 ^ (low + count) - 2 ^ low) i) ∙ e)
