-- Tests of integers and what they say, and remainders by 2^32.
use Rattle.std.proofs.Common.{◌≡◌, ◌≢◌, ℕ, ◌+◌, ◌-◌, ◌*◌, ◌/◌, ◌%◌, ◌<◌, inl, inr, true, false, ℤ, pos, negsuc, ◌+ℤ◌, ◌≤ℤ◌, ◌<ℤ◌, arith, refl, ap}
use Rattle.std.specs.Prelude.{int_lt, int_le}
use Rattle.std.specs.Ordering.{int_eq}
use Rattle.std.specs.Int.{int_rem_euclid}
use Rattle.std.proofs.lemmas.Int.{ints}
use Rattle.std.proofs.lemmas.Bool.{cases_Bool}
use Rattle.std.proofs.lemmas.Bool.Decides.{Decides-int_eq}

pub int_lt-true : (a b : ℤ) → a <ℤ b → int_lt a b ≡ true
int_lt-true a b h = elim (cases_Bool (int_lt a b)) [ inl e ↦ e | inr e ↦ absurd (omega (arith, ints)) ]

pub int_lt-false : (a b : ℤ) → b ≤ℤ a → int_lt a b ≡ false
int_lt-false a b h = elim (cases_Bool (int_lt a b)) [ inl e ↦ absurd (omega (arith, ints)) | inr e ↦ e ]

pub int_le-true : (a b : ℤ) → a ≤ℤ b → int_le a b ≡ true
int_le-true a b h = elim (cases_Bool (int_le a b)) [ inl e ↦ e | inr e ↦ absurd (omega (arith, ints)) ]

pub int_le-false : (a b : ℤ) → b <ℤ a → int_le a b ≡ false
int_le-false a b h = elim (cases_Bool (int_le a b)) [ inl e ↦ absurd (omega (arith, ints)) | inr e ↦ e ]

pub int_eq-same : (a : ℤ) → int_eq a a ≡ true
int_eq-same a = (Decides-int_eq a a).1 refl

pub int_eq-other : (a b : ℤ) → a ≢ b → int_eq a b ≡ false
int_eq-other a b h =
    elim (cases_Bool (int_eq a b)) [ inl e ↦ absurd (h ((Decides-int_eq a b).0 e)) | inr e ↦ e ]

pub int_eq-is : (a b : ℤ) → int_eq a b ≡ true → a ≡ b
int_eq-is a b e = (Decides-int_eq a b).0 e

pub int_eq-is_not : (a b : ℤ) → int_eq a b ≡ false → a ≢ b
int_eq-is_not a b e same = let q : int_eq a b ≡ true = (Decides-int_eq a b).1 same in cc

-- the remainder r of z, which is r and a multiple of 2^32
pub remainder_is : (z : ℤ) (r up down : ℕ) → r < 4294967296
    → (z +ℤ pos (4294967296 * up)) ≡ (pos r +ℤ pos (4294967296 * down))
    → int_rem_euclid z (pos 4294967296) ≡ pos r
remainder_is (pos n) r up down small e =
    let q : n + 4294967296 * up ≡ r + 4294967296 * down = omega (arith, ints) in
    ap pos (omega arith)
remainder_is (negsuc n) r up down small e =
    let q : 4294967296 * up ≡ r + 4294967296 * down + n + 1 = omega (arith, ints) in
    ap pos (omega arith)

-- each integer is its remainder and a multiple of 2^32
pub record HasRemainder (z : ℤ) : Type 0 where
  pub rest : ℕ
  pub up : ℕ
  pub down : ℕ
  pub below : rest < 4294967296
  pub is : int_rem_euclid z (pos 4294967296) ≡ pos rest
  pub sums : (z +ℤ pos (4294967296 * up)) ≡ (pos rest +ℤ pos (4294967296 * down))

pub has_remainder : (z : ℤ) → HasRemainder z
has_remainder (pos n) = record {
  rest = n % 4294967296;
  up = 0;
  down = n / 4294967296;
  below = omega arith;
  is = refl;
  sums = omega (arith, ints);
}
has_remainder (negsuc n) = record {
  rest = 4294967296 - 1 - n % 4294967296;
  up = n / 4294967296 + 1;
  down = 0;
  below = omega arith;
  is = refl;
  sums = omega (arith, ints);
}
