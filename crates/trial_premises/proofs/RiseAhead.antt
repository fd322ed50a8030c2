-- The signed difference of two numbers, from their remainders.
use Rattle.std.proofs.Common.{◌≡◌, ◌∙◌, ◌+◌, ◌-◌, ◌*◌, ◌/◌, ◌%◌, ◌<◌, ◌≤◌, ℕ, ℤ, pos, ◌+ℤ◌, ◌-ℤ◌, ◌≤ℤ◌, refl, sym, ap, arith}
use Rattle.std.specs.Prelude.{nat_le, int_le}
use Rattle.std.specs.Int.{int_rem_euclid}
use Rattle.std.proofs.lemmas.Int.{ints}
use Rattle.std.proofs.lemmas.Bool.Decides.{Decides-like, same_from_decides}
use Rattle.count_spec.specs.Windows.{near, mark_of}
use Rattle.count_spec.proofs.Integers.{remainder_is}
use Rattle.trial_spec.specs.ApparentTests.{does_not_rise}
use Rattle.trial_spec.proofs.Tests.{decides-le, decides-int_le}

-- from this above the top less 2^31
abbrev raised : ℕ → ℕ → ℕ
raised n top = n % 4294967296 + 6442450944 - top % 4294967296

near-is : (n top : ℕ) → near (mark_of (pos n)) (pos top)
    ≡ (pos top -ℤ pos 2147483648) +ℤ pos (raised n top % 4294967296)
near-is n top =
    let r : ℕ = raised n top in
    let m : mark_of (pos n) ≡ n % 4294967296 = refl in
    let small : r % 4294967296 < 4294967296 = omega arith in
    let sums : ((pos (n % 4294967296) -ℤ (pos top -ℤ pos 2147483648)) +ℤ pos (4294967296 * (top / 4294967296 + 1)))
    ≡ (pos (r % 4294967296) +ℤ pos (4294967296 * (r / 4294967296))) = omega (arith, ints) in
    let rem : int_rem_euclid (pos (n % 4294967296) -ℤ (pos top -ℤ pos 2147483648)) (pos 4294967296) ≡ pos (r % 4294967296) =
    remainder_is (pos (n % 4294967296) -ℤ (pos top -ℤ pos 2147483648)) (r % 4294967296) (top / 4294967296 + 1)
    (r / 4294967296) small sums in
    ap (λ (k : ℕ). near k (pos top)) m ∙ ap (λ (z : ℤ). (pos top -ℤ pos 2147483648) +ℤ z) rem

pub rise-is : (n top : ℕ) → nat_le (raised n top % 4294967296) 2147483648 ≡ does_not_rise (pos n) (pos top)
rise-is n top =
    same_from_decides (nat_le r 2147483648) (int_le high (pos top))
    (decides-le r 2147483648)
    (Decides-like (int_le high (pos top)) back forth (decides-int_le high (pos top)))
    ∙ ap (λ (z : ℤ). int_le z (pos top)) (sym (near-is n top))
  where
    r : ℕ
    r = raised n top % 4294967296

    high : ℤ
    high = (pos top -ℤ pos 2147483648) +ℤ pos r

    back : high ≤ℤ pos top → r ≤ 2147483648
    back h = omega (arith, ints)

    forth : r ≤ 2147483648 → high ≤ℤ pos top
    forth h = omega (arith, ints)

pub ruleset rise_is = (rise-is)
