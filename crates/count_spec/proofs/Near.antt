-- The number near the top that a mark stands for.
use Rattle.std.proofs.Common.{◌≡◌, ℕ, ◌*◌, ◌<◌, ℤ, pos, ◌+ℤ◌, ◌-ℤ◌, ◌≤ℤ◌, ◌<ℤ◌, arith, refl}
use Rattle.std.specs.Prelude.{unsigned_abs}
use Rattle.std.specs.Int.{int_rem_euclid}
use Rattle.std.proofs.lemmas.Int.{ints}
use Rattle.count_spec.specs.Windows.{near, mark_of}
use Rattle.count_spec.proofs.Integers.{remainder_is, HasRemainder, has_remainder}

-- it is at least top - 2^31
pub near-from : (mark : ℕ) (top : ℤ) → (top -ℤ pos 2147483648) ≤ℤ near mark top
near-from mark top =
    let r : HasRemainder (pos mark -ℤ (top -ℤ pos 2147483648)) = has_remainder _ in
    rw r.is (omega (arith, ints))

-- it is less than top + 2^31
pub near-below : (mark : ℕ) (top : ℤ) → near mark top <ℤ (top +ℤ pos 2147483648)
near-below mark top =
    let r : HasRemainder (pos mark -ℤ (top -ℤ pos 2147483648)) = has_remainder _ in
    let b : r.rest < 4294967296 = r.below in
    rw r.is (omega (arith, ints))

-- its mark is the mark
pub mark_of-near : (mark : ℕ) (top : ℤ) → mark < 4294967296 → mark_of (near mark top) ≡ mark
mark_of-near mark top small =
    let r : HasRemainder (pos mark -ℤ (top -ℤ pos 2147483648)) = has_remainder _ in
    let s : (pos mark -ℤ (top -ℤ pos 2147483648) +ℤ pos (4294967296 * r.up))
    ≡ (pos r.rest +ℤ pos (4294967296 * r.down)) = r.sums in
    let e : int_rem_euclid ((top -ℤ pos 2147483648) +ℤ pos r.rest) (pos 4294967296) ≡ pos mark =
    remainder_is ((top -ℤ pos 2147483648) +ℤ pos r.rest) mark r.down r.up small (omega (arith, ints)) in
    rw (r.is, e) refl

-- a number from top - 2^31 up to and without top + 2^31 is found again from its mark
pub near-mark_of : (n top : ℤ) → (top -ℤ pos 2147483648) ≤ℤ n → n <ℤ (top +ℤ pos 2147483648)
    → near (mark_of n) top ≡ n
near-mark_of n top from below =
    let r : HasRemainder n = has_remainder n in
    let s : (n +ℤ pos (4294967296 * r.up)) ≡ (pos r.rest +ℤ pos (4294967296 * r.down)) = r.sums in
    let far : ℕ = unsigned_abs (n -ℤ (top -ℤ pos 2147483648)) in
    let e : int_rem_euclid (pos r.rest -ℤ (top -ℤ pos 2147483648)) (pos 4294967296) ≡ pos far =
    remainder_is (pos r.rest -ℤ (top -ℤ pos 2147483648)) far r.down r.up (omega (arith, ints))
    (omega (arith, ints)) in
    rw (r.is, e) (omega (arith, ints))
