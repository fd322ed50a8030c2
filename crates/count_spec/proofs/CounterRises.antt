-- The rise of counters that go on from their modulus less 1 to 0.
use Rattle.std.proofs.Common.{◌≡◌, ◌≢◌, ◌↔◌, ℕ, ◌+◌, ◌%◌, ◌<◌, ◌≤◌, Bool, true, false, cond, List, [], ◌∷◌, map, ℤ, ◌≤ℤ◌, ◌<ℤ◌, arith, refl, ap, sym}
use Rattle.std.specs.Prelude.{int_lt}
use Rattle.std.specs.Ordering.{int_eq}
use Rattle.std.proofs.lemmas.Int.{ints}
use Rattle.count_spec.specs.Windows.{greatest, least, AreDistinct}
use Rattle.count_spec.specs.Rise.{NumberedValue, numbers, value_at, value_at_greatest, value_at_least, rise, rise_step, AreSlow}
use Rattle.count_spec.specs.CounterRise.{step_between, counter_rise}
use Rattle.count_spec.specs.TrueRise.{AreMonotone, RiseByLess, shown_by}
use Rattle.count_spec.proofs.Rises.{value-greater, value-less}
use Rattle.count_spec.proofs.Sets.{has-greatest, has-least, has-differs, least-at_most-greatest}
use Rattle.count_spec.proofs.Integers.{int_eq-same}

-- a rise of 32-bit values is one of these
pub rise-of_32_bits : (values : List NumberedValue) → counter_rise 4294967296 values ≡ rise values
rise-of_32_bits [] = refl
rise-of_32_bits (v ∷ []) = refl
rise-of_32_bits (v ∷ u ∷ before) = ap (λ n. n + rise_step (u ∷ before) v) (rise-of_32_bits (u ∷ before))

-- slowly is without a fall and by less than 2^32
pub slow-is : (values : List NumberedValue) → AreSlow values ↔ (AreMonotone values × RiseByLess 4294967296 values)
slow-is values = (apart values, together values)
  where
    apart : (vs : List NumberedValue) → AreSlow vs → AreMonotone vs × RiseByLess 4294967296 vs
    apart [] h = (tt, tt)
    apart (v ∷ []) h = (tt, tt)
    apart (v ∷ u ∷ before) h =
        let later = apart (u ∷ before) h.2 in (
          (λ up. (h.0 up).0, λ down. (h.1 down).0, later.0),
          (λ up. (h.0 up).1, λ down. (h.1 down).1, later.1),
        )

    together : (vs : List NumberedValue) → AreMonotone vs × RiseByLess 4294967296 vs → AreSlow vs
    together [] h = tt
    together (v ∷ []) h = tt
    together (v ∷ u ∷ before) h =
        let m = h.0 in
        let b = h.1 in
        (λ up. (m.0 up, b.0 up), λ down. (m.1 down, b.1 down), together (u ∷ before) (m.2, b.2))

-- ---- the true difference, where one step is the true one

module _ (modulus : ℕ) (exact : (from to : ℕ) → from ≤ to → to < from + modulus
    → step_between modulus (from % modulus) (to % modulus) + from ≡ to) where
  numbers-shown : (values : List NumberedValue) → numbers (map (shown_by modulus) values) ≡ numbers values
  numbers-shown [] = refl
  numbers-shown (v ∷ more) = ap (λ (ns : List ℤ). v.number ∷ ns) (numbers-shown more)

  value_at-shown : 0 % modulus ≡ 0 → (values : List NumberedValue) (n : ℤ)
      → value_at (map (shown_by modulus) values) n ≡ value_at values n % modulus
  value_at-shown zero [] n = sym zero
  value_at-shown zero (v ∷ more) n = go (int_eq v.number n) (value_at-shown zero more n)
    where
      go : (b : Bool) → value_at (map (shown_by modulus) more) n ≡ value_at more n % modulus
          → cond b (v.value % modulus) (value_at (map (shown_by modulus) more) n)
          ≡ cond b v.value (value_at more n) % modulus
      go true h = refl
      go false h = h

  -- one step over the greatest and the least number so far, and the true values there
  true-step : (g l n : ℤ) (at_g at_l v so_far : ℕ) → l ≤ℤ g
      → (g <ℤ n → (at_g ≤ v) × (v < at_g + modulus)) → (n <ℤ l → (v ≤ at_l) × (at_l < v + modulus))
      → so_far + at_l ≡ at_g
      → so_far + (cond (int_lt g n) (step_between modulus (at_g % modulus) (v % modulus)) 0
      + cond (int_lt n l) (step_between modulus (v % modulus) (at_l % modulus)) 0)
      + cond (int_lt n l) v at_l ≡ cond (int_lt g n) v at_g
  true-step g l n at_g at_l v so_far order up down h = go (int_lt g n) (int_lt n l) refl refl
    where
      above : (s : ℕ) → s + at_g ≡ v → so_far + (s + 0) + at_l ≡ v
      above s e = omega (arith, e, h)

      below : (s : ℕ) → s + v ≡ at_l → so_far + (0 + s) + v ≡ at_g
      below s e = omega (arith, e, h)

      neither : so_far + (0 + 0) + at_l ≡ at_g
      neither = omega (arith, h)

      go : (c d : Bool) → int_lt g n ≡ c → int_lt n l ≡ d
          → so_far + (cond c (step_between modulus (at_g % modulus) (v % modulus)) 0
          + cond d (step_between modulus (v % modulus) (at_l % modulus)) 0)
          + cond d v at_l ≡ cond c v at_g
      go true true e f = absurd (omega (arith, ints))
      go true false e f = let u = up (omega (arith, ints)) in
          above (step_between modulus (at_g % modulus) (v % modulus)) (exact at_g v u.0 u.1)
      go false true e f = let d = down (omega (arith, ints)) in
          below (step_between modulus (v % modulus) (at_l % modulus)) (exact v at_l d.0 d.1)
      go false false e f = neither

  true-more : (v u : NumberedValue) (before : List NumberedValue) → 0 % modulus ≡ 0
      → AreDistinct (numbers (v ∷ u ∷ before)) → AreMonotone (v ∷ u ∷ before) → RiseByLess modulus (v ∷ u ∷ before)
      → counter_rise modulus (map (shown_by modulus) (u ∷ before)) + value_at_least (u ∷ before) ≡ value_at_greatest (u ∷ before)
      → counter_rise modulus (map (shown_by modulus) (v ∷ u ∷ before)) + value_at_least (v ∷ u ∷ before)
      ≡ value_at_greatest (v ∷ u ∷ before)
  true-more v u before zero distinct rises less h =
      let us : List NumberedValue = u ∷ before in
      let g : ℤ = greatest (numbers us) in
      let l : ℤ = least (numbers us) in
      let not_g : v.number ≢ g =
      has-differs (numbers us) v.number g distinct.0 (has-greatest u.number (numbers before)) in
      let not_l : v.number ≢ l =
      has-differs (numbers us) v.number l distinct.0 (has-least u.number (numbers before)) in
      let s = true-step g l v.number (value_at us g) (value_at us l) v.value
      (counter_rise modulus (map (shown_by modulus) us)) (least-at_most-greatest u.number (numbers before))
      (λ up. (rises.0 up, less.0 up)) (λ down. (rises.1 down, less.1 down)) h in
      rw (
        value-greater v us g not_g,
        value-less v us l not_l,
        numbers-shown before,
        value_at-shown zero us g,
        value_at-shown zero us l,
      ) s

  true-rise : (v : NumberedValue) (before : List NumberedValue) → 0 % modulus ≡ 0
      → AreDistinct (numbers (v ∷ before)) → AreMonotone (v ∷ before) → RiseByLess modulus (v ∷ before)
      → counter_rise modulus (map (shown_by modulus) (v ∷ before)) + value_at_least (v ∷ before)
      ≡ value_at_greatest (v ∷ before)
  true-rise v [] zero distinct rises less = rw (int_eq-same v.number) (omega arith)
  true-rise v (u ∷ before) zero distinct rises less =
      true-more v u before zero distinct rises less (true-rise u before zero distinct.1 rises.2 less.2)

  pub counter_rise-is : 0 % modulus ≡ 0 → (values : List NumberedValue) → AreDistinct (numbers values)
      → AreMonotone values → RiseByLess modulus values
      → counter_rise modulus (map (shown_by modulus) values) + value_at_least values ≡ value_at_greatest values
  counter_rise-is zero [] distinct rises less = refl
  counter_rise-is zero (v ∷ before) distinct rises less = true-rise v before zero distinct rises less

-- one step of a counter of 32 bits, and of one of 64
pub step-of_32_bits : (from to : ℕ) → from ≤ to → to < from + 4294967296
    → step_between 4294967296 (from % 4294967296) (to % 4294967296) + from ≡ to
step-of_32_bits from to a b = omega arith

pub step-of_64_bits : (from to : ℕ) → from ≤ to → to < from + 18446744073709551616
    → step_between 18446744073709551616 (from % 18446744073709551616) (to % 18446744073709551616) + from ≡ to
step-of_64_bits from to a b = omega arith
