-- The rise of 32-bit values.
use Rattle.std.proofs.Common.{◌≡◌, ◌≢◌, ℕ, ◌+◌, ◌*◌, ◌%◌, ◌<◌, ◌≤◌, Bool, true, false, cond, List, [], ◌∷◌, length, map, ℤ, ◌≤ℤ◌, ◌<ℤ◌, arith, refl, ap}
use Rattle.std.specs.Prelude.{int_lt}
use Rattle.std.specs.Ordering.{int_eq}
use Rattle.std.specs.Int.{int_max, int_min}
use Rattle.std.proofs.lemmas.Int.{ints}
use Rattle.count_spec.specs.Windows.{greatest, least, AreDistinct, answer, counting, counted}
use Rattle.count_spec.specs.declared.entered.Entered.{Entered}
use Rattle.count_spec.specs.declared.entered.Entered.TheVariants.{First, Repeat, Late}
use Rattle.count_spec.specs.Rise.{NumberedValue, numbers, value_at, value_at_greatest, value_at_least, rise_between, rise, with_value, first_values, shown, RisesSlowly, AreSlow}
use Rattle.count_spec.proofs.Integers.{int_eq-same, int_eq-other}
use Rattle.count_spec.proofs.Sets.{has-greatest, has-least, has-differs, least-at_most-greatest}

-- ---- the First samples carry the counted numbers

with_value-numbers : (a : Entered) (v : ℕ) (before : List NumberedValue) (set : List ℤ) → numbers before ≡ set
    → numbers (with_value a v before) ≡ counting a set
with_value-numbers (First place n) v before set e = ap (λ (ns : List ℤ). n ∷ ns) e
with_value-numbers Repeat v before set e = e
with_value-numbers Late v before set e = e

pub first_values-numbers : {X : Type 0} (mark value : X → ℕ) (width : ℕ) (samples : List X)
    → numbers (first_values mark value width samples) ≡ counted width (map mark samples)
first_values-numbers mark value width [] = refl
first_values-numbers mark value width (x ∷ before) =
    with_value-numbers (answer width (counted width (map mark before)) (mark x)) (value x)
    (first_values mark value width before) (counted width (map mark before))
    (first_values-numbers mark value width before)

-- ---- one step

pub rise_between-bound : (from to : ℕ) → rise_between from to < 4294967296
rise_between-bound from to = omega arith

pub rise_between-sum : (from to : ℕ) → (from + rise_between from to) % 4294967296 ≡ to % 4294967296
rise_between-sum from to = omega arith

rise_between-slow : (from to : ℕ) → RisesSlowly from to
    → rise_between (from % 4294967296) (to % 4294967296) + from ≡ to
rise_between-slow from to slow = let a = slow.0 in let b = slow.1 in omega arith

-- a number isn't both above the greatest and below the least
step-bound : (g l n : ℤ) (up down : ℕ) → l ≤ℤ g → up < 4294967296 → down < 4294967296
    → cond (int_lt g n) up 0 + cond (int_lt n l) down 0 < 4294967296
step-bound g l n up down order a b = go (int_lt g n) (int_lt n l) refl refl
  where
    go : (c d : Bool) → int_lt g n ≡ c → int_lt n l ≡ d → cond c up 0 + cond d down 0 < 4294967296
    go true true e f = absurd (omega (arith, ints))
    go true false e f = omega arith
    go false true e f = omega arith
    go false false e f = omega arith

pub rise-bound : (v : NumberedValue) (before : List NumberedValue)
    → rise (v ∷ before) ≤ 4294967296 * length before
rise-bound v [] = omega arith
rise-bound v (u ∷ before) =
    let later = rise-bound u before in
    let here = step-bound (greatest (numbers (u ∷ before))) (least (numbers (u ∷ before))) v.number
    (rise_between (value_at_greatest (u ∷ before)) v.value)
    (rise_between v.value (value_at_least (u ∷ before)))
    (least-at_most-greatest u.number (numbers before)) (rise_between-bound _ _) (rise_between-bound _ _) in
    omega (arith, later, here)

-- ---- where values rise slowly

numbers-shown : (values : List NumberedValue) → numbers (map shown values) ≡ numbers values
numbers-shown [] = refl
numbers-shown (v ∷ more) = ap (λ (ns : List ℤ). v.number ∷ ns) (numbers-shown more)

value_at-shown : (values : List NumberedValue) (n : ℤ)
    → value_at (map shown values) n ≡ value_at values n % 4294967296
value_at-shown [] n = refl
value_at-shown (v ∷ more) n = go (int_eq v.number n) (value_at-shown more n)
  where
    go : (b : Bool) → value_at (map shown more) n ≡ value_at more n % 4294967296
        → cond b (v.value % 4294967296) (value_at (map shown more) n)
        ≡ cond b v.value (value_at more n) % 4294967296
    go true h = refl
    go false h = h

-- the value at the greatest number with one number more, and at the least
pub value-greater : (v : NumberedValue) (before : List NumberedValue) (g : ℤ) → v.number ≢ g
    → value_at (v ∷ before) (int_max v.number g) ≡ cond (int_lt g v.number) v.value (value_at before g)
value-greater v before g other = go (int_lt g v.number)
  where
    go : (b : Bool) → value_at (v ∷ before) (cond b v.number g) ≡ cond b v.value (value_at before g)
    go true = rw (int_eq-same v.number) refl
    go false = rw (int_eq-other v.number g other) refl

pub value-less : (v : NumberedValue) (before : List NumberedValue) (l : ℤ) → v.number ≢ l
    → value_at (v ∷ before) (int_min v.number l) ≡ cond (int_lt v.number l) v.value (value_at before l)
value-less v before l other = go (int_lt v.number l) (int_lt l v.number) refl refl
  where
    go : (b d : Bool) → int_lt v.number l ≡ b → int_lt l v.number ≡ d
        → value_at (v ∷ before) (cond d l v.number) ≡ cond b v.value (value_at before l)
    go true true e f = absurd (omega (arith, ints))
    go true false e f = rw (int_eq-same v.number) refl
    go false true e f = rw (int_eq-other v.number l other) refl
    go false false e f = absurd (other (omega (arith, ints)))

-- one step over the greatest and the least number so far, and the true values there
slow-step : (g l n : ℤ) (at_g at_l v so_far : ℕ) → l ≤ℤ g
    → (g <ℤ n → RisesSlowly at_g v) → (n <ℤ l → RisesSlowly v at_l) → so_far + at_l ≡ at_g
    → so_far + (cond (int_lt g n) (rise_between (at_g % 4294967296) (v % 4294967296)) 0
    + cond (int_lt n l) (rise_between (v % 4294967296) (at_l % 4294967296)) 0)
    + cond (int_lt n l) v at_l ≡ cond (int_lt g n) v at_g
slow-step g l n at_g at_l v so_far order up down h = go (int_lt g n) (int_lt n l) refl refl
  where
    go : (c d : Bool) → int_lt g n ≡ c → int_lt n l ≡ d
        → so_far + (cond c (rise_between (at_g % 4294967296) (v % 4294967296)) 0
        + cond d (rise_between (v % 4294967296) (at_l % 4294967296)) 0)
        + cond d v at_l ≡ cond c v at_g
    go true true e f = absurd (omega (arith, ints))
    go true false e f = let s = rise_between-slow at_g v (up (omega (arith, ints))) in omega (arith, s, h)
    go false true e f = let s = rise_between-slow v at_l (down (omega (arith, ints))) in omega (arith, s, h)
    go false false e f = omega (arith, h)

slow-more : (v u : NumberedValue) (before : List NumberedValue)
    → AreDistinct (numbers (v ∷ u ∷ before)) → AreSlow (v ∷ u ∷ before)
    → rise (map shown (u ∷ before)) + value_at_least (u ∷ before) ≡ value_at_greatest (u ∷ before)
    → rise (map shown (v ∷ u ∷ before)) + value_at_least (v ∷ u ∷ before) ≡ value_at_greatest (v ∷ u ∷ before)
slow-more v u before distinct slow h =
    let us : List NumberedValue = u ∷ before in
    let g : ℤ = greatest (numbers us) in
    let l : ℤ = least (numbers us) in
    let not_g : v.number ≢ g =
    has-differs (numbers us) v.number g distinct.0 (has-greatest u.number (numbers before)) in
    let not_l : v.number ≢ l =
    has-differs (numbers us) v.number l distinct.0 (has-least u.number (numbers before)) in
    let s = slow-step g l v.number (value_at us g) (value_at us l) v.value (rise (map shown us))
    (least-at_most-greatest u.number (numbers before)) slow.0 slow.1 h in
    rw (
      value-greater v us g not_g,
      value-less v us l not_l,
      numbers-shown before,
      value_at-shown us g,
      value_at-shown us l,
    ) s

-- the rise of what the samples show is the true value at the greatest number less that at the least
pub rise-slow : (v : NumberedValue) (before : List NumberedValue) → AreDistinct (numbers (v ∷ before))
    → AreSlow (v ∷ before)
    → rise (map shown (v ∷ before)) + value_at_least (v ∷ before) ≡ value_at_greatest (v ∷ before)
rise-slow v [] distinct slow = rw (int_eq-same v.number) (omega arith)
rise-slow v (u ∷ before) distinct slow =
    slow-more v u before distinct slow (rise-slow u before distinct.1 slow.2)

pub rise-is : (values : List NumberedValue) → AreDistinct (numbers values) → AreSlow values
    → rise (map shown values) + value_at_least values ≡ value_at_greatest values
rise-is [] distinct slow = refl
rise-is (v ∷ before) distinct slow = rise-slow v before distinct slow
