-- Issued is received, pending and lost; pending is below the width.
use Rattle.std.proofs.Common.{◌≡◌, ℕ, ◌+◌, ◌-◌, ◌<◌, ◌≤◌, inl, inr, Bool, true, false, not, ◌&&◌, List, [], ◌∷◌, length, ℤ, pos, ◌+ℤ◌, ◌-ℤ◌, ◌≤ℤ◌, ◌<ℤ◌, arith, refl, ap, ◌∙◌, sym}
use Rattle.std.specs.Prelude.{int_lt, int_le, unsigned_abs}
use Rattle.std.specs.List.{count_by}
use Rattle.std.proofs.lemmas.Int.{ints}
use Rattle.std.proofs.lemmas.Bool.{cases_Bool}
use Rattle.count_spec.specs.Windows.{has, greatest, least, AreDistinct}
use Rattle.count_spec.specs.Parts.{parts, parts_between, numbers_from, between}
use Rattle.count_spec.proofs.Integers.{int_le-true, int_le-false}
use Rattle.count_spec.proofs.Counts.{count_by-split, count_by-and-bound, count_by-none}
use Rattle.count_spec.proofs.Sets.{has-greatest-bound, has-least-bound, has-greatest, has-least, least-at_most-greatest}
use Rattle.count_spec.proofs.Between.{lacks, lacks-within, ends_fail, count_by-above, count_by-after, count_by-on}

-- at most the bound, or above it
int_le-not_lt : (bound n : ℤ) → int_le n bound ≡ not (int_lt bound n)
int_le-not_lt bound n =
    elim (cases_Bool (int_lt bound n)) [
      | inl e ↦ int_le-false n bound (omega (arith, ints)) ∙ sym (ap not e)
      | inr e ↦ int_le-true n bound (omega (arith, ints)) ∙ sym (ap not e)
    ]

-- what a set lacks between its ends, and its size
pub lacks-between : (set : List ℤ) (low high : ℤ) → low ≤ℤ high → AreDistinct set → has set low ≡ true
    → has set high ≡ true
    → ((k : ℤ) → has set k ≡ true → (low ≤ℤ k) × (k ≤ℤ high))
    → count_by (lacks set) (between low high) + length set ≡ unsigned_abs (high -ℤ low) + 1
unfolding between
lacks-between set low high order distinct first last within =
    let far : ℕ = unsigned_abs (high -ℤ low) in
    let end : high ≡ (low +ℤ pos far) = omega (arith, ints) in
    let a : lacks set low ≡ false = ap not first in
    let b : lacks set (low +ℤ pos far) ≡ false = ap (lacks set) (sym end) ∙ ap not last in
    let whole = lacks-within set low (far + 1) distinct
    (λ k e. inside far k end (within k e).0 (within k e).1) in
    let strict = ends_fail (lacks set) low far a b in
    omega (arith, whole, strict)
  where
    inside : (far : ℕ) (k : ℤ) → high ≡ (low +ℤ pos far) → low ≤ℤ k → k ≤ℤ high
        → (low ≤ℤ k) × (k <ℤ (low +ℤ pos (far + 1)))
    inside far k end a b = (a, omega (arith, ints))

-- issued is received, pending and lost
pub parts_between-add_up : (width : ℕ) (set : List ℤ) (low high : ℤ) → low ≤ℤ high → AreDistinct set
    → has set low ≡ true → has set high ≡ true → ((k : ℤ) → has set k ≡ true → (low ≤ℤ k) × (k ≤ℤ high))
    → (parts_between width set low high).issued
    ≡ (parts_between width set low high).received + (parts_between width set low high).pending
    + (parts_between width set low high).lost
parts_between-add_up width set low high order distinct first last within =
    let bound : ℤ = high -ℤ pos width in
    let split = count_by-split (lacks set) (λ (k : ℤ). int_lt bound k) (λ (k : ℤ). int_le k bound)
    (λ k. int_le-not_lt bound k) (between low high) in
    let whole = lacks-between set low high order distinct first last within in
    omega (arith, split, whole)

pub parts-add_up : (width : ℕ) (set : List ℤ) → AreDistinct set
    → (parts width set).issued
    ≡ (parts width set).received + (parts width set).pending + (parts width set).lost
parts-add_up width [] distinct = refl
parts-add_up width (n ∷ more) distinct =
    parts_between-add_up width (n ∷ more) (least (n ∷ more)) (greatest (n ∷ more))
    (least-at_most-greatest n more)
    distinct (has-least n more) (has-greatest n more)
    (λ k e. (has-least-bound n more k e, has-greatest-bound n more k e))

-- fewer numbers than the width lie above the greatest less the width and below the greatest
above-few : (width : ℕ) (low high : ℤ) → low ≤ℤ high → 1 ≤ width
    → count_by (λ k. int_lt (high -ℤ pos width) k) (between low high) < width
unfolding between
above-few width low high order one =
    let far : ℕ = unsigned_abs (high -ℤ low) in
    let end : high ≡ (low +ℤ pos far) = omega (arith, ints) in
    elim (cases_Bool (int_lt (high -ℤ pos width) (low +ℤ pos 1))) [
      | inl e ↦
          let all = count_by-above (high -ℤ pos width) (low +ℤ pos 1) (far - 1) (omega (arith, ints)) in
          let few : far - 1 < width = omega (arith, ints) in
          omega (arith, all, few)
      | inr e ↦
          let before : width ≤ far = omega (arith, ints) in
          let some = count_by-after (high -ℤ pos width) (low +ℤ pos 1) (far - 1) (far - width) (omega arith)
          (omega (arith, ints)) in
          omega (arith, some, before)
    ]

-- pending is below the width
pub parts-pending-bound : (width : ℕ) (set : List ℤ) → 1 ≤ width → (parts width set).pending < width
parts-pending-bound width [] one = omega arith
parts-pending-bound width (n ∷ more) one =
    let set : List ℤ = n ∷ more in
    let low : ℤ = least set in
    let high : ℤ = greatest set in
    let few = above-few width low high (least-at_most-greatest n more) one in
    let fewer = count_by-and-bound (lacks set) (λ (k : ℤ). int_lt (high -ℤ pos width) k) (between low high) in
    omega (arith, few, fewer)

pub parts-received : (width : ℕ) (set : List ℤ) (most : ℕ) → length set ≤ most
    → (parts width set).received ≤ most
parts-received width [] most h = omega arith
parts-received width (n ∷ more) most h = h

-- where all issued numbers lie in the window none is lost
none-below : (bound from : ℤ) (n : ℕ) (p : ℤ → Bool) → bound <ℤ from
    → count_by (λ k. p k && int_le k bound) (numbers_from from n) ≡ 0
none-below bound from n p above =
    count_by-on (λ k. p k && int_le k bound) (λ k. false) from n out ∙ count_by-none (numbers_from from n)
  where
    and-false : (a b : Bool) → b ≡ false → (a && b) ≡ false
    and-false true b e = e
    and-false false b e = refl

    out : (k : ℤ) → from ≤ℤ k → k <ℤ (from +ℤ pos n) → (p k && int_le k bound) ≡ false
    out k a b = and-false (p k) (int_le k bound) (int_le-false k bound (omega (arith, ints)))

parts_between-lost : (width : ℕ) (set : List ℤ) (low high : ℤ) → low ≤ℤ high
    → (parts_between width set low high).issued ≤ width
    → (parts_between width set low high).lost ≡ 0
unfolding between
parts_between-lost width set low high order small =
    none-below (high -ℤ pos width) (low +ℤ pos 1) (unsigned_abs (high -ℤ low) - 1) (lacks set)
    (omega (arith, ints))

pub parts-lost : (width : ℕ) (set : List ℤ) → (parts width set).issued ≤ width → (parts width set).lost ≡ 0
parts-lost width [] small = refl
parts-lost width (n ∷ more) small =
    parts_between-lost width (n ∷ more) (least (n ∷ more)) (greatest (n ∷ more))
    (least-at_most-greatest n more) small
