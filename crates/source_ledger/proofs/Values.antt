-- The rise, and the values at the greatest and the least number, after one more answer.
use Rattle.std.proofs.Common.{◌≡◌, ◌≢◌, ℕ, ◌+◌, false, List, [], ◌∷◌, map, ℤ, pos, ◌≤ℤ◌, ◌<ℤ◌, refl, sym, ◌∙◌, ap, subst, arith}
use Rattle.std.proofs.lemmas.Int.{ints}
use Rattle.std.proofs.lemmas.List.Sums.{sum_by-cons}
use Rattle.count_spec.specs.Windows.{near, greatest, least, has, place, answer, counted}
use Rattle.count_spec.specs.declared.entered.Place.TheVariants.{Only}
use Rattle.count_spec.specs.declared.entered.Entered.{Entered}
use Rattle.count_spec.specs.declared.entered.Entered.TheVariants.{First, Repeat, Late}
use Rattle.count_spec.specs.Rise.{NumberedValue, numbers, value_at_greatest, value_at_least, rise, with_value, first_values}
use Rattle.count_spec.proofs.Integers.{int_lt-true, int_lt-false, int_eq-same, int_eq-other}
use Rattle.count_spec.proofs.Sets.{has-greatest, has-least, has-differs, least-at_most-greatest}
use Rattle.count_spec.proofs.Answers.{number_answer-cases, place-cases}
use Rattle.count_spec.proofs.Rises.{first_values-numbers}
use Rattle.books_spec.specs.Views.{last_value}
use Rattle.source_ledger.specs.Rises.{greatest_after, least_after, rise_after, risen, ShowsRise}
use Rattle.source_ledger.specs.declared.rise.Rise.{Rise}

-- the values, with one more after this answer
pub record After (a : Entered) (v : ℕ) (values : List NumberedValue) : Type 0 where
  pub rises : rise (with_value a v values)
      ≡ rise values + rise_after a v (value_at_greatest values) (value_at_least values)
  pub greatest_is : value_at_greatest (with_value a v values) ≡ greatest_after a v (value_at_greatest values)
  pub least_is : value_at_least (with_value a v values) ≡ least_after a v (value_at_least values)

after-none : (a : Entered) (v : ℕ) (values : List NumberedValue) → with_value a v values ≡ values
    → rise_after a v (value_at_greatest values) (value_at_least values) ≡ 0
    → greatest_after a v (value_at_greatest values) ≡ value_at_greatest values
    → least_after a v (value_at_least values) ≡ value_at_least values → After a v values
after-none a v values same none g l = record {
  rises = ap rise same ∙ (omega (arith, none));
  greatest_is = ap value_at_greatest same ∙ sym g;
  least_is = ap value_at_least same ∙ sym l;
}

-- the first of all
after-only : (v : ℕ) (k : ℤ) → After (First Only k) v []
after-only v k = record { rises = refl; greatest_is = rw (int_eq-same k) refl; least_is = rw (int_eq-same k) refl }

-- one more number after some others, by its place
after-place : (u : NumberedValue) (before : List NumberedValue) (v : ℕ) (k : ℤ)
    → has (numbers (u ∷ before)) k ≡ false → After (First (place (numbers (u ∷ before)) k) k) v (u ∷ before)
after-place u before v k out =
    let set : List ℤ = numbers (u ∷ before) in
    let order : least set ≤ℤ greatest set = least-at_most-greatest u.number (numbers before) in
    let not_g : k ≢ greatest set = has-differs set k (greatest set) out (has-greatest u.number (numbers before)) in
    let not_l : k ≢ least set = has-differs set k (least set) out (has-least u.number (numbers before)) in
    place-cases (λ p. After (First p k) v (u ∷ before)) set k
    (λ above. record {
      rises = rw (int_lt-true (greatest set) k above, int_lt-false k (least set) (omega (arith, ints))) (omega arith);
      greatest_is = rw (int_lt-true (greatest set) k above, int_eq-same k) refl;
      least_is = rw (int_lt-true (least set) k (omega (arith, ints)), int_eq-other k (least set) not_l) refl;
    })
    (λ up below. record {
      rises = rw (int_lt-false (greatest set) k up, int_lt-true k (least set) below) (omega arith);
      greatest_is = rw (int_lt-false (greatest set) k up, int_eq-other k (greatest set) not_g) refl;
      least_is = rw (int_lt-false (least set) k (omega (arith, ints)), int_eq-same k) refl;
    })
    (λ up down. record {
      rises = rw (int_lt-false (greatest set) k up, int_lt-false k (least set) down) (omega arith);
      greatest_is = rw (int_lt-false (greatest set) k up, int_eq-other k (greatest set) not_g) refl;
      least_is = rw (int_lt-true (least set) k (above-least (least set) k down not_l), int_eq-other k (least set) not_l) refl;
    })
  where
    above-least : (l k : ℤ) → l ≤ℤ k → k ≢ l → l <ℤ k
    above-least l k down apart = omega (arith, ints)

-- the answer to a mark, whose numbers the values have
pub after-answer : (width m v : ℕ) (values : List NumberedValue) (set : List ℤ) → numbers values ≡ set
    → After (answer width set m) v values
after-answer width m v [] set e = subst (λ (s : List ℤ). After (answer width s m) v []) e (after-only v (pos m))
after-answer width m v (u ∷ before) set e =
    subst (λ (s : List ℤ). After (answer width s m) v (u ∷ before)) e
    (number_answer-cases (λ a. After a v (u ∷ before)) width (numbers (u ∷ before))
    (near m (greatest (numbers (u ∷ before))))
    (λ late. after-none Late v (u ∷ before) refl refl refl refl)
    (λ up member. after-none Repeat v (u ∷ before) refl refl refl refl)
    (λ up out. after-place u before v (near m (greatest (numbers (u ∷ before)))) out))

-- ---- over stretches

pub shows-risen : {X : Type 0} (mark value : X → ℕ) (width : ℕ) (r : Rise) (x : X) (current : List X)
    (closed : List (List X)) → ShowsRise mark value width r (current ∷ closed)
    → ShowsRise mark value width (risen r (answer width (counted width (map mark current)) (mark x)) (value x))
    ((x ∷ current) ∷ closed)
shows-risen {X} mark value width r x (c ∷ cs) closed shows =
    let values : List NumberedValue = first_values mark value width (c ∷ cs) in
    let after = after-answer width (mark x) (value x) values (counted width (map mark (c ∷ cs)))
    (first_values-numbers mark value width (c ∷ cs)) in
    let old = sum_by-cons (λ (b : List X). rise (first_values mark value width b)) (c ∷ cs) closed in
    let new = sum_by-cons (λ (b : List X). rise (first_values mark value width b)) (x ∷ c ∷ cs) closed in
    let total = shows.total_is in
    let step = after.rises in
    rw (shows.greatest_is, shows.least_is) (record {
      total_is = omega (arith, total, old, new, step);
      greatest_is = sym after.greatest_is;
      least_is = sym after.least_is;
    })
shows-risen {X} mark value width r x [] closed shows =
    let old = sum_by-cons (λ (b : List X). rise (first_values mark value width b)) [] closed in
    let new = sum_by-cons (λ (b : List X). rise (first_values mark value width b)) (x ∷ []) closed in
    let total = shows.total_is in
    record {
      total_is = omega (arith, total, old, new);
      greatest_is = rw (int_eq-same (pos (mark x))) refl;
      least_is = rw (int_eq-same (pos (mark x))) refl;
    }

-- a stretch begins
pub shows-opened : {X : Type 0} (mark value : X → ℕ) (width : ℕ) (r : Rise) (x : X) (closed : List (List X))
    → ShowsRise mark value width r closed
    → ShowsRise mark value width (risen r (First Only (pos (mark x))) (value x)) ((x ∷ []) ∷ closed)
shows-opened {X} mark value width r x closed shows =
    let new = sum_by-cons (λ (b : List X). rise (first_values mark value width b)) (x ∷ []) closed in
    let total = shows.total_is in
    record {
      total_is = omega (arith, total, new);
      greatest_is = rw (int_eq-same (pos (mark x))) refl;
      least_is = rw (int_eq-same (pos (mark x))) refl;
    }

pub shows-last : {X : Type 0} (mark value : X → ℕ) (width rate : ℕ) (x : X) (current : List X)
    (closed : List (List X)) → rate ≡ last_value mark value width (current ∷ closed)
    → greatest_after (answer width (counted width (map mark current)) (mark x)) (value x) rate
    ≡ last_value mark value width ((x ∷ current) ∷ closed)
shows-last mark value width rate x (c ∷ cs) closed is =
    let values : List NumberedValue = first_values mark value width (c ∷ cs) in
    let after = after-answer width (mark x) (value x) values (counted width (map mark (c ∷ cs)))
    (first_values-numbers mark value width (c ∷ cs)) in
    ap (greatest_after (answer width (counted width (map mark (c ∷ cs))) (mark x)) (value x)) is
    ∙ sym after.greatest_is
shows-last mark value width rate x [] closed is = rw (int_eq-same (pos (mark x))) refl

pub shows-first : {X : Type 0} (mark value : X → ℕ) (width : ℕ) (x : X) (closed : List (List X))
    → value x ≡ last_value mark value width ((x ∷ []) ∷ closed)
shows-first mark value width x closed = rw (int_eq-same (pos (mark x))) refl
