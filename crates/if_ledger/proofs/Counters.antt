-- One counter after one more sample of a run.
use Rattle.std.proofs.Common.{◌≡◌, ◌≢◌, ℕ, ◌+◌, false, List, [], ◌∷◌, ℤ, ◌≤ℤ◌, ◌<ℤ◌, refl, sym, ◌∙◌, ap, subst, arith}
use Rattle.std.proofs.lemmas.Int.{ints}
use Rattle.std.proofs.lemmas.List.Sums.{sum_by-cons}
use Rattle.count_spec.specs.Windows.{greatest, least, has, place}
use Rattle.count_spec.specs.declared.entered.Place.{Place}
use Rattle.count_spec.specs.Rise.{NumberedValue, numbers, value_at_greatest, value_at_least}
use Rattle.count_spec.proofs.Integers.{int_lt-true, int_lt-false, int_eq-same, int_eq-other}
use Rattle.count_spec.proofs.Sets.{has-greatest, has-least, has-differs, least-at_most-greatest}
use Rattle.count_spec.proofs.Answers.{place-cases}
use Rattle.count_spec.specs.CounterRise.{counter_rise}
use Rattle.books_spec.specs.InterfaceRise.{InterfaceCounter, NumberedCounters, values_of, rise_of}
use Rattle.if_ledger.specs.Counters.{greatest_after, least_after, rise_after}
use Rattle.if_ledger.specs.Ledgers.{ShowsCounter, numbers_in}

-- the values, with one more at this number
record After (modulus : ℕ) (p : Place) (n : ℤ) (v : ℕ) (before : List NumberedValue) : Type 0 where
  rises : counter_rise modulus (record { number = n; value = v } ∷ before)
      ≡ counter_rise modulus before + rise_after modulus p v (value_at_greatest before) (value_at_least before)
  greatest_is : value_at_greatest (record { number = n; value = v } ∷ before)
      ≡ greatest_after p v (value_at_greatest before)
  least_is : value_at_least (record { number = n; value = v } ∷ before) ≡ least_after p v (value_at_least before)

after-place : (modulus : ℕ) (u : NumberedValue) (before : List NumberedValue) (v : ℕ) (k : ℤ)
    → has (numbers (u ∷ before)) k ≡ false → After modulus (place (numbers (u ∷ before)) k) k v (u ∷ before)
after-place modulus u before v k out =
    let set : List ℤ = numbers (u ∷ before) in
    let order : least set ≤ℤ greatest set = least-at_most-greatest u.number (numbers before) in
    let not_g : k ≢ greatest set = has-differs set k (greatest set) out (has-greatest u.number (numbers before)) in
    let not_l : k ≢ least set = has-differs set k (least set) out (has-least u.number (numbers before)) in
    place-cases (λ p. After modulus p k v (u ∷ before)) set k
    (λ above. record {
      rises = rw (int_lt-true (greatest set) k above, int_lt-false k (least set) (omega (arith, ints))) (omega arith);
      greatest_is = rw (int_lt-true (greatest set) k above, int_eq-same k) refl;
      least_is = rw (int_lt-true (least set) k (omega (arith, ints)), int_eq-other k (least set) not_l) refl;
    })
    (λ up below. record {
      rises = rw (int_lt-false (greatest set) k up, int_lt-true k (least set) below) (omega arith);
      greatest_is = rw (int_lt-false (greatest set) k up, int_eq-other k (greatest set) not_g) refl;
      least_is = rw (int_lt-false (least set) k (omega (arith, ints)), int_eq-same k) refl;
    })
    (λ up down. record {
      rises = rw (int_lt-false (greatest set) k up, int_lt-false k (least set) down) (omega arith);
      greatest_is = rw (int_lt-false (greatest set) k up, int_eq-other k (greatest set) not_g) refl;
      least_is = rw (int_lt-true (least set) k (above-least (least set) k down not_l), int_eq-other k (least set) not_l) refl;
    })
  where
    above-least : (l k : ℤ) → l ≤ℤ k → k ≢ l → l <ℤ k
    above-least l k down apart = omega (arith, ints)

numbers-same : (counter : InterfaceCounter) (run : List NumberedCounters) → numbers (values_of counter run) ≡ numbers_in run
numbers-same counter [] = refl
numbers-same counter (x ∷ before) = ap (λ (ns : List ℤ). x.number ∷ ns) (numbers-same counter before)

-- the first sample of a run
pub counter-begins : (counter : InterfaceCounter) (total g l : ℕ) (x : NumberedCounters) (runs : List (List NumberedCounters))
    → ShowsCounter counter total g l runs
    → ShowsCounter counter (total + 0) (counter.value x.counters) (counter.value x.counters) ((x ∷ []) ∷ runs)
counter-begins counter total g l x runs shows =
    let all = sum_by-cons (rise_of counter) (x ∷ []) runs in
    let before = shows.total_is in
    record {
      total_is = omega (arith, all, before);
      greatest_is = rw (int_eq-same x.number) refl;
      least_is = rw (int_eq-same x.number) refl;
    }

-- one more of the current run
pub counter-goes_on : (counter : InterfaceCounter) (total g l : ℕ) (x u : NumberedCounters) (before : List NumberedCounters)
    (closed : List (List NumberedCounters)) → has (numbers_in (u ∷ before)) x.number ≡ false
    → ShowsCounter counter total g l ((u ∷ before) ∷ closed)
    → ShowsCounter counter
    (total + rise_after counter.modulus (place (numbers_in (u ∷ before)) x.number) (counter.value x.counters) g l)
    (greatest_after (place (numbers_in (u ∷ before)) x.number) (counter.value x.counters) g)
    (least_after (place (numbers_in (u ∷ before)) x.number) (counter.value x.counters) l) ((x ∷ u ∷ before) ∷ closed)
counter-goes_on counter total g l x u before closed out shows =
    let same : numbers (values_of counter (u ∷ before)) ≡ numbers_in (u ∷ before) = numbers-same counter (u ∷ before) in
    let new : has (numbers (values_of counter (u ∷ before))) x.number ≡ false =
    ap (λ (ns : List ℤ). has ns x.number) same ∙ out in
    let after : After counter.modulus (place (numbers_in (u ∷ before)) x.number) x.number (counter.value x.counters)
    (values_of counter (u ∷ before)) =
    subst (λ (ns : List ℤ). After counter.modulus (place ns x.number) x.number (counter.value x.counters)
    (values_of counter (u ∷ before))) same
    (after-place counter.modulus (record { number = u.number; value = counter.value u.counters }) (values_of counter before)
    (counter.value x.counters) x.number new) in
    let old = sum_by-cons (rise_of counter) (u ∷ before) closed in
    let now = sum_by-cons (rise_of counter) (x ∷ u ∷ before) closed in
    let total_is = shows.total_is in
    let step = after.rises in
    rw (shows.greatest_is, shows.least_is) (record {
      total_is = omega (arith, total_is, old, now, step);
      greatest_is = sym after.greatest_is;
      least_is = sym after.least_is;
    })
