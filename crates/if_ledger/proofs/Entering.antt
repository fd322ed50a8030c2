-- A ledger after one more sample.
use Rattle.std.proofs.Common.{◌≡◌, ℕ, ◌+◌, ◌<◌, ◌≤◌, false, cond, List, [], ◌∷◌, length, Bool, map, ℤ, ◌≤ℤ◌, ◌<ℤ◌, refl, sym, ◌∙◌, ap, subst, arith}
use Rattle.std.specs.Prelude.{int_lt}
use Rattle.std.specs.List.{sum_by}
use Rattle.std.proofs.lemmas.Bool.{lt-ltb, le-ltb}
use Rattle.std.specs.Int.{int_min}
use Rattle.std.proofs.lemmas.Int.{ints, clamps}
use Rattle.std.proofs.lemmas.List.Sums.{sum_by-cons}
use Rattle.count_spec.specs.Windows.{greatest, least, has, place}
use Rattle.count_spec.specs.declared.entered.Place.{Place}
use Rattle.count_spec.specs.declared.entered.Place.TheVariants.{Only, Newest, Inside, Least}
use Rattle.count_spec.proofs.Integers.{int_lt-true, int_lt-false}
use Rattle.count_spec.proofs.Sets.{least-at_most-greatest}
use Rattle.count_spec.proofs.Answers.{place-cases}
use Rattle.books_spec.specs.InterfaceRise.{NumberedCounters, of_32_bits, of_64_bits}
use Rattle.if_ledger.specs.Counters.{greatest_after, least_after, rises_after}
use Rattle.if_ledger.specs.Ledgers.{IfState, StandsFor, ShowsRises, numbers_in, place_in}
use Rattle.if_ledger.specs.declared.rises.Rises.{Rises}
use Rattle.if_ledger.proofs.Counters.{counter-begins, counter-goes_on}

-- what is in a ledger after a sample of a run was entered
pub record Enters (old new : IfState) (run : ℕ) (x : NumberedCounters) : Type 0 where
  pub samples_is : new.samples ≡ old.samples + 1
  pub greatest_is : new.greatest ≡ greatest_after (place_in old run x.number) x.number old.greatest
  pub least_is : new.least ≡ least_after (place_in old run x.number) x.number old.least
  pub rises_is : new.rises ≡ rises_after old.rises (place_in old run x.number) x.counters

rises-begin : (r : Rises) (x : NumberedCounters) (runs : List (List NumberedCounters)) → ShowsRises r runs
    → ShowsRises (rises_after r Only x.counters) ((x ∷ []) ∷ runs)
rises-begin r x runs shows = record {
  in_octets = counter-begins (of_64_bits (λ c. c.in_octets)) r.in_octets.total r.in_octets.at_greatest r.in_octets.at_least x runs
      shows.in_octets;
  in_ucast = counter-begins (of_32_bits (λ c. c.in_ucast)) r.in_ucast.total r.in_ucast.at_greatest r.in_ucast.at_least x runs
      shows.in_ucast;
  in_multicast = counter-begins (of_32_bits (λ c. c.in_multicast)) r.in_multicast.total r.in_multicast.at_greatest r.in_multicast.at_least x runs
      shows.in_multicast;
  in_broadcast = counter-begins (of_32_bits (λ c. c.in_broadcast)) r.in_broadcast.total r.in_broadcast.at_greatest r.in_broadcast.at_least x runs
      shows.in_broadcast;
  in_discards = counter-begins (of_32_bits (λ c. c.in_discards)) r.in_discards.total r.in_discards.at_greatest r.in_discards.at_least x runs
      shows.in_discards;
  in_errors = counter-begins (of_32_bits (λ c. c.in_errors)) r.in_errors.total r.in_errors.at_greatest r.in_errors.at_least x runs
      shows.in_errors;
  in_unknown = counter-begins (of_32_bits (λ c. c.in_unknown)) r.in_unknown.total r.in_unknown.at_greatest r.in_unknown.at_least x runs
      shows.in_unknown;
  out_octets = counter-begins (of_64_bits (λ c. c.out_octets)) r.out_octets.total r.out_octets.at_greatest r.out_octets.at_least x runs
      shows.out_octets;
  out_ucast = counter-begins (of_32_bits (λ c. c.out_ucast)) r.out_ucast.total r.out_ucast.at_greatest r.out_ucast.at_least x runs
      shows.out_ucast;
  out_multicast = counter-begins (of_32_bits (λ c. c.out_multicast)) r.out_multicast.total r.out_multicast.at_greatest r.out_multicast.at_least x runs
      shows.out_multicast;
  out_broadcast = counter-begins (of_32_bits (λ c. c.out_broadcast)) r.out_broadcast.total r.out_broadcast.at_greatest r.out_broadcast.at_least x runs
      shows.out_broadcast;
  out_discards = counter-begins (of_32_bits (λ c. c.out_discards)) r.out_discards.total r.out_discards.at_greatest r.out_discards.at_least x runs
      shows.out_discards;
  out_errors = counter-begins (of_32_bits (λ c. c.out_errors)) r.out_errors.total r.out_errors.at_greatest r.out_errors.at_least x runs
      shows.out_errors;
}

rises-go_on : (r : Rises) (x u : NumberedCounters) (before : List NumberedCounters) (closed : List (List NumberedCounters))
    → has (numbers_in (u ∷ before)) x.number ≡ false → ShowsRises r ((u ∷ before) ∷ closed)
    → ShowsRises (rises_after r (place (numbers_in (u ∷ before)) x.number) x.counters) ((x ∷ u ∷ before) ∷ closed)
rises-go_on r x u before closed out shows = record {
  in_octets = counter-goes_on (of_64_bits (λ c. c.in_octets)) r.in_octets.total r.in_octets.at_greatest r.in_octets.at_least x u before
      closed out shows.in_octets;
  in_ucast = counter-goes_on (of_32_bits (λ c. c.in_ucast)) r.in_ucast.total r.in_ucast.at_greatest r.in_ucast.at_least x u before
      closed out shows.in_ucast;
  in_multicast = counter-goes_on (of_32_bits (λ c. c.in_multicast)) r.in_multicast.total r.in_multicast.at_greatest r.in_multicast.at_least x u before
      closed out shows.in_multicast;
  in_broadcast = counter-goes_on (of_32_bits (λ c. c.in_broadcast)) r.in_broadcast.total r.in_broadcast.at_greatest r.in_broadcast.at_least x u before
      closed out shows.in_broadcast;
  in_discards = counter-goes_on (of_32_bits (λ c. c.in_discards)) r.in_discards.total r.in_discards.at_greatest r.in_discards.at_least x u before
      closed out shows.in_discards;
  in_errors = counter-goes_on (of_32_bits (λ c. c.in_errors)) r.in_errors.total r.in_errors.at_greatest r.in_errors.at_least x u before
      closed out shows.in_errors;
  in_unknown = counter-goes_on (of_32_bits (λ c. c.in_unknown)) r.in_unknown.total r.in_unknown.at_greatest r.in_unknown.at_least x u before
      closed out shows.in_unknown;
  out_octets = counter-goes_on (of_64_bits (λ c. c.out_octets)) r.out_octets.total r.out_octets.at_greatest r.out_octets.at_least x u before
      closed out shows.out_octets;
  out_ucast = counter-goes_on (of_32_bits (λ c. c.out_ucast)) r.out_ucast.total r.out_ucast.at_greatest r.out_ucast.at_least x u before
      closed out shows.out_ucast;
  out_multicast = counter-goes_on (of_32_bits (λ c. c.out_multicast)) r.out_multicast.total r.out_multicast.at_greatest r.out_multicast.at_least x u before
      closed out shows.out_multicast;
  out_broadcast = counter-goes_on (of_32_bits (λ c. c.out_broadcast)) r.out_broadcast.total r.out_broadcast.at_greatest r.out_broadcast.at_least x u before
      closed out shows.out_broadcast;
  out_discards = counter-goes_on (of_32_bits (λ c. c.out_discards)) r.out_discards.total r.out_discards.at_greatest r.out_discards.at_least x u before
      closed out shows.out_discards;
  out_errors = counter-goes_on (of_32_bits (λ c. c.out_errors)) r.out_errors.total r.out_errors.at_greatest r.out_errors.at_least x u before
      closed out shows.out_errors;
}

sum-more : (x : NumberedCounters) (current : List NumberedCounters) (closed : List (List NumberedCounters)) (n m : ℕ) → m ≡ n + 1
    → n ≡ sum_by length (current ∷ closed) → m ≡ sum_by length ((x ∷ current) ∷ closed)
sum-more x current closed n m more is =
    let a = sum_by-cons (λ (run : List NumberedCounters). length run) current closed in
    let b = sum_by-cons (λ (run : List NumberedCounters). length run) (x ∷ current) closed in
    omega (arith, a, b, more, is)

sum-first : (x : NumberedCounters) (runs : List (List NumberedCounters)) (n m : ℕ) → m ≡ n + 1
    → n ≡ sum_by length runs → m ≡ sum_by length ((x ∷ []) ∷ runs)
sum-first x runs n m more is =
    let b = sum_by-cons (λ (run : List NumberedCounters). length run) (x ∷ []) runs in
    omega (arith, b, more, is)

-- ---- a later run

pub run-begins : (old new : IfState) (run : ℕ) (x : NumberedCounters) (runs : List (List NumberedCounters)) → old.run < run
    → StandsFor old runs → Enters old new run x → StandsFor new ((x ∷ []) ∷ runs)
run-begins old new run x runs later st e =
    let only : place_in old run x.number ≡ Only =
    ap (λ (b : Bool). cond b Only (cond (int_lt old.greatest x.number) Newest (cond (int_lt x.number old.least) Least Inside)))
    (lt-ltb old.run run later) in
    record {
      samples_are = sum-first x runs old.samples new.samples e.samples_is st.samples_are;
      greatest_is = e.greatest_is ∙ ap (λ (p : Place). greatest_after p x.number old.greatest) only;
      least_is = e.least_is ∙ ap (λ (p : Place). least_after p x.number old.least) only;
      rises_are = subst (λ (r : Rises). ShowsRises r ((x ∷ []) ∷ runs))
          (sym (e.rises_is ∙ ap (λ (p : Place). rises_after old.rises p x.counters) only))
          (rises-begin old.rises x runs st.rises_are);
    }

-- ---- the current run

greatest-moved : (u : NumberedCounters) (before : List NumberedCounters) (n : ℤ)
    → greatest_after (place (numbers_in (u ∷ before)) n) n (greatest (numbers_in (u ∷ before)))
    ≡ greatest (n ∷ numbers_in (u ∷ before))
greatest-moved u before n =
    let set : List ℤ = numbers_in (u ∷ before) in
    place-cases (λ p. greatest_after p n (greatest set) ≡ greatest (n ∷ set)) set n
    (λ above. rw (int_lt-true (greatest set) n above) refl)
    (λ up below. rw (int_lt-false (greatest set) n up) refl)
    (λ up down. rw (int_lt-false (greatest set) n up) refl)

least-moved : (u : NumberedCounters) (before : List NumberedCounters) (n : ℤ)
    → least_after (place (numbers_in (u ∷ before)) n) n (least (numbers_in (u ∷ before)))
    ≡ least (n ∷ numbers_in (u ∷ before))
least-moved u before n =
    let set : List ℤ = numbers_in (u ∷ before) in
    let order : least set ≤ℤ greatest set = least-at_most-greatest u.number (map (λ (x : NumberedCounters). x.number) before) in
    place-cases (λ p. least_after p n (least set) ≡ least (n ∷ set)) set n
    (λ above. at-most (least set) n (omega (arith, ints)))
    (λ up below. below-least (least set) n below)
    (λ up down. at-most (least set) n down)
  where
    below-least : (l n : ℤ) → n <ℤ l → n ≡ int_min n l
    below-least l n below = omega (arith, ints, clamps)

    at-most : (l n : ℤ) → l ≤ℤ n → l ≡ int_min n l
    at-most l n down = omega (arith, ints, clamps)

pub run-goes_on : (old new : IfState) (run : ℕ) (x u : NumberedCounters) (before : List NumberedCounters) (closed : List (List NumberedCounters))
    → run ≡ old.run → has (numbers_in (u ∷ before)) x.number ≡ false → StandsFor old ((u ∷ before) ∷ closed)
    → Enters old new run x → StandsFor new ((x ∷ u ∷ before) ∷ closed)
run-goes_on old new run x u before closed same out st e =
    let set : List ℤ = numbers_in (u ∷ before) in
    let here : place_in old run x.number ≡ place set x.number =
    ap (λ (b : Bool). cond b Only (cond (int_lt old.greatest x.number) Newest (cond (int_lt x.number old.least) Least Inside)))
    (le-ltb old.run run (omega (arith, same)))
    ∙ (λ i. cond (int_lt (st.greatest_is i) x.number) Newest (cond (int_lt x.number (st.least_is i)) Least Inside)) in
    record {
      samples_are = sum-more x (u ∷ before) closed old.samples new.samples e.samples_is st.samples_are;
      greatest_is = e.greatest_is ∙ (λ i. greatest_after (here i) x.number (st.greatest_is i)) ∙ greatest-moved u before x.number;
      least_is = e.least_is ∙ (λ i. least_after (here i) x.number (st.least_is i)) ∙ least-moved u before x.number;
      rises_are = subst (λ (r : Rises). ShowsRises r ((x ∷ u ∷ before) ∷ closed))
          (sym (e.rises_is ∙ ap (λ (p : Place). rises_after old.rises p x.counters) here))
          (rises-go_on old.rises x u before closed out st.rises_are);
    }

pub run-goes : (old new : IfState) (run : ℕ) (x : NumberedCounters) (current : List NumberedCounters)
    (closed : List (List NumberedCounters)) → run ≡ old.run → 1 ≤ length current
    → has (numbers_in current) x.number ≡ false → StandsFor old (current ∷ closed) → Enters old new run x
    → StandsFor new ((x ∷ current) ∷ closed)
run-goes old new run x [] closed same some out st e = absurd (omega (arith, some))
run-goes old new run x (u ∷ before) closed same some out st e = run-goes_on old new run x u before closed same out st e
