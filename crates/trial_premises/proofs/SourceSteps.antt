-- One sample more of a source.
use Rattle.std.proofs.Common.{◌≡◌, ◌∙◌, ◌-◌, ◌^◌, ◌≤◌, ◌<◌, ℕ, inl, inr, Bool, true, false, cond, not, ◌&&◌, ◌||◌, Option, Some, None, List, [], ◌∷◌, map, pos, refl, sym, ap, subst, arith}
use Rattle.std.specs.Prelude.{◌==◌, nat_lt, nat_le}
use Rattle.std.specs.List.{AllByRecursion, list_all}
use Rattle.std.proofs.lemmas.Option.{same_Some}
use Rattle.std.proofs.lemmas.Bool.{cases_order, cases_Bool, lt-ltb, le-ltb, leb-true, and_parts}
use Rattle.count_spec.specs.Rise.{NumberedValue}
use Rattle.count_spec.specs.Windows.{greatest}
use Rattle.count_spec.specs.Stretches.{placed}
use Rattle.count_spec.specs.TrueStretches.{newest_index, is_past, true_stretches, true_place}
use Rattle.count_spec.specs.declared.stretch_place.StretchPlace.{StretchPlace}
use Rattle.count_spec.specs.declared.stretch_place.StretchPlace.TheVariants.{Current, Next, Stale}
use Rattle.count_spec.proofs.TrueStretches.{true_stretches-step}
use Rattle.account_spec.specs.Arrivals.{Arrived, generation_of, sample_number, sample_numbers}
use Rattle.account_spec.specs.Accounts.{kept, values, pool_of, drops_of}
use Rattle.account_spec.specs.Apparent.{first_generation, newest_number}
use Rattle.account_spec.specs.TrueNumbers.{is_late}
use Rattle.trial_spec.specs.CloseTests.{Ends, both_ends, ends_of, ends_with, rises_from, rise_by_less, rise_slowly, are_close_each, are_close_samples}
use Rattle.trial_spec.specs.ApparentTests.{opener_of, does_not_rise, is_not_before, is_apparent_after, are_apparent}
use Rattle.trial_spec.proofs.Latest.{own-later, own-same, own-earlier, own-one}
use Rattle.trial_premises.specs.declared.delivered.TrueSample.{TrueSample}
use Rattle.trial_premises.specs.declared.places.TruePlace.{TruePlace}
use Rattle.trial_premises.specs.ByIndex as slots
use Rattle.trial_premises.specs.Newest.{as_int, greatest_of, newer_of, KeepsNewest}
use Rattle.trial_premises.specs.Places.{place_shown, opener_shown}
use Rattle.trial_premises.specs.Ends.{ends_in}
use Rattle.trial_premises.specs.Window.{is_behind}
use Rattle.trial_premises.specs.Samples.{SourceState, IsArrived, pool_in, drops_in, newest_samples, Shows, is_apparent_in, is_close_in, Begins, Opens, Stays, Passes, Counts, GoesOn}
use Rattle.trial_premises.specs.Sources.{StandsFor}
use Rattle.trial_premises.proofs.Numbers.{greatest-more, keeps-more}
use Rattle.trial_premises.proofs.BootSteps.{close-more}
use Rattle.trial_premises.proofs.WindowSteps.{behind-is}

abbrev newest : List Arrived → ℕ
newest xs = newest_index generation_of xs

abbrev rises_all : ℕ → List Arrived → Bool
rises_all width xs = list_all (rise_slowly width) (true_stretches generation_of xs)

-- ---- values of one generation

-- the ends with one value more
ends-more : (e : Ends) (v : NumberedValue) (vs : List NumberedValue) → ends_in vs ≡ Some e
    → ends_in (v ∷ vs) ≡ Some (ends_with e v)
ends-more e v [] h = absurd cc
ends-more e v (u ∷ before) h =
    let same : ends_of u before ≡ e = same_Some (ends_of u before) e h in
    ap (λ (x : Ends). Some (ends_with x v)) same

-- whether a further value rises
rise-more : (modulus : ℕ) (e : Ends) (v : NumberedValue) (vs : List NumberedValue) → ends_in vs ≡ Some e
    → rise_by_less modulus (v ∷ vs) ≡ (rises_from modulus e v && rise_by_less modulus vs)
rise-more modulus e v [] h = absurd cc
rise-more modulus e v (u ∷ before) h =
    let same : ends_of u before ≡ e = same_Some (ends_of u before) e h in
    ap (λ (x : Ends). rises_from modulus x v && rise_by_less modulus (u ∷ before)) same

-- ---- answers, one part more

with-one : (p q r c : Bool) → (((p && q) && r) && c) ≡ (p && ((q && r) && c))
with-one true q r c = refl
with-one false q r c = refl

none : (x c : Bool) → ((x && false) && c) ≡ false
none true c = refl
none false c = refl

with-rise : (p q a f b g r c : Bool)
    → (((p && q) && (((a && f) && (b && g)) && r)) && c) ≡ ((a && b) && (p && ((q && ((f && g) && r)) && c)))
with-rise p q false f b g r c = none (p && q) c
with-rise p q true true false g r c = none (p && q) c
with-rise p q true false false g r c = none (p && q) c
with-rise p q true f true g r c = with-one p q ((f && g) && r) c

-- ---- one sample more of a boot

shown-opener : (b : Bool) (at : TruePlace) (o : Option TruePlace)
    → opener_shown (cond b (Some at) o) ≡ cond b (Some (place_shown at)) (opener_shown o)
shown-opener true at o = refl
shown-opener false at o = refl

-- the samples with it stand so, and their answers are those kept
record Stepped (width : ℕ) (now : SourceState) (xs : List Arrived) (c : Bool) : Type 0 where
  shows : Shows width now xs
  close : now.close ≡ (are_close_samples width xs && c)

module _ (width : ℕ) (at : TruePlace) (t : TrueSample) (a : Arrived) (was now : SourceState) (y : Arrived)
    (before : List Arrived) (h : IsArrived t at a) (sh : Shows width was (y ∷ before)) (counts : 1 ≤ t.generation)
    (step : GoesOn width at t was now) (c : Bool) (closes : was.close ≡ (are_close_samples width (y ∷ before) && c)) where
  abbrev xs : List Arrived
  xs = y ∷ before

  abbrev n : ℕ
  n = newest_index generation_of xs

  abbrev pool_shown : NumberedValue
  pool_shown = record { number = sample_number a; value = pool_of a }

  abbrev drops_shown : NumberedValue
  drops_shown = record { number = sample_number a; value = drops_of a }

  pool-is : pool_shown ≡ pool_in t
  pool-is = λ j. record { number = pos (h.number j); value = h.pool j }

  drops-is : drops_shown ≡ drops_in t
  drops-is = λ j. record { number = pos (h.number j); value = h.drops j }

  numbered : AllByRecursion (λ (x : Arrived). 1 ≤ generation_of x) (a ∷ xs)
  numbered = (subst (λ (g : ℕ). 1 ≤ g) (sym h.generation) counts, sh.numbered)

  stretches-are : true_stretches generation_of (a ∷ xs) ≡ placed (true_place generation_of xs a) a (sh.current ∷ sh.closed)
  stretches-are = true_stretches-step generation_of a xs numbered
      ∙ ap (λ (ss : List (List Arrived)). placed (true_place generation_of xs a) a ss) sh.stretches_are

  place-is : (p q : Bool) → is_past generation_of xs a ≡ p → nat_lt n (generation_of a) ≡ q
      → true_place generation_of xs a ≡ cond p Stale (cond q Next Current)
  place-is p q e f = λ j. cond (e j) Stale (cond (f j) Next Current)

  numbers-are : KeepsNewest generation_of sample_number now.numbers (a ∷ xs)
  numbers-are = keeps-more generation_of sample_number was.numbers now.numbers a xs t.generation t.number h.generation
      (ap pos h.number) step.numbers_are sh.numbers_are

  first-is : first_generation (a ∷ xs) ≡ now.first
  first-is = sh.first_is ∙ sym step.first_is

  -- whether it is close to the newest of its generation, and those before it were to theirs
  abbrev near : Bool
  near = is_close_in was t

  near-is : (near && are_close_each generation_of sample_number xs) ≡ are_close_each generation_of sample_number (a ∷ xs)
  near-is = close-more generation_of sample_number was.numbers a xs t.generation t.number
      (are_close_each generation_of sample_number xs) h.generation (ap pos h.number) sh.numbers_are refl

  -- the answers after it, where these stretches are
  close-by : (ss : List (List Arrived)) → true_stretches generation_of (a ∷ xs) ≡ ss
      → (((near && are_close_each generation_of sample_number xs) && list_all (rise_slowly width) ss) && c)
      ≡ (are_close_samples width (a ∷ xs) && c)
  close-by ss e = λ j. (near-is j && list_all (rise_slowly width) (sym e j)) && c

  was-close : was.close
      ≡ ((are_close_each generation_of sample_number xs
      && (rise_slowly width sh.current && list_all (rise_slowly width) sh.closed)) && c)
  was-close = closes ∙ ap (λ (ss : List (List Arrived)).
      (are_close_each generation_of sample_number xs && list_all (rise_slowly width) ss) && c) sh.stretches_are

  -- where no value is entered
  close-same : now.close ≡ (near && was.close) → (ss : List (List Arrived)) → true_stretches generation_of (a ∷ xs) ≡ ss
      → list_all (rise_slowly width) ss ≡ (rise_slowly width sh.current && list_all (rise_slowly width) sh.closed)
      → now.close ≡ (are_close_samples width (a ∷ xs) && c)
  close-same e ss are same =
      e ∙ ap (λ (b : Bool). near && b) was-close
      ∙ sym (with-one near (are_close_each generation_of sample_number xs)
      (rise_slowly width sh.current && list_all (rise_slowly width) sh.closed) c)
      ∙ ap (λ (b : Bool). ((near && are_close_each generation_of sample_number xs) && b) && c) (sym same)
      ∙ close-by ss are

  openers-by : (b : Bool) → nat_lt n (generation_of a) ≡ b → (g : ℕ)
      → cond (b && (generation_of a == g)) (Some a.place) (opener_of g xs) ≡ opener_of g (a ∷ xs)
  openers-by b e g = λ j. cond (sym e j && (generation_of a == g)) (Some a.place) (opener_of g xs)

  -- ---- of a later generation

  later : n < generation_of a → Stepped width now (a ∷ xs) c
  later above = record {
    shows = record {
      current = a ∷ [];
      closed = sh.current ∷ sh.closed;
      numbered = numbered;
      stretches_are = are;
      current_is = own-later generation_of a xs above;
      first_is = first-is;
      newest_is = top ∙ h.generation ∙ sym opened.newest_is;
      newest_number_is = λ j. Some (pos ((h.number ∙ sym opened.newest_number_is) j));
      numbers_are = numbers-are;
      openers_are = λ g. ap opener_shown (opened.openers_are g)
          ∙ shown-opener (t.generation == g) at (slots.kept was.openers g)
          ∙ (λ j. cond (sym h.generation j == g) (Some (sym h.place j)) (sh.openers_are g j))
          ∙ openers-by true (lt-ltb n (generation_of a) above) g;
      pools_are = (λ j. Some (both_ends (pool-is j))) ∙ ap Some (sym opened.pools_are);
      drops_are = (λ j. Some (both_ends (drops-is j))) ∙ ap Some (sym opened.drops_are);
    };
    close = close-same opened.close_is ((a ∷ []) ∷ sh.current ∷ sh.closed) are refl;
  }
    where
      said : was.newest < t.generation
      said = omega (arith, sh.newest_is, h.generation)

      opened : Opens at t (record was { close = near && was.close }) now
      opened = step.advances.later said

      top : newest_index generation_of (a ∷ xs) ≡ generation_of a
      top = omega arith

      are : true_stretches generation_of (a ∷ xs) ≡ (a ∷ []) ∷ sh.current ∷ sh.closed
      are = stretches-are
          ∙ ap (λ (p : StretchPlace). placed p a (sh.current ∷ sh.closed))
          (place-is false true (le-ltb (generation_of a) n (omega arith)) (lt-ltb n (generation_of a) above))

  -- ---- of the newest generation or an earlier one

  module _ (not_above : generation_of a ≤ n) where
    low : t.generation ≤ was.newest
    low = omega (arith, sh.newest_is, h.generation)

    stays : Stays (record was { close = near && was.close }) now
    stays = step.advances.stays low

    newest-is : newest_index generation_of (a ∷ xs) ≡ now.newest
    newest-is =
        let top : newest_index generation_of (a ∷ xs) ≡ n = omega arith in
        top ∙ sh.newest_is ∙ sym stays.newest_is

    openers-are : (g : ℕ) → opener_shown (slots.kept now.openers g) ≡ opener_of g (a ∷ xs)
    openers-are g = ap (λ (os : List (Option TruePlace)). opener_shown (slots.kept os g)) stays.openers_are
        ∙ sh.openers_are g ∙ openers-by false (le-ltb n (generation_of a) not_above) g

  -- ---- of an earlier one

  earlier : generation_of a < n → Stepped width now (a ∷ xs) c
  earlier below = record {
    shows = record {
      current = sh.current;
      closed = sh.closed;
      numbered = numbered;
      stretches_are = are;
      current_is = own-earlier generation_of a xs below ∙ sh.current_is;
      first_is = first-is;
      newest_is = newest-is (omega arith);
      newest_number_is = sh.newest_number_is ∙ ap (λ (m : ℕ). Some (pos m)) (sym passed.newest_number_is);
      numbers_are = numbers-are;
      openers_are = openers-are (omega arith);
      pools_are = sh.pools_are ∙ ap Some (sym passed.pools_are);
      drops_are = sh.drops_are ∙ ap Some (sym passed.drops_are);
    };
    close = close-same passed.close_is (sh.current ∷ sh.closed) are refl;
  }
    where
      said : t.generation < was.newest
      said = omega (arith, sh.newest_is, h.generation)

      passed : Passes (record was { close = near && was.close }) now
      passed = step.advances.earlier said

      are : true_stretches generation_of (a ∷ xs) ≡ sh.current ∷ sh.closed
      are = stretches-are
          ∙ ap (λ (p : StretchPlace). placed p a (sh.current ∷ sh.closed))
          (place-is true false (lt-ltb (generation_of a) n below) (le-ltb n (generation_of a) (omega arith)))

  -- ---- of the newest

  module _ (equal : generation_of a ≡ n) where
    said : t.generation ≡ was.newest
    said = sym h.generation ∙ equal ∙ sh.newest_is

    are-current : true_stretches generation_of (a ∷ xs) ≡ (a ∷ sh.current) ∷ sh.closed
    are-current = stretches-are
        ∙ ap (λ (p : StretchPlace). placed p a (sh.current ∷ sh.closed))
        (place-is false false (le-ltb (generation_of a) n (omega arith)) (le-ltb n (generation_of a) (omega arith)))

    abbrev behind : Bool
    behind = is_behind width (Some was.newest_number) t.number

    late-is : is_late width (sample_numbers sh.current) (sample_number a) ≡ behind
    late-is = ap (λ (m : ℕ). is_late width (sample_numbers sh.current) (pos m)) h.number
        ∙ sym (behind-is width (Some was.newest_number) (sample_numbers sh.current) t.number (sym sh.newest_number_is))

    abbrev kept_by : Bool → List Arrived
    kept_by b = cond b (kept width sh.current) (a ∷ kept width sh.current)

    kept-is : (b : Bool) → behind ≡ b → kept width (a ∷ sh.current) ≡ kept_by b
    kept-is b e = ap kept_by (late-is ∙ e)

    number-more : greatest_of (sample_numbers (a ∷ sh.current)) ≡ Some (pos (newer_of (Some was.newest_number) t.number))
    number-more = ap (λ (m : ℕ). greatest_of (pos m ∷ sample_numbers sh.current)) h.number
        ∙ sym (greatest-more (Some was.newest_number) t.number (sample_numbers sh.current) (sym sh.newest_number_is))

    current-is : newest_samples (a ∷ xs) ≡ a ∷ sh.current
    current-is = own-same generation_of a xs equal ∙ ap (λ (ys : List Arrived). a ∷ ys) sh.current_is

    late : behind ≡ true → Stepped width now (a ∷ xs) c
    late e = record {
      shows = record {
        current = a ∷ sh.current;
        closed = sh.closed;
        numbered = numbered;
        stretches_are = are-current;
        current_is = current-is;
        first_is = first-is;
        newest_is = newest-is (omega arith);
        newest_number_is = number-more ∙ ap (λ (m : ℕ). Some (pos m)) (older ∙ sym passed.newest_number_is);
        numbers_are = numbers-are;
        openers_are = openers-are (omega arith);
        pools_are = ap (λ (ks : List Arrived). ends_in (values pool_of ks)) same ∙ sh.pools_are ∙ ap Some (sym passed.pools_are);
        drops_are = ap (λ (ks : List Arrived). ends_in (values drops_of ks)) same ∙ sh.drops_are ∙ ap Some (sym passed.drops_are);
      };
      close = close-same passed.close_is ((a ∷ sh.current) ∷ sh.closed) are-current
          (ap (λ (ks : List Arrived). (rise_by_less (2 ^ 32) (values pool_of ks) && rise_by_less (2 ^ 32) (values drops_of ks))
          && list_all (rise_slowly width) sh.closed) same);
    }
      where
        passed : Passes (record was { close = near && was.close }) now
        passed = step.advances.late said e

        same : kept width (a ∷ sh.current) ≡ kept width sh.current
        same = kept-is true e

        older : newer_of (Some was.newest_number) t.number ≡ was.newest_number
        older =
            let parts = and_parts (nat_le t.number was.newest_number) (nat_le width (was.newest_number - t.number)) e in
            let less : t.number ≤ was.newest_number = leb-true t.number was.newest_number parts.0 in
            ap (λ (b : Bool). cond b t.number was.newest_number) (le-ltb was.newest_number t.number less)

    in-time : behind ≡ false → Stepped width now (a ∷ xs) c
    in-time e = record {
      shows = record {
        current = a ∷ sh.current;
        closed = sh.closed;
        numbered = numbered;
        stretches_are = are-current;
        current_is = current-is;
        first_is = first-is;
        newest_is = newest-is (omega arith);
        newest_number_is = number-more ∙ ap (λ (m : ℕ). Some (pos m)) (sym counted.newest_number_is);
        numbers_are = numbers-are;
        openers_are = openers-are (omega arith);
        pools_are = ap (λ (ks : List Arrived). ends_in (values pool_of ks)) more
            ∙ ends-more was.pools pool_shown (values pool_of (kept width sh.current)) sh.pools_are
            ∙ ap (λ (v : NumberedValue). Some (ends_with was.pools v)) pool-is ∙ ap Some (sym counted.pools_are);
        drops_are = ap (λ (ks : List Arrived). ends_in (values drops_of ks)) more
            ∙ ends-more was.drops drops_shown (values drops_of (kept width sh.current)) sh.drops_are
            ∙ ap (λ (v : NumberedValue). Some (ends_with was.drops v)) drops-is ∙ ap Some (sym counted.drops_are);
      };
      close = counted.close_is
          ∙ ap (λ (b : Bool). (up && down) && (near && b)) was-close
          ∙ sym (with-rise near (are_close_each generation_of sample_number xs) up
          (rise_by_less (2 ^ 32) (values pool_of (kept width sh.current))) down
          (rise_by_less (2 ^ 32) (values drops_of (kept width sh.current))) (list_all (rise_slowly width) sh.closed) c)
          ∙ ap (λ (b : Bool). ((near && are_close_each generation_of sample_number xs)
          && (b && list_all (rise_slowly width) sh.closed)) && c) (sym rises)
          ∙ close-by ((a ∷ sh.current) ∷ sh.closed) are-current;
    }
      where
        counted : Counts t (record was { close = near && was.close }) now
        counted = step.advances.counts said e

        more : kept width (a ∷ sh.current) ≡ a ∷ kept width sh.current
        more = kept-is false e

        up : Bool
        up = rises_from (2 ^ 32) was.pools (pool_in t)

        down : Bool
        down = rises_from (2 ^ 32) was.drops (drops_in t)

        rises : rise_slowly width (a ∷ sh.current)
            ≡ ((up && rise_by_less (2 ^ 32) (values pool_of (kept width sh.current)))
            && (down && rise_by_less (2 ^ 32) (values drops_of (kept width sh.current))))
        rises =
            ap (λ (ks : List Arrived). rise_by_less (2 ^ 32) (values pool_of ks) && rise_by_less (2 ^ 32) (values drops_of ks)) more
            ∙ (λ j. rise-more (2 ^ 32) was.pools pool_shown (values pool_of (kept width sh.current)) sh.pools_are j
            && rise-more (2 ^ 32) was.drops drops_shown (values drops_of (kept width sh.current)) sh.drops_are j)
            ∙ (λ j. (rises_from (2 ^ 32) was.pools (pool-is j) && rise_by_less (2 ^ 32) (values pool_of (kept width sh.current)))
            && (rises_from (2 ^ 32) was.drops (drops-is j) && rise_by_less (2 ^ 32) (values drops_of (kept width sh.current))))

    same-generation : Stepped width now (a ∷ xs) c
    same-generation = elim (cases_Bool behind) [ inl e ↦ late e | inr e ↦ in-time e ]

  stepped : Stepped width now (a ∷ xs) c
  stepped = elim (cases_order (generation_of a) n) [
    | inl equal ↦ same-generation equal
    | inr other ↦ elim other [ inl below ↦ earlier below | inr above ↦ later above ]
  ]

  -- ---- whether it is apparent

  newest-number-is : newest_number xs ≡ pos was.newest_number
  newest-number-is = ap (λ (ys : List Arrived). greatest (sample_numbers ys)) sh.current_is
      ∙ greatest-is sh.current sh.newest_number_is
    where
      greatest-is : (ys : List Arrived) → greatest_of (sample_numbers ys) ≡ Some (pos was.newest_number)
          → greatest (sample_numbers ys) ≡ pos was.newest_number
      greatest-is [] e = absurd cc
      greatest-is (z ∷ more) e = same_Some (greatest (sample_numbers (z ∷ more))) (pos was.newest_number) e

  apparent-is : is_apparent_in was at t ≡ is_apparent_after xs a
  apparent-is = λ j.
      nat_le (sym sh.first_is j) (sym h.generation j)
      && ((not (nat_lt (sym sh.newest_is j) (sym h.generation j)) || does_not_rise (pos (sym h.number j)) (sym newest-number-is j))
      && is_not_before (sym h.place j) (opener-of j))
    where
      opener-of : opener_shown (slots.kept was.openers t.generation) ≡ opener_of (generation_of a) xs
      opener-of = sh.openers_are t.generation ∙ ap (λ (g : ℕ). opener_of g xs) (sym h.generation)

-- ---- over boots

and-assoc : (a b c : Bool) → (a && (b && c)) ≡ ((a && b) && c)
and-assoc true b c = refl
and-assoc false b c = refl

pub source-goes-on : (width boot : ℕ) (at : TruePlace) (t : TrueSample) (a : Arrived) (was now : SourceState)
    (current : List Arrived) (closed : List (List Arrived)) → IsArrived t at a → 1 ≤ t.generation → 1 ≤ boot
    → was.boot ≡ boot → GoesOn width at t was now → StandsFor width boot was (current ∷ closed)
    → StandsFor width boot now ((a ∷ current) ∷ closed)
source-goes-on width boot at t a was now [] closed h counts some same step st =
    let sh = st.shows some same in absurd cc
source-goes-on width boot at t a was now (y ∷ before) closed h counts some same step st =
    let sh : Shows width was (y ∷ before) = st.shows some same in
    let s : Stepped width now (a ∷ y ∷ before) (list_all (are_close_samples width) closed) =
    stepped width at t a was now y before h sh counts step (list_all (are_close_samples width) closed) st.close_is in
    let here : now.boot ≡ boot = step.boot_is ∙ same in
    record {
      close_is = s.close;
      apparent_is = step.apparent_is
          ∙ (λ j. apparent-is width at t a was now y before h sh counts step (list_all (are_close_samples width) closed) st.close_is j && st.apparent_is j)
          ∙ and-assoc (is_apparent_after (y ∷ before) a) (are_apparent (y ∷ before)) (list_all are_apparent closed);
      boot_to = omega arith;
      shows = λ _ _. s.shows;
      none = λ less. absurd (omega arith);
    }

-- the first sample of a boot
pub source-begins : (width boot : ℕ) (at : TruePlace) (t : TrueSample) (a : Arrived) (was now : SourceState)
    (current : List Arrived) (closed : List (List Arrived)) → IsArrived t at a → 1 ≤ t.generation
    → was.boot < boot → Begins boot t was now → StandsFor width boot was (current ∷ closed)
    → StandsFor width boot now ((a ∷ current) ∷ closed)
source-begins width boot at t a was now current closed h counts less b st =
    subst (λ (ys : List Arrived). StandsFor width boot now ((a ∷ ys) ∷ closed)) (sym (st.none less)) (record {
      close_is = b.close_is ∙ st.close_is ∙ ap (λ (ys : List Arrived). are_close_samples width ys && list_all (are_close_samples width) closed) (st.none less)
          ∙ ap (λ (x : Bool). x && list_all (are_close_samples width) closed) (sym close-one);
      apparent_is = b.apparent_is ∙ st.apparent_is
          ∙ ap (λ (ys : List Arrived). are_apparent ys && list_all are_apparent closed) (st.none less);
      boot_to = omega (arith, b.boot_is);
      shows = λ _ _. record {
        current = a ∷ [];
        closed = [];
        numbered = numbered;
        stretches_are = are;
        current_is = own-one generation_of a;
        first_is = h.generation ∙ sym b.first_is;
        newest_is = top ∙ h.generation ∙ sym b.newest_is;
        newest_number_is = λ j. Some (pos ((h.number ∙ sym b.newest_number_is) j));
        numbers_are = λ i. ap as_int (b.numbers_are i)
            ∙ number-at (t.generation == i) i
            ∙ (λ j. greatest_of (map sample_number (cond (sym h.generation j == i) (a ∷ []) [])));
        openers_are = λ g. ap opener_shown (b.openers_are g);
        pools_are = (λ j. Some (both_ends (record { number = pos (h.number j); value = h.pool j }))) ∙ ap Some (sym b.pools_are);
        drops_are = (λ j. Some (both_ends (record { number = pos (h.number j); value = h.drops j }))) ∙ ap Some (sym b.drops_are);
      };
      none = λ low. absurd (omega (arith, b.boot_is));
    })
  where
    numbered : AllByRecursion (λ (x : Arrived). 1 ≤ generation_of x) (a ∷ [])
    numbered = (subst (λ (g : ℕ). 1 ≤ g) (sym h.generation) counts, tt)

    one : 1 ≤ generation_of a
    one = numbered.0

    top : newest_index generation_of (a ∷ []) ≡ generation_of a
    top = omega arith

    are : true_stretches generation_of (a ∷ []) ≡ (a ∷ []) ∷ []
    are = true_stretches-step generation_of a [] numbered
        ∙ (λ j. placed (cond (le-ltb (generation_of a) 0 (omega arith) j) Stale
        (cond (lt-ltb 0 (generation_of a) (omega arith) j) Next Current)) a [])

    close-one : are_close_samples width (a ∷ []) ≡ true
    close-one = ap (λ (ss : List (List Arrived)). list_all (rise_slowly width) ss) are

    number-at : (b : Bool) (i : ℕ) → as_int (cond b (Some t.number) None) ≡ greatest_of (map sample_number (cond b (a ∷ []) []))
    number-at true i = λ j. Some (pos (sym h.number j))
    number-at false i = refl

-- what is kept may be kept in other slots
pub source-kept : (width boot : ℕ) (was now : SourceState) (boots : List (List Arrived)) → now.boot ≡ was.boot
    → now.first ≡ was.first → now.newest ≡ was.newest → now.newest_number ≡ was.newest_number
    → ((i : ℕ) → slots.kept now.numbers i ≡ slots.kept was.numbers i)
    → ((i : ℕ) → slots.kept now.openers i ≡ slots.kept was.openers i) → now.pools ≡ was.pools → now.drops ≡ was.drops
    → now.close ≡ was.close → now.apparent ≡ was.apparent → StandsFor width boot was boots → StandsFor width boot now boots
source-kept width boot was now boots bo fi ne nn nu op po dr cl ap_ st = record {
  close_is = cl ∙ st.close_is;
  apparent_is = ap_ ∙ st.apparent_is;
  boot_to = omega (arith, bo, st.boot_to);
  shows = λ some same.
      let sh = st.shows some (sym bo ∙ same) in
      record {
        current = sh.current;
        closed = sh.closed;
        numbered = sh.numbered;
        stretches_are = sh.stretches_are;
        current_is = sh.current_is;
        first_is = sh.first_is ∙ sym fi;
        newest_is = sh.newest_is ∙ sym ne;
        newest_number_is = sh.newest_number_is ∙ ap (λ (m : ℕ). Some (pos m)) (sym nn);
        numbers_are = λ i. ap as_int (nu i) ∙ sh.numbers_are i;
        openers_are = λ g. ap opener_shown (op g) ∙ sh.openers_are g;
        pools_are = sh.pools_are ∙ ap Some (sym po);
        drops_are = sh.drops_are ∙ ap Some (sym dr);
      };
  none = λ less. st.none (omega (arith, bo, less));
}
