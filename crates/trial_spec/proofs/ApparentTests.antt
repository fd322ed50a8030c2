-- Samples are apparent together exactly where each is after those before it; so the test is exact.
use Rattle.std.proofs.Common.{◌≡◌, ℕ, ◌<◌, Bool, true, false, cond, not, ◌&&◌, ◌||◌, List, [], ◌∷◌, Some, None, arith, refl, sym, ap, subst, ◌∙◌}
use Rattle.std.specs.Prelude.{nat_lt, nat_le, ◌==◌}
use Rattle.std.specs.declared.option.Option.{Option}
use Rattle.std.specs.Bool.{Decides}
use Rattle.std.specs.List.{AllByRecursion}
use Rattle.std.proofs.lemmas.Bool.{and_parts, ltb-true, lt-ltb, eqb-true, eq-eqb, ne_eqb, not-true}
use Rattle.std.proofs.lemmas.Bool.Decides.{Decides-and, Decides-ltb, Decides-like}
use Rattle.count_spec.specs.Windows.{near, mark_of}
use Rattle.count_spec.specs.TrueStretches.{newest_index}
use Rattle.books_spec.specs.declared.sample_place.SamplePlace.{SamplePlace}
use Rattle.books_spec.specs.Generations.{is_before}
use Rattle.account_spec.specs.Arrivals.{Arrived, generation_of, sample_number}
use Rattle.account_spec.specs.Apparent.{first_generation, newest_number, StandsBehind, OpenApparently, AreApparent}
use Rattle.trial_spec.specs.ApparentTests.{opener_of, IsNotBefore, IsApparentAfter, EachApparent, does_not_rise, is_not_before, is_apparent_after, are_apparent}
use Rattle.trial_spec.proofs.Tests.{decides-if, decides-le, decides-int_le}

abbrev newest : List Arrived → ℕ
newest xs = newest_index generation_of xs

-- x is one of these
abbrev IsIn : List Arrived → Arrived → Type 1
IsIn after x = (P : Arrived → Type 0) → AllByRecursion P after → P x

-- ---- the samples before the last

-- what is apparent is so with fewer that come afterwards
weaken : (after fewer xs : List Arrived) → ((P : Arrived → Type 0) → AllByRecursion P after → AllByRecursion P fewer)
    → OpenApparently after xs → OpenApparently fewer xs
weaken after fewer [] sub h = tt
weaken after fewer (x ∷ []) sub h = tt
weaken after fewer (x ∷ y ∷ before) sub h = (
  (λ later. record { number = (h.0 later).number; first = sub (StandsBehind x) (h.0 later).first }),
  weaken (x ∷ after) (x ∷ fewer) (y ∷ before) (λ P q. (q.0, sub P q.1)) h.1,
)

apparent-before : (x y : Arrived) (before : List Arrived) → AreApparent (x ∷ y ∷ before) → AreApparent (y ∷ before)
apparent-before x y before h = record {
  none_before = h.none_before.1;
  opened = weaken (x ∷ []) [] (y ∷ before) (λ P q. tt) h.opened.1;
}

-- ---- openers

abbrev opens_it : ℕ → Arrived → List Arrived → Bool
opens_it g y rest = nat_lt (newest rest) (generation_of y) && (generation_of y == g)

-- a sample that comes afterwards isn't before the one that opened its generation
not-before : (after : List Arrived) (x : Arrived) (xs : List Arrived) → IsIn after x → OpenApparently after xs
    → IsNotBefore x.place (opener_of (generation_of x) xs)
not-before after x [] here h = tt
not-before after x (y ∷ []) here h = tt
not-before after x (y ∷ z ∷ before) here h =
    go (opens_it (generation_of x) y (z ∷ before)) refl
    (not-before (y ∷ after) x (z ∷ before) (λ P q. here P q.1) h.1)
  where
    go : (b : Bool) → opens_it (generation_of x) y (z ∷ before) ≡ b
        → IsNotBefore x.place (opener_of (generation_of x) (z ∷ before))
        → IsNotBefore x.place (cond b (Some y.place) (opener_of (generation_of x) (z ∷ before)))
    go true e later =
        let p = and_parts (nat_lt (newest (z ∷ before)) (generation_of y)) (generation_of y == generation_of x) e in
        here (StandsBehind y) (h.0 (ltb-true (newest (z ∷ before)) (generation_of y) p.0)).first
        (sym (eqb-true (generation_of y) (generation_of x) p.1))
    go false e later = later

and-false : (a b : Bool) → b ≡ false → (a && b) ≡ false
and-false true b e = e
and-false false b e = refl

and-true : (a b : Bool) → a ≡ true → b ≡ true → (a && b) ≡ true
and-true a b e f = rw (e, f) refl

-- no sample opened a generation above all
none-opened : (g : ℕ) (xs : List Arrived) → newest xs < g → opener_of g xs ≡ None
none-opened g [] h = refl
none-opened g (x ∷ []) h = refl
none-opened g (x ∷ y ∷ before) h =
    ap (λ (b : Bool). cond b (Some x.place) (opener_of g (y ∷ before)))
    (and-false (nat_lt (newest (y ∷ before)) (generation_of x)) (generation_of x == g)
    (ne_eqb (generation_of x) g (λ e. omega arith)))
    ∙ none-opened g (y ∷ before) (omega arith)

-- one more sample comes afterwards
add : (after more : List Arrived) (x : Arrived) (xs : List Arrived)
    → ((P : Arrived → Type 0) → AllByRecursion P after → P x → AllByRecursion P more)
    → OpenApparently after xs → IsNotBefore x.place (opener_of (generation_of x) xs) → OpenApparently more xs
add after more x [] both h n = tt
add after more x (y ∷ []) both h n = tt
add after more x (y ∷ z ∷ before) both h n = (
  (λ later. record { number = (h.0 later).number; first = both (StandsBehind y) (h.0 later).first (own later) }),
  add (y ∷ after) (y ∷ more) x (z ∷ before) (λ P q p. (q.0, both P q.1 p)) h.1 rest,
)
  where
    test : Bool
    test = opens_it (generation_of x) y (z ∷ before)

    own : newest (z ∷ before) < generation_of y → StandsBehind y x
    own later same =
        let t : opens_it (generation_of x) y (z ∷ before) ≡ true =
        and-true (nat_lt (newest (z ∷ before)) (generation_of y)) (generation_of y == generation_of x)
        (lt-ltb (newest (z ∷ before)) (generation_of y) later) (eq-eqb (generation_of y) (generation_of x) (sym same)) in
        subst (λ (b : Bool). IsNotBefore x.place (cond b (Some y.place) (opener_of (generation_of x) (z ∷ before)))) t n

    go : (b : Bool) → opens_it (generation_of x) y (z ∷ before) ≡ b
        → IsNotBefore x.place (cond b (Some y.place) (opener_of (generation_of x) (z ∷ before)))
        → IsNotBefore x.place (opener_of (generation_of x) (z ∷ before))
    go true e k =
        let p = and_parts (nat_lt (newest (z ∷ before)) (generation_of y)) (generation_of y == generation_of x) e in
        let l : newest (z ∷ before) < generation_of y = ltb-true (newest (z ∷ before)) (generation_of y) p.0 in
        let s : generation_of y ≡ generation_of x = eqb-true (generation_of y) (generation_of x) p.1 in
        subst (IsNotBefore x.place) (sym (none-opened (generation_of x) (z ∷ before) (omega arith))) tt
    go false e k = k

    rest : IsNotBefore x.place (opener_of (generation_of x) (z ∷ before))
    rest = go (opens_it (generation_of x) y (z ∷ before)) refl n

to-each : (xs : List Arrived) → AreApparent xs → EachApparent xs
to-each [] h = tt
to-each (x ∷ []) h = (tt, tt)
to-each (x ∷ y ∷ before) h = (
  (h.none_before.0, ((λ later. (h.opened.0 later).number), not-before (x ∷ []) x (y ∷ before) (λ P q. q.0) h.opened.1)),
  to-each (y ∷ before) (apparent-before x y before h),
)

from-each : (xs : List Arrived) → EachApparent xs → AreApparent xs
from-each [] h = record { none_before = tt; opened = tt }
from-each (x ∷ []) h = record { none_before = (omega arith, tt); opened = tt }
from-each (x ∷ y ∷ before) h =
    let later : AreApparent (y ∷ before) = from-each (y ∷ before) h.1 in
    record {
      none_before = (h.0.0, later.none_before);
      opened = (
        (λ above. record { number = h.0.1.0 above; first = tt }),
        add [] (x ∷ []) x (y ∷ before) (λ P q p. (p, q)) later.opened h.0.1.1,
      );
    }

-- ---- the tests

decides-not-before : (p : SamplePlace) (o : Option SamplePlace) → Decides (is_not_before p o) (IsNotBefore p o)
decides-not-before p None = (λ e. tt, λ h. refl)
decides-not-before p (Some opener) =
    (not-true (is_before p opener), λ h. ap not h)

decides-after : (before : List Arrived) (x : Arrived) → Decides (is_apparent_after before x) (IsApparentAfter before x)
decides-after [] x = (λ e. tt, λ h. refl)
decides-after (y ∷ before) x =
    let us : List Arrived = y ∷ before in
    Decides-and (nat_le (first_generation us) (generation_of x))
    ((not (nat_lt (newest_index generation_of us) (generation_of x)) || does_not_rise (sample_number x) (newest_number us))
    && is_not_before x.place (opener_of (generation_of x) us))
    (decides-le (first_generation us) (generation_of x))
    (Decides-and
    (not (nat_lt (newest_index generation_of us) (generation_of x)) || does_not_rise (sample_number x) (newest_number us))
    (is_not_before x.place (opener_of (generation_of x) us))
    (decides-if (nat_lt (newest_index generation_of us) (generation_of x)) (does_not_rise (sample_number x) (newest_number us))
    (Decides-ltb (newest_index generation_of us) (generation_of x))
    (decides-int_le (near (mark_of (sample_number x)) (newest_number us)) (newest_number us)))
    (decides-not-before x.place (opener_of (generation_of x) us)))

decides-each-apparent : (xs : List Arrived) → Decides (are_apparent xs) (EachApparent xs)
decides-each-apparent [] = (λ e. tt, λ h. refl)
decides-each-apparent (x ∷ before) =
    Decides-and (is_apparent_after before x) (are_apparent before) (decides-after before x) (decides-each-apparent before)

pub decides-apparent : (xs : List Arrived) → Decides (are_apparent xs) (AreApparent xs)
decides-apparent xs = Decides-like (are_apparent xs) (from-each xs) (to-each xs) (decides-each-apparent xs)
