-- A ledger over generations after one more sample.
use Rattle.std.proofs.Common.{◌≡◌, ◌↔◌, ℕ, suc, ◌+◌, ◌<◌, ◌≤◌, Bool, cond, List, [], ◌∷◌, ◌++◌, length, map, refl, sym, ◌∙◌, ap, subst, arith}
use Rattle.std.specs.Prelude.{◌&&◌, nat_lt}
use Rattle.std.proofs.lemmas.Bool.{lt-ltb}
use Rattle.std.proofs.lemmas.List.Sums.{sum_by-cons}
use Rattle.count_spec.specs.Windows.{answer, counted}
use Rattle.count_spec.specs.declared.entered.Entered as window
use Rattle.count_spec.specs.declared.entered.Entered.TheVariants.{First, Repeat, Late}
use Rattle.count_spec.specs.Stretches.{placed, with_stale}
use Rattle.count_spec.specs.declared.stretch_place.StretchPlace.{StretchPlace}
use Rattle.count_spec.specs.declared.stretch_place.StretchPlace.TheVariants.{Current, Next, Stale}
use Rattle.books_spec.specs.Views.{marks_in}
use Rattle.books_spec.specs.declared.sample_place.SamplePlace.{SamplePlace}
use Rattle.books_spec.specs.declared.booked.Booked.{Booked}
use Rattle.books_spec.specs.declared.booked.Booked.TheVariants.{Past}
use Rattle.source_ledger.specs.Boots.{entered_boots}
use Rattle.source_ledger.specs.Marks.{StandsFor as MarksStand}
use Rattle.books_spec.specs.SourceViews.{PlacedReading, place_in, placed_mark}
use Rattle.books_spec.specs.Generations.{is_before, does_not_rise, is_before_opening, first_places, with_place, greatest_place}
use Rattle.source_ledger.specs.Generations.{newest_place, opening_place, generations, generation_place, stale_samples, booked, booked_at, all_generations, stale_count}
use Rattle.source_ledger.specs.Numbers.{NumbersState, ShowsCurrent, ShowsBoots, StandsFor, newest_after, Opens, GoesOn, Passes}
use Rattle.source_ledger.proofs.Trims.{trim-length}
use Rattle.source_ledger.proofs.GenerationCounts.{generations-first}

-- ---- where a sample belongs

past-is : (o : PlacedReading) (more : List PlacedReading) (closed : List (List PlacedReading)) (x : PlacedReading) (n : ℕ)
    → n ≡ suc (length closed)
    → (nat_lt 1 n && is_before x.place (opening_place (o ∷ more))) ≡ is_before_opening place_in placed_mark (o ∷ more) closed x
past-is o more [] x n is = ap (λ (m : ℕ). nat_lt 1 m && is_before x.place (opening_place (o ∷ more))) is
past-is o more (g ∷ closed) x n is =
    ap (λ (b : Bool). b && is_before x.place (opening_place (o ∷ more))) (lt-ltb 1 n (omega (arith, is)))

pub place-is : (width : ℕ) (s : NumbersState) (x o : PlacedReading) (more : List PlacedReading)
    (closed : List (List PlacedReading)) (opens past : Bool) → ShowsCurrent width s ((o ∷ more) ∷ closed)
    → opens ≡ (is_before s.newest x.place && does_not_rise place_in placed_mark width (o ∷ more) (placed_mark x))
    → past ≡ (nat_lt 1 s.in_boot && is_before x.place s.opened)
    → cond opens Next (cond past Stale Current) ≡ generation_place width ((o ∷ more) ∷ closed) x
place-is width s x o more closed opens past sc e f =
    let first = e ∙ ap (λ (q : SamplePlace). is_before q x.place
    && does_not_rise place_in placed_mark width (o ∷ more) (placed_mark x)) sc.newest_is in
    let second = f ∙ ap (λ (q : SamplePlace). nat_lt 1 s.in_boot && is_before x.place q) sc.opened_is
    ∙ past-is o more closed x s.in_boot sc.in_boot_are in
    λ i. cond (first i) Next (cond (second i) Stale Current)

-- ---- the greatest place

-- some sample of a generation is First
record HasPlace (places : List SamplePlace) : Type 0 where
  one : SamplePlace
  others : List SamplePlace
  is : places ≡ one ∷ others

with-place-some : (a : window.Entered) (p : SamplePlace) (places : List SamplePlace) → HasPlace places → HasPlace (with_place a p places)
with-place-some (First place n) p places h = record { one = p; others = places; is = refl }
with-place-some Repeat p places h = h
with-place-some Late p places h = h

places-some : (width : ℕ) (x : PlacedReading) (before : List PlacedReading) → HasPlace (first_places place_in placed_mark width (x ∷ before))
places-some width x [] = record { one = x.place; others = []; is = refl }
places-some width x (y ∷ before) =
    with-place-some (answer width (counted width (map placed_mark (y ∷ before))) (placed_mark x)) x.place
    (first_places place_in placed_mark width (y ∷ before)) (places-some width y before)

place-moved : (a : window.Entered) (p q : SamplePlace) (others : List SamplePlace)
    → newest_after a p (greatest_place (q ∷ others)) ≡ greatest_place (with_place a p (q ∷ others))
place-moved (First place n) p q others = refl
place-moved Repeat p q others = refl
place-moved Late p q others = refl

newest-moved : (width : ℕ) (x o : PlacedReading) (more : List PlacedReading)
    → newest_after (answer width (counted width (map placed_mark (o ∷ more))) (placed_mark x)) x.place (newest_place width (o ∷ more))
    ≡ newest_place width (x ∷ o ∷ more)
newest-moved width x o more =
    let h = places-some width o more in
    let a : window.Entered = answer width (counted width (map placed_mark (o ∷ more))) (placed_mark x) in
    ap (λ (ps : List SamplePlace). newest_after a x.place (greatest_place ps)) h.is
    ∙ place-moved a x.place h.one h.others
    ∙ ap (λ (ps : List SamplePlace). greatest_place (with_place a x.place ps)) (sym h.is)

-- ---- the first sample of a boot

stale-passed : (width : ℕ) (boot : List PlacedReading) (closed : List (List PlacedReading)) (n : ℕ) → length (stale_samples width boot) ≡ 0
    → n ≡ stale_count width ([] ∷ closed) → n ≡ stale_count width (boot ∷ closed)
stale-passed width boot closed n none is =
    let a = sum_by-cons (λ (b : List PlacedReading). length (stale_samples width b)) [] closed in
    let b = sum_by-cons (λ (b : List PlacedReading). length (stale_samples width b)) boot closed in
    omega (arith, a, b, none, is)

pub record Enters (old new : NumbersState) (x : PlacedReading) (current : List PlacedReading) (closed : List (List PlacedReading)) (given : Booked) : Type 0 where
  pub stands : ShowsBoots old.marks.width new ((x ∷ current) ∷ closed)
  pub answered : given ≡ booked old.marks.width current x

pub boot-begins : (old new : NumbersState) (boot : ℕ) (x : PlacedReading) (current : List PlacedReading) (closed : List (List PlacedReading)) (given : Booked)
    → length closed + 1 ≡ boot → old.boot < boot → StandsFor old (current ∷ closed)
    → Opens old new boot 1 x.place (placed_mark x) given → Enters old new x current closed given
boot-begins old new boot x (y ∷ before) closed given number later st o =
    let is : old.boot ≡ suc (length closed) = st.boot_is in absurd (omega (arith, is, number, later))
boot-begins old new boot x [] closed given number later st o =
    let all : List (List PlacedReading) = all_generations old.marks.width closed in
    let generations_are : new.generations ≡ suc (length all) =
    (let a = o.generations_are in let b = st.generations_are in omega (arith, a, b)) in
    let boot_is : new.boot ≡ suc (length closed) = (let a = o.boot_is in omega (arith, a, number)) in
    record {
      stands = record {
        boot_is = boot_is;
        marks_stand = o.marks_stand (marks_in placed_mark all) st.marks_stand;
        generations_are = generations_are;
        stale_are = stale-passed old.marks.width (x ∷ []) closed new.stale refl (o.stale_are ∙ st.stale_are);
        current_is = record { in_boot_are = o.in_boot_are; opened_is = o.opened_is; newest_is = o.newest_is };
      };
      answered = o.answered (marks_in placed_mark all) st.marks_stand;
    }

-- ---- a sample of the boot that was entered last

-- the ledger shows these generations and stale samples of that boot, and the boots before it
record Within (width : ℕ) (s : NumbersState) (current : List (List PlacedReading)) (stale : List PlacedReading) (closed : List (List PlacedReading)) : Type 0 where
  boot_is : s.boot ≡ length closed + 1
  marks_stand : MarksStand s.marks (marks_in placed_mark (current ++ all_generations width closed))
  generations_are : s.generations ≡ length (current ++ all_generations width closed)
  stale_are : s.stale ≡ length stale + stale_count width closed
  current_is : ShowsCurrent width s current

within-is : (width : ℕ) (s : NumbersState) (x : PlacedReading) (before : List PlacedReading) (closed : List (List PlacedReading))
    → ShowsBoots width s ((x ∷ before) ∷ closed)
    → Within width s (generations width (x ∷ before)) (stale_samples width (x ∷ before)) closed
within-is width s x before closed st =
    let a = st.boot_is in
    let b = st.stale_are in
    let c = sum_by-cons (λ (b : List PlacedReading). length (stale_samples width b)) (x ∷ before) closed in
    record {
      boot_is = omega (arith, a);
      marks_stand = st.marks_stand;
      generations_are = st.generations_are;
      stale_are = b ∙ c;
      current_is = st.current_is;
    }

within-stands : (width : ℕ) (s : NumbersState) (x : PlacedReading) (before : List PlacedReading) (closed : List (List PlacedReading))
    → Within width s (generations width (x ∷ before)) (stale_samples width (x ∷ before)) closed
    → ShowsBoots width s ((x ∷ before) ∷ closed)
within-stands width s x before closed w =
    let a = w.boot_is in
    let b = w.stale_are in
    let c = sum_by-cons (λ (b : List PlacedReading). length (stale_samples width b)) (x ∷ before) closed in
    record {
      boot_is = omega (arith, a);
      marks_stand = w.marks_stand;
      generations_are = w.generations_are;
      stale_are = b ∙ sym c;
      current_is = w.current_is;
    }

next-within : (old new : NumbersState) (x : PlacedReading) (current : List (List PlacedReading)) (stale : List PlacedReading)
    (closed : List (List PlacedReading)) (given : Booked) → Within old.marks.width old current stale closed
    → Opens old new old.boot (old.in_boot + 1) x.place (placed_mark x) given
    → Within old.marks.width new (placed Next x current) stale closed
next-within old new x current stale closed given w o =
    let in_boot : new.in_boot ≡ suc (length current) =
    (let a = o.in_boot_are in let b = w.current_is.in_boot_are in omega (arith, a, b)) in
    let generations_are : new.generations ≡ suc (length (current ++ all_generations old.marks.width closed)) =
    (let a = o.generations_are in let b = w.generations_are in omega (arith, a, b)) in
    record {
      boot_is = o.boot_is ∙ w.boot_is;
      marks_stand = o.marks_stand (marks_in placed_mark (current ++ all_generations old.marks.width closed)) w.marks_stand;
      generations_are = generations_are;
      stale_are = o.stale_are ∙ w.stale_are;
      current_is = record { in_boot_are = in_boot; opened_is = o.opened_is; newest_is = o.newest_is };
    }

current-within : (old new : NumbersState) (x o : PlacedReading) (more : List PlacedReading) (earlier : List (List PlacedReading)) (stale : List PlacedReading)
    (closed : List (List PlacedReading)) (given : Booked) → Within old.marks.width old ((o ∷ more) ∷ earlier) stale closed
    → GoesOn old new x.place (placed_mark x) given
    → Within old.marks.width new (placed Current x ((o ∷ more) ∷ earlier)) stale closed
current-within old new x o more earlier stale closed given w g =
    let width : ℕ = old.marks.width in
    let marks : List ℕ = map placed_mark (o ∷ more) in
    let rest : List (List ℕ) = marks_in placed_mark (earlier ++ all_generations width closed) in
    record {
      boot_is = g.boot_is ∙ w.boot_is;
      marks_stand = g.marks_stand marks rest w.marks_stand;
      generations_are = g.generations_are ∙ w.generations_are;
      stale_are = g.stale_are ∙ w.stale_are;
      current_is = record {
        in_boot_are = g.in_boot_are ∙ w.current_is.in_boot_are;
        opened_is = g.opened_is ∙ w.current_is.opened_is;
        newest_is = g.newest_is marks rest w.marks_stand
            ∙ ap (newest_after (answer width (counted width marks) (placed_mark x)) x.place) w.current_is.newest_is
            ∙ newest-moved width x o more;
      };
    }

stale-within : (width : ℕ) (old new : NumbersState) (x : PlacedReading) (current : List (List PlacedReading)) (stale : List PlacedReading)
    (closed : List (List PlacedReading)) → Within width old current stale closed → Passes old new
    → Within width new (placed Stale x current) (x ∷ stale) closed
stale-within width old new x current stale closed w p =
    subst (λ (s : NumbersState). Within width s current (x ∷ stale) closed) (sym p)
    (let a = w.stale_are in
    record {
      boot_is = w.boot_is;
      marks_stand = w.marks_stand;
      generations_are = w.generations_are;
      stale_are = omega (arith, a);
      current_is = record {
        in_boot_are = w.current_is.in_boot_are;
        opened_is = w.current_is.opened_is;
        newest_is = w.current_is.newest_is;
      };
    })

-- what the ledger shows of that boot, with the sample that opened its current generation
pub record Opened (s : NumbersState) (current : List PlacedReading) (closed : List (List PlacedReading)) : Type 0 where
  pub opener : PlacedReading
  pub more : List PlacedReading
  pub earlier : List (List PlacedReading)
  pub is : generations s.marks.width current ≡ (opener ∷ more) ∷ earlier
  pub shows : ShowsCurrent s.marks.width s ((opener ∷ more) ∷ earlier)
  pub marks_stand : MarksStand s.marks
      (marks_in placed_mark (((opener ∷ more) ∷ earlier) ++ all_generations s.marks.width closed))

pub boot-opened : (s : NumbersState) (current : List PlacedReading) (closed : List (List PlacedReading)) → length closed + 1 ≤ s.boot
    → StandsFor s (current ∷ closed) → Opened s current closed
boot-opened s [] closed last st =
    let is : s.boot ≡ length (entered_boots closed) = st.boot_is in
    let few = trim-length closed in
    absurd (omega (arith, few, last, is))
boot-opened s (x ∷ before) closed last st =
    let h = generations-first s.marks.width x before in
    let w = within-is s.marks.width s x before closed st in
    record {
      opener = h.first;
      more = h.more;
      earlier = h.closed;
      is = h.is;
      shows = subst (λ (gs : List (List PlacedReading)). ShowsCurrent s.marks.width s gs) h.is w.current_is;
      marks_stand = subst (λ (gs : List (List PlacedReading)). MarksStand s.marks
          (marks_in placed_mark (gs ++ all_generations s.marks.width closed))) h.is w.marks_stand;
    }

-- what is answered, by the place
answer-by : (width : ℕ) (before : List PlacedReading) (x : PlacedReading) (p : StretchPlace) (gs : List (List PlacedReading)) (given : Booked)
    → generation_place width (generations width before) x ≡ p → generations width before ≡ gs
    → given ≡ booked_at width p gs (placed_mark x) → given ≡ booked width before x
answer-by width before x p gs given is e a = a ∙ (λ i. booked_at width (sym is i) (sym e i) (placed_mark x))

-- the stretches and the stale samples, by the place
placed-by : (width : ℕ) (s : NumbersState) (y : PlacedReading) (before : List PlacedReading) (x : PlacedReading) (p : StretchPlace) (closed : List (List PlacedReading))
    → generation_place width (generations width (y ∷ before)) x ≡ p
    → Within width s (placed p x (generations width (y ∷ before))) (with_stale p x (stale_samples width (y ∷ before))) closed
    → ShowsBoots width s ((x ∷ y ∷ before) ∷ closed)
placed-by width s y before x p closed is w =
    within-stands width s x (y ∷ before) closed
    (subst (λ (q : StretchPlace). Within width s (placed q x (generations width (y ∷ before)))
    (with_stale q x (stale_samples width (y ∷ before))) closed) (sym is) w)

-- the three places
pub boot-opens : (old new : NumbersState) (x : PlacedReading) (current : List PlacedReading) (closed : List (List PlacedReading)) (given : Booked)
    → length closed + 1 ≤ old.boot → StandsFor old (current ∷ closed)
    → generation_place old.marks.width (generations old.marks.width current) x ≡ Next
    → Opens old new old.boot (old.in_boot + 1) x.place (placed_mark x) given → Enters old new x current closed given
boot-opens old new x [] closed given last st is o =
    let h = boot-opened old [] closed last st in let none : [] ≡ (h.opener ∷ h.more) ∷ h.earlier = h.is in absurd cc
boot-opens old new x (y ∷ before) closed given last st is o =
    let w = within-is old.marks.width old y before closed st in
    record {
      stands = placed-by old.marks.width new y before x Next closed is
          (next-within old new x (generations old.marks.width (y ∷ before)) (stale_samples old.marks.width (y ∷ before)) closed
          given w o);
      answered = answer-by old.marks.width (y ∷ before) x Next (generations old.marks.width (y ∷ before)) given is refl
          (o.answered _ w.marks_stand);
    }

pub boot-goes_on : (old new : NumbersState) (x : PlacedReading) (current : List PlacedReading) (closed : List (List PlacedReading)) (given : Booked)
    → length closed + 1 ≤ old.boot → StandsFor old (current ∷ closed)
    → generation_place old.marks.width (generations old.marks.width current) x ≡ Current
    → GoesOn old new x.place (placed_mark x) given → Enters old new x current closed given
boot-goes_on old new x [] closed given last st is g =
    let h = boot-opened old [] closed last st in let none : [] ≡ (h.opener ∷ h.more) ∷ h.earlier = h.is in absurd cc
boot-goes_on old new x (y ∷ before) closed given last st is g =
    let width : ℕ = old.marks.width in
    let stale : List PlacedReading = stale_samples width (y ∷ before) in
    let h = generations-first width y before in
    let w = subst (λ (gs : List (List PlacedReading)). Within width old gs stale closed) h.is (within-is width old y before closed st) in
    record {
      stands = placed-by width new y before x Current closed is
          (subst (λ (gs : List (List PlacedReading)). Within width new (placed Current x gs) stale closed) (sym h.is)
          (current-within old new x h.first h.more h.closed stale closed given w g));
      answered = answer-by width (y ∷ before) x Current ((h.first ∷ h.more) ∷ h.closed) given is h.is
          (g.answered (map placed_mark (h.first ∷ h.more)) (marks_in placed_mark (h.closed ++ all_generations width closed))
          w.marks_stand);
    }

pub boot-passes : (old new : NumbersState) (x : PlacedReading) (current : List PlacedReading) (closed : List (List PlacedReading)) (given : Booked)
    → length closed + 1 ≤ old.boot → StandsFor old (current ∷ closed)
    → generation_place old.marks.width (generations old.marks.width current) x ≡ Stale
    → Passes old new → given ≡ Past → Enters old new x current closed given
boot-passes old new x [] closed given last st is p a =
    let h = boot-opened old [] closed last st in let none : [] ≡ (h.opener ∷ h.more) ∷ h.earlier = h.is in absurd cc
boot-passes old new x (y ∷ before) closed given last st is p a =
    let w = within-is old.marks.width old y before closed st in
    record {
      stands = placed-by old.marks.width new y before x Stale closed is
          (stale-within old.marks.width old new x (generations old.marks.width (y ∷ before))
          (stale_samples old.marks.width (y ∷ before)) closed w p);
      answered = answer-by old.marks.width (y ∷ before) x Stale (generations old.marks.width (y ∷ before)) given is refl a;
    }

-- ---- a boot without samples

pub boot-passed : (width : ℕ) (s : NumbersState) (boots : List (List PlacedReading))
    → ShowsBoots width s boots ↔ ShowsBoots width s ([] ∷ boots)
boot-passed width s boots =
    let more = sum_by-cons (λ (b : List PlacedReading). length (stale_samples width b)) [] boots in (
      λ st. record {
        boot_is = st.boot_is;
        marks_stand = st.marks_stand;
        generations_are = st.generations_are;
        stale_are = (let a = st.stale_are in omega (arith, a, more));
        current_is = st.current_is;
      },
      λ st. record {
        boot_is = st.boot_is;
        marks_stand = st.marks_stand;
        generations_are = st.generations_are;
        stale_are = (let a = st.stale_are in omega (arith, a, more));
        current_is = st.current_is;
      },
    )

-- ---- the sample of this place and mark

-- what is to be shown of an entered sample
pub record Follows (old new : NumbersState) (x : PlacedReading) (current : List PlacedReading)
    (closed : List (List PlacedReading)) (given : Booked) : Type 0 where
  pub stands : StandsFor new ((x ∷ current) ∷ closed)
  pub answered : given ≡ booked old.marks.width current x

follows : (old new : NumbersState) (x : PlacedReading) (current : List PlacedReading) (closed : List (List PlacedReading))
    (given : Booked) → new.marks.width ≡ old.marks.width → Enters old new x current closed given
    → Follows old new x current closed given
follows old new x current closed given same e = record {
  stands = subst (λ (w : ℕ). ShowsBoots w new ((x ∷ current) ∷ closed)) (sym same) e.stands;
  answered = e.answered;
}

opens-there : (old new : NumbersState) (boot in_boot : ℕ) (at : SamplePlace) (mark : ℕ) (x : PlacedReading) (given : Booked)
    → x.place ≡ at → placed_mark x ≡ mark → Opens old new boot in_boot at mark given
    → Opens old new boot in_boot x.place (placed_mark x) given
opens-there old new boot in_boot at mark x given is_at is_mark o =
    subst (λ (p : SamplePlace). Opens old new boot in_boot p (placed_mark x) given) (sym is_at)
    (subst (λ (m : ℕ). Opens old new boot in_boot at m given) (sym is_mark) o)

pub first-of-boot : (old new : NumbersState) (boot : ℕ) (at : SamplePlace) (mark : ℕ) (x : PlacedReading)
    (current : List PlacedReading) (closed : List (List PlacedReading)) (given : Booked) → x.place ≡ at → placed_mark x ≡ mark
    → length closed + 1 ≡ boot → old.boot < boot → StandsFor old (current ∷ closed) → Opens old new boot 1 at mark given
    → Follows old new x current closed given
first-of-boot old new boot at mark x current closed given is_at is_mark number later st o =
    follows old new x current closed given o.width_is
    (boot-begins old new boot x current closed given number later st (opens-there old new boot 1 at mark x given is_at is_mark o))

-- where a sample at this place and with this mark belongs
abbrev pub Told : NumbersState → SamplePlace → ℕ → StretchPlace → Type 0
Told s at mark p = (x o : PlacedReading) (more : List PlacedReading) (closed earlier : List (List PlacedReading)) → x.place ≡ at
    → placed_mark x ≡ mark → ShowsCurrent s.marks.width s ((o ∷ more) ∷ closed)
    → MarksStand s.marks (marks_in placed_mark (((o ∷ more) ∷ closed) ++ earlier))
    → p ≡ generation_place s.marks.width ((o ∷ more) ∷ closed) x

place-told : (s : NumbersState) (at : SamplePlace) (mark : ℕ) (p : StretchPlace) (x : PlacedReading)
    (current : List PlacedReading) (closed : List (List PlacedReading)) → x.place ≡ at → placed_mark x ≡ mark
    → length closed + 1 ≤ s.boot → StandsFor s (current ∷ closed) → Told s at mark p
    → generation_place s.marks.width (generations s.marks.width current) x ≡ p
place-told s at mark p x current closed is_at is_mark last st told =
    let h = boot-opened s current closed last st in
    ap (λ (gs : List (List PlacedReading)). generation_place s.marks.width gs x) h.is
    ∙ sym (told x h.opener h.more h.earlier (all_generations s.marks.width closed) is_at is_mark h.shows h.marks_stand)

pub next-generation : (old new : NumbersState) (at : SamplePlace) (mark : ℕ) (x : PlacedReading)
    (current : List PlacedReading) (closed : List (List PlacedReading)) (given : Booked) → x.place ≡ at → placed_mark x ≡ mark
    → length closed + 1 ≤ old.boot → StandsFor old (current ∷ closed) → Told old at mark Next
    → Opens old new old.boot (old.in_boot + 1) at mark given → Follows old new x current closed given
next-generation old new at mark x current closed given is_at is_mark last st told o =
    follows old new x current closed given o.width_is
    (boot-opens old new x current closed given last st (place-told old at mark Next x current closed is_at is_mark last st told)
    (opens-there old new old.boot (old.in_boot + 1) at mark x given is_at is_mark o))

pub same-generation : (old new : NumbersState) (at : SamplePlace) (mark : ℕ) (x : PlacedReading)
    (current : List PlacedReading) (closed : List (List PlacedReading)) (given : Booked) → x.place ≡ at → placed_mark x ≡ mark
    → length closed + 1 ≤ old.boot → StandsFor old (current ∷ closed) → Told old at mark Current
    → GoesOn old new at mark given → Follows old new x current closed given
same-generation old new at mark x current closed given is_at is_mark last st told g =
    follows old new x current closed given g.width_is
    (boot-goes_on old new x current closed given last st
    (place-told old at mark Current x current closed is_at is_mark last st told)
    (subst (λ (p : SamplePlace). GoesOn old new p (placed_mark x) given) (sym is_at)
    (subst (λ (m : ℕ). GoesOn old new at m given) (sym is_mark) g)))

pub earlier-generation : (old new : NumbersState) (at : SamplePlace) (mark : ℕ) (x : PlacedReading)
    (current : List PlacedReading) (closed : List (List PlacedReading)) (given : Booked) → x.place ≡ at → placed_mark x ≡ mark
    → length closed + 1 ≤ old.boot → StandsFor old (current ∷ closed) → Told old at mark Stale
    → Passes old new → given ≡ Past → Follows old new x current closed given
earlier-generation old new at mark x current closed given is_at is_mark last st told p is =
    follows old new x current closed given (ap (λ (s : NumbersState). s.marks.width) p)
    (boot-passes old new x current closed given last st
    (place-told old at mark Stale x current closed is_at is_mark last st told) p is)
