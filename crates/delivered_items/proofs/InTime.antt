-- A sample is First by the books exactly where it is in time by its agent's own numbers.
use Rattle.std.proofs.Common.{◌≡◌, ℕ, ◌<◌, ◌≤◌, inl, inr, Bool, true, false, cond, not, ◌&&◌, List, [], ◌∷◌, map, ℤ, ◌-ℤ◌, arith, refl, sym, ap, subst, ◌∙◌}
use Rattle.std.specs.Prelude.{int_le}
use Rattle.std.specs.List.{AllByRecursion}
use Rattle.std.proofs.lemmas.Bool.{cases_order, lt-ltb, le-ltb}
use Rattle.count_spec.specs.Windows.{near, mark_of, greatest, has, place, answer, counted, is_first}
use Rattle.count_spec.specs.Stretches.{placed}
use Rattle.count_spec.specs.TrueStretches.{newest_index, stretch_of, true_stretches, true_place}
use Rattle.count_spec.specs.declared.entered.Place.{Place}
use Rattle.count_spec.specs.declared.entered.Entered.TheVariants.{First, Repeat, Late}
use Rattle.count_spec.specs.declared.stretch_place.StretchPlace.{StretchPlace}
use Rattle.count_spec.specs.declared.stretch_place.StretchPlace.TheVariants.{Current, Next, Stale}
use Rattle.count_spec.proofs.TrueStretches.{true_stretches-step}
use Rattle.books_spec.specs.declared.sample_place.SamplePlace.{SamplePlace}
use Rattle.books_spec.specs.Generations.{is_before, greatest_place, with_place, first_places, opening_place, does_not_rise, opens, is_before_opening, generation_place, booked_at, booked}
use Rattle.books_spec.specs.SourceViews.{PlacedReading, place_in, placed_mark}
use Rattle.books_spec.specs.SampledHeaders.{is_first_booked}
use Rattle.books_spec.proofs.Mapped.{generations-mapped}
use Rattle.books_spec.proofs.Generations.{booked-step}
use Rattle.account_spec.specs.TrueNumbers.{is_late, in_time, AreClose}
use Rattle.account_spec.specs.Arrivals.{Arrived, generation_of, sample_number, sample_numbers}
use Rattle.account_laws.proofs.Moved.{base}
use Rattle.account_laws.proofs.Numbers.{true_set, answer-is, has-in_time}
use Rattle.account_laws.proofs.Parts.{place-past, place-later, place-same, none-yet, HasCurrent, current, current-of, current-has, current-pairs}
use Rattle.account_laws.proofs.Orders.{AreTwo, distinct}
use Rattle.account_laws.proofs.Split.{AreSound, sound-before, place-is, generations-are}
use Rattle.account_laws.proofs.Views.{entered}
use Rattle.delivered_items.specs.AccountHeaders.{is_in_time}

-- ---- where a sample belongs depends on places and marks alone

module _ {X Y : Type 0} (f : X → Y) (place_y : Y → SamplePlace) (mark_y : Y → ℕ) where
  abbrev place_x : X → SamplePlace
  place_x x = place_y (f x)

  abbrev mark_x : X → ℕ
  mark_x x = mark_y (f x)

  marks-mapped : (xs : List X) → map mark_y (map f xs) ≡ map mark_x xs
  marks-mapped [] = refl
  marks-mapped (x ∷ xs) = ap (λ (more : List ℕ). mark_y (f x) ∷ more) (marks-mapped xs)

  places-mapped : (width : ℕ) (xs : List X) → first_places place_y mark_y width (map f xs) ≡ first_places place_x mark_x width xs
  places-mapped width [] = refl
  places-mapped width (x ∷ xs) =
      let marks = marks-mapped xs in
      let later = places-mapped width xs in
      λ j. with_place (answer width (counted width (marks j)) (mark_y (f x))) (place_y (f x)) (later j)

  opening-mapped : (xs : List X) → opening_place place_y mark_y (map f xs) ≡ opening_place place_x mark_x xs
  opening-mapped [] = refl
  opening-mapped (x ∷ []) = refl
  opening-mapped (x ∷ y ∷ more) = opening-mapped (y ∷ more)

  opens-mapped : (width : ℕ) (now : List X) (x : X) → opens place_y mark_y width (map f now) (f x) ≡ opens place_x mark_x width now x
  opens-mapped width now x =
      let places = places-mapped width now in
      let marks : does_not_rise place_y mark_y width (map f now) (mark_y (f x)) ≡ does_not_rise place_x mark_x width now (mark_y (f x)) =
      ap (λ (ms : List ℕ). int_le (near (mark_y (f x)) (greatest (counted width ms))) (greatest (counted width ms))) (marks-mapped now) in
      λ j. is_before (greatest_place (places j)) (place_y (f x)) && marks j

  before-mapped : (now : List X) (closed : List (List X)) (x : X)
      → is_before_opening place_y mark_y (map f now) (map (map f) closed) (f x) ≡ is_before_opening place_x mark_x now closed x
  before-mapped now [] x = refl
  before-mapped now (last ∷ more) x = ap (λ (p : SamplePlace). is_before (place_y (f x)) p) (opening-mapped now)

  place-mapped : (width : ℕ) (gs : List (List X)) (x : X)
      → generation_place place_y mark_y width (map (map f) gs) (f x) ≡ generation_place place_x mark_x width gs x
  place-mapped width [] x = refl
  place-mapped width (now ∷ closed) x =
      let opened = opens-mapped width now x in
      let stale = before-mapped now closed x in
      λ j. cond (opened j) Next (cond (stale j) Stale Current)

-- ---- the answer

shown-marks : (c : ℤ) (xs : List Arrived) → map placed_mark (map (entered c) xs) ≡ map mark_of (sample_numbers xs)
shown-marks c [] = refl
shown-marks c (x ∷ xs) = ap (λ (ms : List ℕ). mark_of (sample_number x) ∷ ms) (shown-marks c xs)

first-where : (late : Bool) (again : Bool) (p : Place) (n : ℤ) → again ≡ false
    → is_first (cond late Late (cond again Repeat (First p n))) ≡ not late
first-where true again p n e = refl
first-where false again p n e = ap (λ (b : Bool). is_first (cond b Repeat (First p n))) e

module _ (c : ℤ) (width : ℕ) (x : Arrived) where
  abbrev shown : List (List Arrived) → List (List PlacedReading)
  shown gs = map (map (entered c)) gs

  abbrev FirstAt : StretchPlace → List (List Arrived) → Bool
  FirstAt p gs = is_first_booked (booked_at place_in placed_mark width p (shown gs) (placed_mark (entered c x)))

  not-past : (us : List Arrived) → newest_index generation_of us ≤ generation_of x
      → not (is_late width (sample_numbers (stretch_of generation_of (generation_of x) us)) (sample_number x)) ≡ is_in_time width us x
  not-past us h =
      let late : Bool = is_late width (sample_numbers (stretch_of generation_of (generation_of x) us)) (sample_number x) in
      sym (ap (λ (b : Bool). not b && not late) (le-ltb (generation_of x) (newest_index generation_of us) h))

  on_later : (us : List Arrived) (gs : List (List Arrived)) → newest_index generation_of us < generation_of x
      → FirstAt Next gs ≡ is_in_time width us x
  on_later us gs later =
      sym (ap (λ (xs : List Arrived). not (is_late width (sample_numbers xs) (sample_number x))) (none-yet generation_of (generation_of x) us later))
      ∙ not-past us (omega arith)

  on_earlier : (us : List Arrived) (gs : List (List Arrived)) → generation_of x < newest_index generation_of us
      → FirstAt Stale gs ≡ is_in_time width us x
  on_earlier us gs earlier =
      let late : Bool = is_late width (sample_numbers (stretch_of generation_of (generation_of x) us)) (sample_number x) in
      sym (ap (λ (b : Bool). not b && not late) (lt-ltb (generation_of x) (newest_index generation_of us) earlier))

  module _ (y : Arrived) (before : List Arrived) (sound : AreSound (x ∷ y ∷ before)) where
    abbrev us : List Arrived
    us = y ∷ before

    abbrev cur : HasCurrent generation_of us
    cur = current generation_of y before sound.numbered.1

    near_x : generation_of x ≡ newest_index generation_of us → AreClose (sample_numbers (x ∷ cur.head ∷ cur.tail))
    near_x same = (subst (AllByRecursion (λ (s : List Arrived). AreClose (sample_numbers s)))
        (true_stretches-step generation_of x us sound.numbered
        ∙ ap (λ p. placed p x (true_stretches generation_of us)) (place-same generation_of x us same)
        ∙ ap (λ ss. placed Current x ss) cur.are) sound.close).0

    new : generation_of x ≡ newest_index generation_of us → has (sample_numbers (cur.head ∷ cur.tail)) (sample_number x) ≡ false
    new same = (distinct (newest_index generation_of us) (x ∷ cur.head ∷ cur.tail)
        (same, current-of generation_of us cur)
        (current-has generation_of (AreTwo x) us cur sound.order.0, current-pairs generation_of AreTwo us cur sound.order.1)).0

    on_same : generation_of x ≡ newest_index generation_of us → FirstAt Current (true_stretches generation_of us) ≡ is_in_time width us x
    on_same same =
        let ns : List ℤ = sample_numbers (cur.head ∷ cur.tail) in
        let n : ℤ = sample_number x in
        ap (λ (gs : List (List Arrived)). FirstAt Current gs) cur.are
        ∙ ap (λ (ms : List ℕ). is_first (answer width (counted width ms) (mark_of n))) (shown-marks c (cur.head ∷ cur.tail))
        ∙ ap is_first (answer-is width n (sample_number cur.head) (sample_numbers cur.tail) (near_x same))
        ∙ first-where (is_late width ns n) (has (in_time width ns) n) (place (true_set width (base ns) ns) (n -ℤ base ns)) (n -ℤ base ns)
        (has-in_time width n ns (new same))
        ∙ ap (λ (xs : List Arrived). not (is_late width (sample_numbers xs) n))
        (cur.is ∙ ap (λ (g : ℕ). stretch_of generation_of g us) (sym same))
        ∙ not-past us (omega arith)

    first-after : FirstAt (true_place generation_of us x) (true_stretches generation_of us) ≡ is_in_time width us x
    first-after = elim (cases_order (generation_of x) (newest_index generation_of us)) [
      | inl same ↦ ap (λ p. FirstAt p (true_stretches generation_of us)) (place-same generation_of x us same) ∙ on_same same
      | inr other ↦ elim other [
        | inl earlier ↦ ap (λ p. FirstAt p (true_stretches generation_of us)) (place-past generation_of x us earlier)
            ∙ on_earlier us (true_stretches generation_of us) earlier
        | inr later ↦ ap (λ p. FirstAt p (true_stretches generation_of us)) (place-later generation_of x us later)
            ∙ on_later us (true_stretches generation_of us) later
      ]
    ]

-- The answer to a sample is First exactly where it is in time
pub booked-in_time : (c : ℤ) (width : ℕ) (x : Arrived) (xs : List Arrived) → AreSound (x ∷ xs)
    → is_first_booked (booked place_in placed_mark width (map (entered c) xs) (entered c x)) ≡ is_in_time width xs x
booked-in_time c width x [] sound =
    let one : 1 ≤ generation_of x = sound.numbered.0 in
    on_later c width x [] [] (omega arith)
booked-in_time c width x (y ∷ before) sound =
    let us : List Arrived = y ∷ before in
    let gs : List (List Arrived) = true_stretches generation_of us in
    ap is_first_booked (booked-step place_in placed_mark width (entered c x) (map (entered c) us) (map (map (entered c)) gs) (true_place generation_of us x)
    (generations-mapped (entered c) place_in placed_mark width us
    ∙ ap (map (map (entered c))) (generations-are c width us (sound-before x y before sound)))
    (place-mapped (entered c) place_in placed_mark width gs x ∙ place-is c width x y before sound))
    ∙ first-after c width x y before sound
