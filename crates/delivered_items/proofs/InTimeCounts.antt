-- Of a source's samples as many are in time as are received.
use Rattle.std.proofs.Common.{◌≡◌, ℕ, ◌+◌, ◌<◌, ◌≤◌, inl, inr, Bool, true, false, cond, not, ◌&&◌, List, [], ◌∷◌, ◌++◌, length, map, ℤ, arith, refl, sym, ap, ◌∙◌}
use Rattle.std.specs.List.{AllByRecursion, sum_by}
use Rattle.std.proofs.lemmas.Bool.{cases_order, lt-ltb, le-ltb}
use Rattle.std.proofs.lemmas.List.Sums.{sum_by-cons}
use Rattle.count_spec.specs.Windows.{AreDistinct}
use Rattle.count_spec.specs.Parts.{parts}
use Rattle.count_spec.specs.Stretches.{placed}
use Rattle.count_spec.specs.TrueStretches.{newest_index, stretch_of, true_stretches}
use Rattle.count_spec.specs.declared.stretch_place.StretchPlace.TheVariants.{Current}
use Rattle.count_spec.proofs.TrueStretches.{AreNumbered, true_stretches-step}
use Rattle.books_spec.specs.Views.{closed_sum}
use Rattle.books_spec.specs.SourceViews.{joined, with_current}
use Rattle.account_spec.specs.TrueNumbers.{is_late, in_time, set_of}
use Rattle.account_spec.specs.Arrivals.{Arrived, generation_of, sample_number, sample_numbers}
use Rattle.account_spec.specs.Accounts.{generations_of, generation_figures, figures_over}
use Rattle.account_laws.proofs.Orders.{distinct}
use Rattle.account_laws.proofs.Numbers.{in_time-distinct, set-is-all}
use Rattle.account_laws.proofs.Parts.{place-past, place-later, place-same, none-yet, HasCurrent, current}
use Rattle.account_laws.proofs.Views.{IsGood}
use Rattle.delivered_items.specs.AccountHeaders.{is_in_time}

-- how many of these samples of a source in a boot came in time
abbrev pub in_time_count : ℕ → List Arrived → ℕ
in_time_count width [] = 0
in_time_count width (x ∷ before) = cond (is_in_time width before x) 1 0 + in_time_count width before

-- of one generation
abbrev kept_in : ℕ → List Arrived → ℕ
kept_in width g = length (in_time width (sample_numbers g))

-- ---- by generations

module _ (width : ℕ) (x : Arrived) (us : List Arrived) where
  abbrev rest : Bool → Bool
  rest past = not past && not (is_late width (sample_numbers (stretch_of generation_of (generation_of x) us)) (sample_number x))

  of-later : newest_index generation_of us < generation_of x → is_in_time width us x ≡ true
  of-later h =
      ap rest (le-ltb (generation_of x) (newest_index generation_of us) (omega arith))
      ∙ ap (λ (xs : List Arrived). not (is_late width (sample_numbers xs) (sample_number x))) (none-yet generation_of (generation_of x) us h)

  of-past : generation_of x < newest_index generation_of us → is_in_time width us x ≡ false
  of-past h = ap rest (lt-ltb (generation_of x) (newest_index generation_of us) h)

  of-same : (c : HasCurrent generation_of us) → generation_of x ≡ newest_index generation_of us
      → is_in_time width us x ≡ not (is_late width (sample_numbers (c.head ∷ c.tail)) (sample_number x))
  of-same c same =
      ap rest (le-ltb (generation_of x) (newest_index generation_of us) (omega arith))
      ∙ ap (λ (xs : List Arrived). not (is_late width (sample_numbers xs) (sample_number x)))
      (ap (λ (g : ℕ). stretch_of generation_of g us) same ∙ sym c.is)

one-more : (late : Bool) (n : ℤ) (ns : List ℤ) → length (cond late ns (n ∷ ns)) ≡ cond {A = ℕ} (not late) 1 0 + length ns
one-more true n ns = omega arith
one-more false n ns = omega arith

count-is : (width : ℕ) (xs : List Arrived) → AreNumbered generation_of xs
    → in_time_count width xs ≡ sum_by (kept_in width) (true_stretches generation_of xs)
count-is width [] h = refl
count-is width (x ∷ us) h =
    elim (cases_order (generation_of x) (newest_index generation_of us)) [
      | inl same ↦ on_same us h same (count-is width us h.1)
      | inr other ↦ elim other [
        | inl earlier ↦ on_earlier earlier (count-is width us h.1)
        | inr later ↦ on_later later (count-is width us h.1)
      ]
    ]
  where
    on_later : newest_index generation_of us < generation_of x
        → in_time_count width us ≡ sum_by (kept_in width) (true_stretches generation_of us)
        → in_time_count width (x ∷ us) ≡ sum_by (kept_in width) (true_stretches generation_of (x ∷ us))
    on_later later before =
        let s = ap (sum_by (kept_in width)) (true_stretches-step generation_of x us h
        ∙ ap (λ p. placed p x (true_stretches generation_of us)) (place-later generation_of x us later)) in
        let e = sum_by-cons (kept_in width) (x ∷ []) (true_stretches generation_of us) in
        let b : ◌≡◌ {A = ℕ} (cond (is_in_time width us x) 1 0) 1 = ap (λ (t : Bool). cond {A = ℕ} t 1 0) (of-later width x us later) in
        omega (arith, s, e, b, before)

    on_earlier : generation_of x < newest_index generation_of us
        → in_time_count width us ≡ sum_by (kept_in width) (true_stretches generation_of us)
        → in_time_count width (x ∷ us) ≡ sum_by (kept_in width) (true_stretches generation_of (x ∷ us))
    on_earlier earlier before =
        let s = ap (sum_by (kept_in width)) (true_stretches-step generation_of x us h
        ∙ ap (λ p. placed p x (true_stretches generation_of us)) (place-past generation_of x us earlier)) in
        let b : ◌≡◌ {A = ℕ} (cond (is_in_time width us x) 1 0) 0 = ap (λ (t : Bool). cond {A = ℕ} t 1 0) (of-past width x us earlier) in
        omega (arith, s, b, before)

    on_same : (vs : List Arrived) → AreNumbered generation_of (x ∷ vs) → generation_of x ≡ newest_index generation_of vs
        → in_time_count width vs ≡ sum_by (kept_in width) (true_stretches generation_of vs)
        → in_time_count width (x ∷ vs) ≡ sum_by (kept_in width) (true_stretches generation_of (x ∷ vs))
    on_same [] n same before = let one : 1 ≤ generation_of x = n.0 in absurd (omega arith)
    on_same (y ∷ more) n same before =
        let vs : List Arrived = y ∷ more in
        let c : HasCurrent generation_of vs = current generation_of y more n.1 in
        let late : Bool = is_late width (sample_numbers (c.head ∷ c.tail)) (sample_number x) in
        let s = ap (sum_by (kept_in width)) (true_stretches-step generation_of x vs n
        ∙ ap (λ p. placed p x (true_stretches generation_of vs)) (place-same generation_of x vs same)
        ∙ ap (λ ss. placed Current x ss) c.are) in
        let e = sum_by-cons (kept_in width) (x ∷ c.head ∷ c.tail) c.closed in
        let t = ap (sum_by (kept_in width)) c.are in
        let f = sum_by-cons (kept_in width) (c.head ∷ c.tail) c.closed in
        let b : ◌≡◌ {A = ℕ} (cond (is_in_time width vs x) 1 0) (cond (not late) 1 0) = ap (λ (t : Bool). cond {A = ℕ} t 1 0) (of-same width x vs c same) in
        let k = one-more late (sample_number x) (in_time width (sample_numbers (c.head ∷ c.tail))) in
        omega (arith, s, e, t, f, b, k, before)

-- ---- received

received-is : (width : ℕ) (set : List ℤ) → (parts width set).received ≡ length set
received-is width [] = refl
received-is width (n ∷ more) = refl

one-received : (width rate : ℕ) (g : List Arrived) → IsGood width rate g → (generation_figures width g).received ≡ kept_in width g
one-received width rate g h =
    let ns : List ℤ = sample_numbers g in
    let differ : AreDistinct ns = distinct h.generation g h.of h.order in
    received-is width (set_of (in_time width ns))
    ∙ ap (λ (ms : List ℤ). length ms) (set-is-all (in_time width ns) (in_time-distinct width ns differ))

closed-received : (width rate : ℕ) (gs : List (List Arrived)) → AllByRecursion (IsGood width rate) gs
    → (closed_sum (map (generation_figures width) gs)).received ≡ sum_by (kept_in width) gs
closed-received width rate [] h = refl
closed-received width rate (g ∷ gs) h =
    let here = one-received width rate g h.0 in
    let later = closed-received width rate gs h.1 in
    let e = sum_by-cons (kept_in width) g gs in
    omega (arith, here, later, e)

all-received : (width rate : ℕ) (gs : List (List Arrived)) → AllByRecursion (IsGood width rate) gs
    → (figures_over width gs).received ≡ sum_by (kept_in width) gs
all-received width rate [] h = refl
all-received width rate (g ∷ gs) h =
    let here = one-received width rate g h.0 in
    let later = closed-received width rate gs h.1 in
    let e = sum_by-cons (kept_in width) g gs in
    omega (arith, here, later, e)

-- ---- over boots

sum-append : (width : ℕ) (xs ys : List (List Arrived))
    → sum_by (kept_in width) (xs ++ ys) ≡ sum_by (kept_in width) xs + sum_by (kept_in width) ys
sum-append width [] ys = omega arith
sum-append width (x ∷ xs) ys =
    let a = sum_by-cons (kept_in width) x (xs ++ ys) in
    let b = sum_by-cons (kept_in width) x xs in
    let later = sum-append width xs ys in
    omega (arith, a, b, later)

sum-current : (width : ℕ) (ss : List (List Arrived)) → sum_by (kept_in width) (with_current ss) ≡ sum_by (kept_in width) ss
sum-current width [] = refl
sum-current width (s ∷ ss) = refl

abbrev AllNumbered : List (List Arrived) → Type 0
AllNumbered boots = AllByRecursion (λ (b : List Arrived). AreNumbered generation_of b) boots

sum-joined : (width : ℕ) (boots : List (List Arrived)) → AllNumbered boots
    → sum_by (kept_in width) (joined (map (true_stretches generation_of) boots)) ≡ sum_by (in_time_count width) boots
sum-joined width [] h = refl
sum-joined width (b ∷ more) h =
    let a = sum-append width (true_stretches generation_of b) (joined (map (true_stretches generation_of) more)) in
    let here = count-is width b h.0 in
    let later = sum-joined width more h.1 in
    let e = sum_by-cons (in_time_count width) b more in
    omega (arith, a, here, later, e)

sum-over : (width : ℕ) (boots : List (List Arrived)) → AllNumbered boots
    → sum_by (kept_in width) (generations_of boots) ≡ sum_by (in_time_count width) boots
sum-over width [] h = refl
sum-over width (b ∷ more) h =
    let a = sum-append width (with_current (true_stretches generation_of b)) (joined (map (true_stretches generation_of) more)) in
    let c = sum-current width (true_stretches generation_of b) in
    let here = count-is width b h.0 in
    let later = sum-joined width more h.1 in
    let e = sum_by-cons (in_time_count width) b more in
    omega (arith, a, c, here, later, e)

-- As many are received as are in time
pub received-in_time : (width rate : ℕ) (boots : List (List Arrived)) → AllNumbered boots
    → AllByRecursion (IsGood width rate) (generations_of boots)
    → (figures_over width (generations_of boots)).received ≡ sum_by (in_time_count width) boots
received-in_time width rate boots numbered good =
    all-received width rate (generations_of boots) good ∙ sum-over width boots numbered
