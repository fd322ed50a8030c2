-- What is shown of a source over boots and generations is its account.
use Rattle.std.proofs.Common.{◌≡◌, ℕ, ◌+◌, Bool, true, false, List, [], ◌∷◌, ◌++◌, length, map, ℤ, arith, refl, sym, ap, subst, ◌∙◌}
use Rattle.std.specs.Prelude.{◌^◌, ◌%◌}
use Rattle.std.specs.List.{AllByRecursion, sum_by}
use Rattle.std.proofs.lemmas.List.{length-map, map-append}
use Rattle.std.proofs.lemmas.List.Sums.{sum_by-cons}
use Rattle.count_spec.specs.Rise.{rise, first_values}
use Rattle.count_spec.specs.TrueRise.{RiseByLess}
use Rattle.count_spec.specs.TrueStretches.{true_stretches, past_items}
use Rattle.count_spec.proofs.CounterRises.{rise-of_32_bits, counter_rise-is, step-of_32_bits}
use Rattle.count_spec.proofs.TrueStretches.{AreNumbered}
use Rattle.books_spec.specs.declared.reading.SampleReading.{SampleReading}
use Rattle.books_spec.specs.Views.{figures_of, sum_over, view_with, figures_over, marks_in, rise_over, last_value}
use Rattle.books_spec.specs.Books.{mark_in, pool_in, drops_in, rate_in, readings_view}
use Rattle.books_spec.specs.Generations.{generations, stale_samples}
use Rattle.books_spec.specs.SourceViews.{joined, with_current, over_boots, source_stretches, generation_count, stale_count, PlacedReading, place_in, placed_mark, source_view}
use Rattle.books_spec.proofs.Mapped.{generations-mapped, stale-mapped}
use Rattle.books_spec.proofs.Placed.{reading_in, marks-of, rise-of, last-of, view-of}
use Rattle.account_spec.specs.Deliveries.{reading_shown}
use Rattle.account_spec.specs.TrueNumbers.{AreClose, true_figures}
use Rattle.account_spec.specs.Arrivals.{Arrived, generation_of, sample_numbers}
use Rattle.account_spec.specs.Close.{RiseSlowly}
use Rattle.account_spec.specs.Accounts.{kept, values, difference, differences, pool_of, drops_of, generations_of, generation_figures, figures_over as true_figures_over, ledger_account, source_account}
use Rattle.account_laws.proofs.Lists.{all-both, all-append}
use Rattle.account_laws.proofs.Parts.{AllOf, stretch-all, stretch-index, stretch-pairs, each-stretch, HasCurrent, current}
use Rattle.account_laws.proofs.Numbers.{figures-are, none-repeated}
use Rattle.account_laws.proofs.Orders.{AreInOrder, AreTwo, distinct}
use Rattle.account_laws.proofs.Opened.{mark_shown, marks-shown, place_less}
use Rattle.account_laws.proofs.Split.{AreSound, generations-are, stale-are}
use Rattle.account_laws.proofs.Values.{IsTold, rise-told, kept-distinct, kept-all, kept-pairs, IsMonotone, pool-monotone, drops-monotone, monotone, rate-is}

-- the samples of a boot, and by how much the numbers counted of its datagrams are less than the true ones
pub record BootSamples : Type 0 where
  pub less : ℤ
  pub samples : List Arrived

abbrev pub samples_of : BootSamples → List Arrived
samples_of b = b.samples

-- what is entered of a sample, and of a boot
abbrev pub entered : ℤ → Arrived → PlacedReading
entered c x = record { place = place_less c x; reading = reading_shown x.sample }

abbrev pub entered_of : BootSamples → List PlacedReading
entered_of b = map (entered b.less) b.samples

abbrev pub read : Arrived → SampleReading
read x = reading_shown x.sample

-- what is known of the samples of a source in each boot
pub record IsFair (width rate : ℕ) (xs : List Arrived) : Type 0 where
  pub sound : AreSound xs
  pub rise : AllByRecursion (RiseSlowly width) (true_stretches generation_of xs)
  pub rates : AllByRecursion (λ (x : Arrived). x.sample.rate ≡ rate) xs

-- ---- readings of each generation

map-read : (c : ℤ) (xs : List Arrived) → map reading_in (map (entered c) xs) ≡ map read xs
map-read c [] = refl
map-read c (x ∷ xs) = ap (λ (r : List SampleReading). read x ∷ r) (map-read c xs)

read-all : (c : ℤ) (gs : List (List Arrived)) → map (map reading_in) (map (map (entered c)) gs) ≡ map (map read) gs
read-all c [] = refl
read-all c (g ∷ gs) = let here = map-read c g in let later = read-all c gs in λ j. here j ∷ later j

generations-of : (width : ℕ) (b : BootSamples) → AreSound b.samples
    → generations place_in placed_mark width (entered_of b) ≡ map (map (entered b.less)) (true_stretches generation_of b.samples)
generations-of width b sound =
    generations-mapped (entered b.less) place_in placed_mark width b.samples
    ∙ ap (map (map (entered b.less))) (generations-are b.less width b.samples sound)

boot-readings : (width : ℕ) (b : BootSamples) → AreSound b.samples
    → map (map reading_in) (generations place_in placed_mark width (entered_of b)) ≡ map (map read) (true_stretches generation_of b.samples)
boot-readings width b sound =
    ap (map (map reading_in)) (generations-of width b sound) ∙ read-all b.less (true_stretches generation_of b.samples)

-- ---- over boots

joined-map : {X Y : Type 0} (f : X → Y) (bs : List (List X)) → map f (joined bs) ≡ joined (map (map f) bs)
joined-map f [] = refl
joined-map {X} {Y} f (b ∷ bs) = map-append f b (joined bs) ∙ ap (λ (r : List Y). map f b ++ r) (joined-map f bs)

current-map : {X Y : Type 0} (f : X → Y) (b : List (List X)) → map (map f) (with_current b) ≡ with_current (map (map f) b)
current-map f [] = refl
current-map f (g ∷ gs) = refl

pub over-map : {X Y : Type 0} (f : X → Y) (bs : List (List (List X))) → map (map f) (over_boots bs) ≡ over_boots (map (map (map f)) bs)
over-map f [] = refl
over-map {X} {Y} f (b ∷ bs) =
    map-append (map f) (with_current b) (joined bs)
    ∙ (let here = current-map f b in let later = joined-map (map f) bs in λ j. here j ++ later j)

-- of boots that are sound
abbrev pub AllSound : List BootSamples → Type 0
AllSound bs = AllByRecursion (λ (b : BootSamples). AreSound b.samples) bs

all-readings : (width : ℕ) (bs : List BootSamples) → AllSound bs
    → map (map (map reading_in)) (map (generations place_in placed_mark width) (map entered_of bs))
    ≡ map (map (map read)) (map (true_stretches generation_of) (map samples_of bs))
all-readings width [] h = refl
all-readings width (b ∷ bs) h =
    let here = boot-readings width b h.0 in let later = all-readings width bs h.1 in λ j. here j ∷ later j

readings-are : (width : ℕ) (bs : List BootSamples) → AllSound bs
    → map (map reading_in) (source_stretches place_in placed_mark width (map entered_of bs)) ≡ map (map read) (generations_of (map samples_of bs))
readings-are width bs h =
    over-map reading_in (map (generations place_in placed_mark width) (map entered_of bs))
    ∙ ap over_boots (all-readings width bs h)
    ∙ sym (over-map read (map (true_stretches generation_of) (map samples_of bs)))

-- ---- each generation

pub record IsGood (width rate : ℕ) (xs : List Arrived) : Type 0 where
  pub generation : ℕ
  pub of : AllOf generation_of generation xs
  pub order : AreInOrder xs
  pub close : AreClose (sample_numbers xs)
  pub rise : RiseSlowly width xs
  pub rates : AllByRecursion (λ (x : Arrived). x.sample.rate ≡ rate) xs

-- but for closeness and rise, which are told of each
record IsOfOne (rate : ℕ) (xs : List Arrived) : Type 0 where
  generation : ℕ
  of : AllOf generation_of generation xs
  order : AreInOrder xs
  rates : AllByRecursion (λ (x : Arrived). x.sample.rate ≡ rate) xs

good-boot : (width rate : ℕ) (xs : List Arrived) → IsFair width rate xs → AllByRecursion (IsGood width rate) (true_stretches generation_of xs)
good-boot width rate xs h =
    all-both (λ (s : List Arrived). IsOfOne rate s × AreClose (sample_numbers s)) (RiseSlowly width) (IsGood width rate)
    (λ s a r. record { generation = a.0.generation; of = a.0.of; order = a.0.order; close = a.1; rise = r; rates = a.0.rates })
    (true_stretches generation_of xs)
    (all-both (IsOfOne rate) (λ (s : List Arrived). AreClose (sample_numbers s)) (λ (s : List Arrived). IsOfOne rate s × AreClose (sample_numbers s))
    (λ s a c. (a, c)) (true_stretches generation_of xs)
    (each-stretch generation_of (IsOfOne rate) xs (λ i. record {
      generation = i;
      of = stretch-index generation_of i xs;
      order = stretch-pairs generation_of AreTwo i xs h.sound.order;
      rates = stretch-all generation_of (λ (x : Arrived). x.sample.rate ≡ rate) i xs h.rates;
    }))
    h.sound.close)
    h.rise

abbrev pub AllFair : ℕ → ℕ → List BootSamples → Type 0
AllFair width rate bs = AllByRecursion (λ (b : BootSamples). IsFair width rate b.samples) bs

good-joined : (width rate : ℕ) (bs : List BootSamples) → AllFair width rate bs
    → AllByRecursion (IsGood width rate) (joined (map (true_stretches generation_of) (map samples_of bs)))
good-joined width rate [] h = tt
good-joined width rate (b ∷ bs) h =
    all-append (IsGood width rate) (true_stretches generation_of b.samples) (joined (map (true_stretches generation_of) (map samples_of bs)))
    (good-boot width rate b.samples h.0) (good-joined width rate bs h.1)

good-current : (width rate : ℕ) (gs : List (List Arrived)) → AllByRecursion (IsGood width rate) gs → AllByRecursion (IsGood width rate) (with_current gs)
good-current width rate [] h =
    (record { generation = 0; of = tt; order = tt; close = tt; rise = record { pools = tt; drops = tt }; rates = tt }, tt)
good-current width rate (g ∷ gs) h = h

pub good-over : (width rate : ℕ) (bs : List BootSamples) → AllFair width rate bs
    → AllByRecursion (IsGood width rate) (generations_of (map samples_of bs))
good-over width rate [] h = tt
good-over width rate (b ∷ bs) h =
    all-append (IsGood width rate) (with_current (true_stretches generation_of b.samples))
    (joined (map (true_stretches generation_of) (map samples_of bs)))
    (good-current width rate (true_stretches generation_of b.samples) (good-boot width rate b.samples h.0))
    (good-joined width rate bs h.1)

-- ---- the figures of such generations

figures-true : (width rate : ℕ) (g : List Arrived) → IsGood width rate g
    → figures_of width (map mark_shown g) ≡ generation_figures width g
figures-true width rate g h =
    ap (figures_of width) (marks-shown g) ∙ figures-are width (sample_numbers g) h.close
    ∙ ap (λ (n : ℕ). record (true_figures width (sample_numbers g)) { repeated = n })
    (none-repeated width (sample_numbers g) (distinct h.generation g h.of h.order))

over-true : (width rate : ℕ) (gs : List (List Arrived)) → AllByRecursion (IsGood width rate) gs
    → figures_over width (marks_in mark_shown gs) ≡ true_figures_over width gs
over-true width rate gs h = ap sum_over (each gs h)
  where
    each : (gs : List (List Arrived)) → AllByRecursion (IsGood width rate) gs
        → map (figures_of width) (marks_in mark_shown gs) ≡ map (generation_figures width) gs
    each [] h = refl
    each (g ∷ gs) h = let here = figures-true width rate g h.0 in let later = each gs h.1 in λ j. here j ∷ later j

plus : (a b c d : ℕ) → a ≡ b → c ≡ d → a + c ≡ b + d
plus a b c d e f = omega arith

told : (value : Arrived → ℕ) (width rate : ℕ) (g : List Arrived) → IsMonotone value → IsGood width rate g
    → RiseByLess (2 ^ 32) (values value (kept width g)) → IsTold 4294967296 (values value (kept width g))
told value width rate g mono h less =
    let of = kept-all (λ (x : Arrived). generation_of x ≡ h.generation) width g h.of in
    counter_rise-is 4294967296 step-of_32_bits refl (values value (kept width g))
    (kept-distinct value h.generation width g h.of h.order)
    (monotone value h.generation (kept width g) mono of (kept-pairs AreTwo width g h.order)) less

rises-true : (value : Arrived → ℕ) (width rate : ℕ) → IsMonotone value
    → ((g : List Arrived) → RiseSlowly width g → RiseByLess (2 ^ 32) (values value (kept width g)))
    → (gs : List (List Arrived)) → AllByRecursion (IsGood width rate) gs
    → rise_over mark_shown (λ (x : Arrived). value x % 4294967296) width gs ≡ differences value width gs
rises-true value width rate mono less [] h = refl
rises-true value width rate mono less (g ∷ gs) h =
    sum_by-cons (λ (s : List Arrived). rise (first_values mark_shown (λ (x : Arrived). value x % 4294967296) width s)) g gs
    ∙ plus (rise (first_values mark_shown (λ (x : Arrived). value x % 4294967296) width g)) (difference value width g)
    (rise_over mark_shown (λ (x : Arrived). value x % 4294967296) width gs) (differences value width gs)
    (sym (rise-of_32_bits (first_values mark_shown (λ (x : Arrived). value x % 4294967296) width g))
    ∙ rise-told 4294967296 value h.0.generation width g h.0.of h.0.order h.0.close
    (told value width rate g mono h.0 (less g h.0.rise)))
    (rises-true value width rate mono less gs h.1)
    ∙ sym (sum_by-cons (difference value width) g gs)

-- ---- the rate, where there is a sample

abbrev pub HasSome : {X : Type 0} → List (List X) → Type 0
HasSome [] = ⊥
HasSome ([] ∷ more) = HasSome more
HasSome ((x ∷ xs) ∷ more) = Unit {0}

abbrev pub rate_shown : Arrived → ℕ
rate_shown x = x.sample.rate

rate-true : (width rate : ℕ) (gs : List (List Arrived)) → AllByRecursion (IsGood width rate) gs → HasSome gs
    → last_value mark_shown rate_shown width gs ≡ rate
rate-true width rate [] h some = absurd some
rate-true width rate ([] ∷ gs) h some = rate-true width rate gs h.1 some
rate-true width rate ((x ∷ xs) ∷ gs) h some = rate-is rate_shown rate width x xs h.0.rates

some-behind : {X : Type 0} (xs ys : List (List X)) → HasSome ys → HasSome (xs ++ ys)
some-behind [] ys h = h
some-behind ([] ∷ more) ys h = some-behind more ys h
some-behind ((x ∷ xs) ∷ more) ys h = tt

some-front : {X : Type 0} (xs ys : List (List X)) → HasSome xs → HasSome (xs ++ ys)
some-front [] ys h = absurd h
some-front ([] ∷ more) ys h = some-front more ys h
some-front ((x ∷ xs) ∷ more) ys h = tt

some-boot : (x : Arrived) (xs : List Arrived) → AreNumbered generation_of (x ∷ xs) → HasSome (true_stretches generation_of (x ∷ xs))
some-boot x xs numbered =
    let c : HasCurrent generation_of (x ∷ xs) = current generation_of x xs numbered in
    subst HasSome (sym c.are) tt

some-joined : (bs : List BootSamples) → AllSound bs → HasSome (map samples_of bs)
    → HasSome (joined (map (true_stretches generation_of) (map samples_of bs)))
some-joined [] h some = some
some-joined (b ∷ bs) h some = go b.samples h.0 some (some-joined bs h.1)
  where
    rest : List (List Arrived)
    rest = joined (map (true_stretches generation_of) (map samples_of bs))

    go : (xs : List Arrived) → AreSound xs → HasSome (xs ∷ map samples_of bs) → (HasSome (map samples_of bs) → HasSome rest)
        → HasSome (true_stretches generation_of xs ++ rest)
    go [] sound some later = later some
    go (x ∷ xs) sound some later = some-front (true_stretches generation_of (x ∷ xs)) rest (some-boot x xs sound.numbered)

some-current : {X : Type 0} (xs : List (List X)) → HasSome xs → HasSome (with_current xs)
some-current [] h = h
some-current (x ∷ xs) h = h

pub some-over : (bs : List BootSamples) → AllSound bs → HasSome (map samples_of bs) → HasSome (generations_of (map samples_of bs))
some-over [] h some = some
some-over (b ∷ bs) h some = go b.samples h.0 some (some-joined bs h.1)
  where
    rest : List (List Arrived)
    rest = joined (map (true_stretches generation_of) (map samples_of bs))

    go : (xs : List Arrived) → AreSound xs → HasSome (xs ∷ map samples_of bs) → (HasSome (map samples_of bs) → HasSome rest)
        → HasSome (with_current (true_stretches generation_of xs) ++ rest)
    go [] sound some later = later some
    go (x ∷ xs) sound some later =
        some-front (with_current (true_stretches generation_of (x ∷ xs))) rest
        (some-current (true_stretches generation_of (x ∷ xs)) (some-boot x xs sound.numbered))

-- ---- the view

pub sound-all : (width rate : ℕ) (bs : List BootSamples) → AllFair width rate bs → AllSound bs
sound-all width rate [] h = tt
sound-all width rate (b ∷ bs) h = (h.0.sound, sound-all width rate bs h.1)

ledger-is : (flow : Bool) (width rate : ℕ) (gs : List (List Arrived)) → AllByRecursion (IsGood width rate) gs → HasSome gs
    → readings_view flow width (map (map read) gs) ≡ ledger_account flow width rate gs
ledger-is true width rate gs good some =
    let figures = ap (figures_over width) (marks-of read mark_in gs) ∙ over-true width rate gs good in
    let pool = rise-of read mark_in pool_in width gs
    ∙ rises-true pool_of width rate pool-monotone (λ g r. r.pools) gs good in
    let drops = rise-of read mark_in drops_in width gs
    ∙ rises-true drops_of width rate drops-monotone (λ g r. r.drops) gs good in
    let last = last-of read mark_in rate_in width gs ∙ rate-true width rate gs good some in
    λ j. view_with (figures j) (pool j) (drops j) (last j)
ledger-is false width rate gs good some =
    let figures = ap (figures_over width) (marks-of read mark_in gs) ∙ over-true width rate gs good in
    λ j. view_with (figures j) 0 0 0

count-is : (width : ℕ) (bs : List BootSamples) → AllSound bs
    → generation_count place_in placed_mark width (map entered_of bs)
    ≡ sum_by (λ boot. length (true_stretches generation_of boot)) (map samples_of bs)
count-is width [] h = refl
count-is width (b ∷ bs) h =
    sum_by-cons (λ boot. length (generations place_in placed_mark width boot)) (entered_of b) (map entered_of bs)
    ∙ plus (length (generations place_in placed_mark width (entered_of b))) (length (true_stretches generation_of b.samples))
    (generation_count place_in placed_mark width (map entered_of bs))
    (sum_by (λ boot. length (true_stretches generation_of boot)) (map samples_of bs))
    (ap length (generations-of width b h.0) ∙ length-map (true_stretches generation_of b.samples) (map (entered b.less)))
    (count-is width bs h.1)
    ∙ sym (sum_by-cons (λ boot. length (true_stretches generation_of boot)) b.samples (map samples_of bs))

stale-is : (width : ℕ) (bs : List BootSamples) → AllSound bs
    → stale_count place_in placed_mark width (map entered_of bs)
    ≡ sum_by (λ boot. length (past_items generation_of boot)) (map samples_of bs)
stale-is width [] h = refl
stale-is width (b ∷ bs) h =
    sum_by-cons (λ boot. length (stale_samples place_in placed_mark width boot)) (entered_of b) (map entered_of bs)
    ∙ plus (length (stale_samples place_in placed_mark width (entered_of b))) (length (past_items generation_of b.samples))
    (stale_count place_in placed_mark width (map entered_of bs))
    (sum_by (λ boot. length (past_items generation_of boot)) (map samples_of bs))
    (ap length (stale-mapped (entered b.less) place_in placed_mark width b.samples
    ∙ ap (map (entered b.less)) (stale-are b.less width b.samples h.0))
    ∙ length-map (past_items generation_of b.samples) (entered b.less))
    (stale-is width bs h.1)
    ∙ sym (sum_by-cons (λ boot. length (past_items generation_of boot)) b.samples (map samples_of bs))

-- The view of a source is its account
pub source-view-is : (flow : Bool) (width rate : ℕ) (bs : List BootSamples) → AllFair width rate bs → HasSome (map samples_of bs)
    → source_view flow width (map entered_of bs) ≡ source_account flow width rate (map samples_of bs)
source-view-is flow width rate bs fair some =
    let sound = sound-all width rate bs fair in
    let gs : List (List Arrived) = generations_of (map samples_of bs) in
    let count = count-is width bs sound in
    let ledger = view-of flow width (source_stretches place_in placed_mark width (map entered_of bs))
    ∙ ap (readings_view flow width) (readings-are width bs sound)
    ∙ ledger-is flow width rate gs (good-over width rate bs fair) (some-over bs sound some) in
    let stale = stale-is width bs sound in
    λ j. record { generations = count j; ledger = ledger j; stale = stale j }
