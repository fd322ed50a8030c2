-- Views over the generations of all boots.
use Rattle.std.proofs.Common.{◌≡◌, ℕ, suc, ◌+◌, Bool, true, false, List, [], ◌∷◌, ◌++◌, length, map, refl, sym, ap, ◌∙◌, arith}
use Rattle.std.specs.List.{count_by, sum_by}
use Rattle.std.proofs.lemmas.List.Sums.{sum_by-cons, sum_by-append}
use Rattle.count_spec.specs.Stretches.{placed, with_stale}
use Rattle.count_spec.specs.declared.stretch_place.StretchPlace.{StretchPlace}
use Rattle.count_spec.specs.declared.stretch_place.StretchPlace.TheVariants.{Current, Next, Stale}
use Rattle.count_spec.proofs.Stretches.{stretches-count}
use Rattle.count_spec.proofs.Counts.{count_by-cons}
use Rattle.books_spec.specs.declared.sample_place.SamplePlace.{SamplePlace}
use Rattle.books_spec.specs.Generations.{opens, is_before_opening, generation_place, generations, stale_samples}
use Rattle.books_spec.specs.Views.{marks_in}
use Rattle.books_spec.specs.SourceViews.{joined, with_current, over_boots, source_stretches, stale_count, PlacedReading, place_in, placed_mark, stretches_view, source_view}
use Rattle.books_spec.proofs.Sums.{closed-pending, over-issued, over-marks}
use Rattle.books_spec.proofs.Generations.{generations-open, generations-stay}

-- ---- conservation

pub stretches-issued : (flow : Bool) (width : ℕ) (xs : List (List PlacedReading))
    → (stretches_view flow width xs).issued
    ≡ (stretches_view flow width xs).received + (stretches_view flow width xs).pending + (stretches_view flow width xs).lost
stretches-issued true width xs = over-issued width (marks_in placed_mark xs)
stretches-issued false width xs = over-issued width (marks_in placed_mark xs)

marks-length : {X : Type 0} (mark : X → ℕ) (xs : List (List X)) → sum_by length (marks_in mark xs) ≡ sum_by length xs
marks-length mark [] = refl
marks-length {X} mark (x ∷ more) =
    let new = sum_by-cons (λ (ms : List ℕ). length ms) (map mark x) (marks_in mark more) in
    let old = sum_by-cons (λ (xs : List X). length xs) x more in
    let later = marks-length mark more in
    let here = mapped x in
    omega (arith, new, old, later, here)
  where
    mapped : (xs : List X) → length (map mark xs) ≡ length xs
    mapped [] = refl
    mapped (x ∷ xs) = ap suc (mapped xs)

pub stretches-marks : (flow : Bool) (width : ℕ) (xs : List (List PlacedReading))
    → (stretches_view flow width xs).received + (stretches_view flow width xs).repeated + (stretches_view flow width xs).late
    ≡ sum_by length xs
stretches-marks true width xs = over-marks width (marks_in placed_mark xs) ∙ marks-length placed_mark xs
stretches-marks false width xs = over-marks width (marks_in placed_mark xs) ∙ marks-length placed_mark xs

-- ---- each sample is in one generation, or stale

with_current-sum : {X : Type 0} (f : List X → ℕ) → f [] ≡ 0 → (gs : List (List X))
    → sum_by f (with_current gs) ≡ sum_by f gs
with_current-sum f none [] = sum_by-cons f [] [] ∙ rw none refl
with_current-sum f none (g ∷ gs) = refl

joined-sum : {X : Type 0} (f : List X → ℕ) (gss : List (List (List X)))
    → sum_by f (joined gss) ≡ sum_by (λ gs. sum_by f gs) gss
joined-sum f [] = refl
joined-sum {X} f (gs ∷ more) =
    let here = sum_by-append f gs (joined more) in
    let later = joined-sum f more in
    let both = sum_by-cons (λ (hs : List (List X)). sum_by f hs) gs more in
    omega (arith, here, later, both)

pub over_boots-sum : {X : Type 0} (f : List X → ℕ) → f [] ≡ 0 → (gss : List (List (List X)))
    → sum_by f (over_boots gss) ≡ sum_by (λ gs. sum_by f gs) gss
over_boots-sum f none [] = refl
over_boots-sum {X} f none (gs ∷ more) =
    let here = sum_by-append f (with_current gs) (joined more) in
    let first = with_current-sum f none gs in
    let later = joined-sum f more in
    let both = sum_by-cons (λ (hs : List (List X)). sum_by f hs) gs more in
    omega (arith, here, first, later, both)

module _ {X : Type 0} (place : X → SamplePlace) (mark : X → ℕ) where
  boot-count : (width : ℕ) (test : X → Bool) (boot : List X)
      → sum_by (count_by test) (generations place mark width boot) + count_by test (stale_samples place mark width boot)
      ≡ count_by test boot
  boot-count width test boot = stretches-count (generation_place place mark width) test boot

  pub samples-count : (width : ℕ) (test : X → Bool) (boots : List (List X))
      → sum_by (count_by test) (source_stretches place mark width boots)
      + sum_by (λ boot. count_by test (stale_samples place mark width boot)) boots
      ≡ sum_by (count_by test) boots
  samples-count width test boots =
      let all = over_boots-sum (count_by test) refl (map (generations place mark width) boots) in
      let each = sums boots in
      omega (arith, all, each)
    where
      sums : (bs : List (List X))
          → sum_by (λ (gs : List (List X)). sum_by (count_by test) gs) (map (generations place mark width) bs)
          + sum_by (λ boot. count_by test (stale_samples place mark width boot)) bs
          ≡ sum_by (count_by test) bs
      sums [] = refl
      sums (b ∷ more) =
          let later = sums more in
          let one = boot-count width test b in
          let a = sum_by-cons (λ (gs : List (List X)). sum_by (count_by test) gs) (generations place mark width b)
          (map (generations place mark width) more) in
          let c = sum_by-cons (λ (boot : List X). count_by test (stale_samples place mark width boot)) b more in
          let d = sum_by-cons (count_by test) b more in
          omega (arith, later, one, a, c, d)

  count-all : (xs : List X) → count_by (λ (x : X). true) xs ≡ length xs
  count-all [] = refl
  count-all (x ∷ more) =
      let here = count_by-cons (λ (y : X). true) x more in
      let later = count-all more in
      omega (arith, here, later)

  pub samples-length : (width : ℕ) (boots : List (List X))
      → sum_by length (source_stretches place mark width boots) + stale_count place mark width boots
      ≡ sum_by length boots
  samples-length width boots =
      let all = samples-count width (λ (x : X). true) boots in
      let a : sum_by (count_by (λ (x : X). true)) (source_stretches place mark width boots)
      ≡ sum_by length (source_stretches place mark width boots) =
      λ j. sum_by (λ (xs : List X). count-all xs j) (source_stretches place mark width boots) in
      let b : sum_by (λ boot. count_by (λ (x : X). true) (stale_samples place mark width boot)) boots
      ≡ stale_count place mark width boots =
      λ j. sum_by (λ (boot : List X). count-all (stale_samples place mark width boot) j) boots in
      let c : sum_by (count_by (λ (x : X). true)) boots ≡ sum_by length boots =
      λ j. sum_by (λ (xs : List X). count-all xs j) boots in
      omega (arith, all, a, b, c)

  -- ---- the stretches, one sample or one boot further

  -- the generations of the closed boots
  abbrev closed_generations : ℕ → List (List X) → List (List X)
  closed_generations width closed = joined (map (generations place mark width) closed)

  placed-current : (p : StretchPlace) (x : X) (gs : List (List X)) → with_current gs ≡ gs
      → with_current (placed p x gs) ≡ placed p x gs
  placed-current Current x [] h = refl
  placed-current Current x (current ∷ closed) h = refl
  placed-current Next x gs h = refl
  placed-current Stale x gs h = h

  -- where there is a sample there is a generation
  generations-current : (width : ℕ) (x : X) (before : List X)
      → with_current (generations place mark width (x ∷ before)) ≡ generations place mark width (x ∷ before)
  generations-current width x [] = refl
  generations-current width x (y ∷ more) =
      let gs : List (List X) = generations place mark width (y ∷ more) in
      placed-current (generation_place place mark width gs x) x gs (generations-current width y more)

  pub stretches-new_boot : (width : ℕ) (x : X) (before : List X) (closed : List (List X))
      → source_stretches place mark width ([] ∷ (x ∷ before) ∷ closed)
      ≡ [] ∷ source_stretches place mark width ((x ∷ before) ∷ closed)
  stretches-new_boot width x before closed =
      sym (ap (λ gs. [] ∷ (gs ++ closed_generations width closed)) (generations-current width x before))

  pub stretches-open : (width : ℕ) (x : X) (before current : List X) (gone : List (List X)) (closed : List (List X))
      → generations place mark width before ≡ current ∷ gone → opens place mark width current x ≡ true
      → source_stretches place mark width ((x ∷ before) ∷ closed)
      ≡ (x ∷ []) ∷ source_stretches place mark width (before ∷ closed)
  stretches-open width x before current gone closed are e =
      ap (λ gs. with_current gs ++ closed_generations width closed)
      (generations-open place mark width x before current gone are e)
      ∙ ap (λ gs. (x ∷ []) ∷ (with_current gs ++ closed_generations width closed)) (sym are)

  pub stretches-stay : (width : ℕ) (x : X) (before current : List X) (gone : List (List X)) (closed : List (List X))
      → generations place mark width before ≡ current ∷ gone → opens place mark width current x ≡ false
      → is_before_opening place mark current gone x ≡ false
      → (rest : List (List X)) × (source_stretches place mark width (before ∷ closed) ≡ current ∷ rest)
      × (source_stretches place mark width ((x ∷ before) ∷ closed) ≡ (x ∷ current) ∷ rest)
  stretches-stay width x before current gone closed are e f = (
    gone ++ closed_generations width closed,
    ap (λ gs. with_current gs ++ closed_generations width closed) are,
    ap (λ gs. with_current gs ++ closed_generations width closed)
        (generations-stay place mark width x before current gone are e f),
  )

  -- ---- a stale sample

  pub stretches-past : (width : ℕ) (x : X) (before : List X) (closed : List (List X))
      → generation_place place mark width (generations place mark width before) x ≡ Stale
      → source_stretches place mark width ((x ∷ before) ∷ closed) ≡ source_stretches place mark width (before ∷ closed)
  stretches-past width x before closed e =
      ap (λ p. with_current (placed p x (generations place mark width before)) ++ closed_generations width closed) e

  pub stale-past : (width : ℕ) (x : X) (before : List X) (closed : List (List X))
      → generation_place place mark width (generations place mark width before) x ≡ Stale
      → stale_count place mark width ((x ∷ before) ∷ closed) ≡ stale_count place mark width (before ∷ closed) + 1
  stale-past width x before closed e =
      let one : length (stale_samples place mark width (x ∷ before)) ≡ suc (length (stale_samples place mark width before)) =
      ap (λ p. length (with_stale p x (stale_samples place mark width before))) e in
      let new = sum_by-cons (λ (boot : List X). length (stale_samples place mark width boot)) (x ∷ before) closed in
      let old = sum_by-cons (λ (boot : List X). length (stale_samples place mark width boot)) before closed in
      omega (arith, one, new, old)

-- nothing is pending where the current boot has no sample
pub none-pending : (flow : Bool) (width : ℕ) (closed : List (List PlacedReading))
    → (source_view flow width ([] ∷ closed)).ledger.pending ≡ 0
none-pending flow width closed = go flow (joined (map (generations place_in placed_mark width) closed))
  where
    go : (b : Bool) (xs : List (List PlacedReading)) → (stretches_view b width ([] ∷ xs)).pending ≡ 0
    go true xs = let none = closed-pending width (marks_in placed_mark xs) in omega (arith, none)
    go false xs = let none = closed-pending width (marks_in placed_mark xs) in omega (arith, none)
