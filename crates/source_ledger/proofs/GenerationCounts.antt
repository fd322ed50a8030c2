-- The generations of boots, and how many samples are in them.
use Rattle.std.proofs.Common.{◌≡◌, ℕ, suc, ◌+◌, ◌<◌, ◌≤◌, List, [], ◌∷◌, ◌++◌, length, map, refl, ◌∙◌, ap, arith}
use Rattle.std.specs.List.{sum_by}
use Rattle.std.proofs.lemmas.List.Sums.{sum_by-cons, sum_by-append}
use Rattle.std.proofs.lemmas.List.{length-append}
use Rattle.count_spec.specs.Stretches.{placed, with_stale}
use Rattle.count_spec.specs.declared.stretch_place.StretchPlace.{StretchPlace}
use Rattle.count_spec.specs.declared.stretch_place.StretchPlace.TheVariants.{Current, Next, Stale}
use Rattle.books_spec.specs.Views.{marks_in}
use Rattle.books_spec.specs.SourceViews.{PlacedReading, placed_mark, over_boots}
use Rattle.source_ledger.specs.Generations.{generations, generation_place, stale_samples, all_generations, source_stretches, generation_count, stale_count}
use Rattle.source_ledger.specs.Numbers.{NumbersState, StandsFor}
use Rattle.source_ledger.specs.Boots.{entered_boots}
use Rattle.source_ledger.proofs.Trims.{trim-length, marks-length}

-- ---- where there is a sample there is a generation that has one

-- the first of these lists has an item
pub record HasFirst (lists : List (List PlacedReading)) : Type 0 where
  pub first : PlacedReading
  pub more : List PlacedReading
  pub closed : List (List PlacedReading)
  pub is : lists ≡ (first ∷ more) ∷ closed

placed-first : (p : StretchPlace) (x : PlacedReading) (lists : List (List PlacedReading)) → HasFirst lists → HasFirst (placed p x lists)
placed-first Current x lists h = record { first = x; more = h.first ∷ h.more; closed = h.closed; is = ap (placed Current x) h.is }
placed-first Next x lists h = record { first = x; more = []; closed = lists; is = refl }
placed-first Stale x lists h = h

pub generations-first : (width : ℕ) (x : PlacedReading) (before : List PlacedReading) → HasFirst (generations width (x ∷ before))
generations-first width x [] = record { first = x; more = []; closed = []; is = refl }
generations-first width x (y ∷ before) =
    placed-first (generation_place width (generations width (y ∷ before)) x) x (generations width (y ∷ before))
    (generations-first width y before)

-- ---- how many there are

placed-sum : (p : StretchPlace) (x : PlacedReading) (lists : List (List PlacedReading)) (stale : List PlacedReading)
    → sum_by length (placed p x lists) + length (with_stale p x stale) ≡ suc (sum_by length lists + length stale)
placed-sum Current x [] stale =
    let a = sum_by-cons (λ (b : List PlacedReading). length b) (x ∷ []) [] in
    omega (arith, a)
placed-sum Current x (list ∷ closed) stale =
    let a = sum_by-cons (λ (b : List PlacedReading). length b) (x ∷ list) closed in
    let b = sum_by-cons (λ (b : List PlacedReading). length b) list closed in
    omega (arith, a, b)
placed-sum Next x lists stale =
    let a = sum_by-cons (λ (b : List PlacedReading). length b) (x ∷ []) lists in
    omega (arith, a)
placed-sum Stale x lists stale = omega arith

boot-sum : (width : ℕ) (boot : List PlacedReading)
    → sum_by length (generations width boot) + length (stale_samples width boot) ≡ length boot
boot-sum width [] = refl
boot-sum width (x ∷ before) =
    placed-sum (generation_place width (generations width before) x) x (generations width before) (stale_samples width before)
    ∙ ap suc (boot-sum width before)

-- each sample is in a generation, or stale
pub samples-sum : (width : ℕ) (boots : List (List PlacedReading))
    → sum_by length (all_generations width boots) + stale_count width boots ≡ sum_by length boots
samples-sum width [] = refl
samples-sum width (boot ∷ closed) =
    let here = boot-sum width boot in
    let later = samples-sum width closed in
    let a = sum_by-append (λ (b : List PlacedReading). length b) (generations width boot) (all_generations width closed) in
    let b = sum_by-cons (λ (b : List PlacedReading). length (stale_samples width b)) boot closed in
    let c = sum_by-cons (λ (b : List PlacedReading). length b) boot closed in
    omega (arith, here, later, a, b, c)

pub marks-sum : (width : ℕ) (boots : List (List PlacedReading))
    → sum_by length (marks_in placed_mark (all_generations width boots)) + stale_count width boots ≡ sum_by length boots
marks-sum width boots =
    let marks = marks-length placed_mark (all_generations width boots) in
    let all = samples-sum width boots in
    omega (arith, marks, all)

pub generations-sum : (width : ℕ) (boots : List (List PlacedReading))
    → length (all_generations width boots) ≡ generation_count width boots
generations-sum width [] = refl
generations-sum width (boot ∷ closed) =
    let later = generations-sum width closed in
    let a = length-append (generations width boot) (all_generations width closed) in
    let b = sum_by-cons (λ (b : List PlacedReading). length (generations width b)) boot closed in
    omega (arith, later, a, b)

-- ---- over boots

-- the generations of all boots are one list, before which an empty one may stand
pub over-cases : (P : List (List PlacedReading) → Type 0) (width : ℕ) (boots : List (List PlacedReading))
    → P (all_generations width boots) → P ([] ∷ all_generations width boots) → P (source_stretches width boots)
over-cases P width [] plain empty = plain
over-cases P width ([] ∷ closed) plain empty = empty
over-cases P width ((x ∷ before) ∷ closed) plain empty =
    let h = generations-first width x before in
    first (generations width (x ∷ before)) h.first h.more h.closed h.is plain
  where
    first : (gs : List (List PlacedReading)) (y : PlacedReading) (ys : List PlacedReading) (more : List (List PlacedReading)) → gs ≡ (y ∷ ys) ∷ more
        → P (gs ++ all_generations width closed)
        → P (over_boots (gs ∷ map (generations width) closed))
    first [] y ys more is p = absurd cc
    first (g ∷ gs) y ys more is p = p

-- ---- how many samples were entered

pub numbers-entered : (s : NumbersState) (boots : List (List PlacedReading)) → StandsFor s boots
    → s.marks.entered + s.stale ≡ sum_by length boots
numbers-entered s boots st =
    let a = st.marks_stand.all_entered in
    let b = st.stale_are in
    let all = marks-sum s.marks.width boots in
    omega (arith, a, b, all)

-- ---- the boot of a view

-- where the last boot has no sample, an empty stretch stands in front
pub over-later : (width boot : ℕ) (boots : List (List PlacedReading)) → boot < length boots
    → boot ≡ length (entered_boots boots) → source_stretches width boots ≡ [] ∷ all_generations width boots
over-later width boot [] later is = absurd (omega (arith, later))
over-later width boot ([] ∷ closed) later is = refl
over-later width boot ((x ∷ before) ∷ closed) later is = absurd (omega (arith, later, is))

pub over-same : (width boot : ℕ) (boots : List (List PlacedReading)) → length boots ≤ boot
    → boot ≡ length (entered_boots boots) → source_stretches width boots ≡ all_generations width boots
over-same width boot [] last is = refl
over-same width boot ([] ∷ closed) last is =
    let few = trim-length closed in
    absurd (omega (arith, last, is, few))
over-same width boot ((x ∷ before) ∷ closed) last is =
    let h = generations-first width x before in
    go (generations width (x ∷ before)) h.first h.more h.closed h.is
  where
    go : (gs : List (List PlacedReading)) (y : PlacedReading) (ys : List PlacedReading) (more : List (List PlacedReading))
        → gs ≡ (y ∷ ys) ∷ more
        → over_boots (gs ∷ map (generations width) closed) ≡ gs ++ all_generations width closed
    go [] y ys more e = absurd cc
    go (g ∷ gs) y ys more e = refl
