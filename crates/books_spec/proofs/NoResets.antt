-- Boots of one generation each: their views are those of the boots.
use Rattle.std.proofs.Common.{◌≡◌, ℕ, ◌≤◌, Bool, true, false, cond, List, [], ◌∷◌, ◌++◌, length, map, refl, sym, ap, ◌∙◌, arith}
use Rattle.std.specs.List.{count_by, AllByRecursion}
use Rattle.std.specs.Prelude.{nat_le}
use Rattle.std.proofs.lemmas.Bool.{le-leb}
use Rattle.std.proofs.lemmas.List.Sums.{sum_by-cons}
use Rattle.count_spec.specs.Stretches.{placed, with_stale}
use Rattle.count_spec.specs.Rise.{rise, first_values}
use Rattle.count_spec.specs.declared.stretch_place.StretchPlace.TheVariants.{Current, Next}
use Rattle.count_spec.proofs.Counts.{count_by-cons}
use Rattle.books_spec.specs.declared.sample_place.SamplePlace.{SamplePlace}
use Rattle.books_spec.specs.Generations.{opens, generation_place, generations, stale_samples}
use Rattle.books_spec.specs.Views.{figures_of, closing, sum_of, closed_figures, marks_in, rise_over, last_value, view_with}
use Rattle.books_spec.specs.SourceViews.{joined, with_current, over_boots, source_stretches, generation_count, stale_count, PlacedReading, place_in, placed_mark, placed_pool, placed_drops, placed_rate, stretches_view, source_view}
use Rattle.books_spec.proofs.Sums.{sum_of-none}
use Rattle.books_spec.proofs.Generations.{generations-length}

-- these as one stretch, or none where there are none
abbrev pub whole : {X : Type 0} → List X → List (List X)
whole [] = []
whole (x ∷ before) = (x ∷ before) ∷ []

abbrev pub has_some : {X : Type 0} → List X → Bool
has_some xs = nat_le 1 (length xs)

module _ {X : Type 0} (place : X → SamplePlace) (mark : X → ℕ) where
  -- samples of which there is one generation at most are in it, and none is stale
  pub whole-boot : (width : ℕ) (boot : List X) → length (generations place mark width boot) ≤ 1
      → (generations place mark width boot ≡ whole boot) × (stale_samples place mark width boot ≡ [])
  whole-boot width [] few = (refl, refl)
  whole-boot width (x ∷ []) few = (refl, refl)
  whole-boot width (x ∷ y ∷ more) few =
      let shorter = generations-length place mark width x (y ∷ more) in
      let first = shorter.0 in
      let earlier = whole-boot width (y ∷ more) (omega (arith, first, few)) in
      let are : generations place mark width (x ∷ y ∷ more)
      ≡ placed (cond (opens place mark width (y ∷ more) x) Next Current) x ((y ∷ more) ∷ []) =
      ap (λ gs. placed (generation_place place mark width gs x) x gs) earlier.0 in
      let long : length (generations place mark width (x ∷ y ∷ more))
      ≡ length (placed (cond (opens place mark width (y ∷ more) x) Next Current) x ((y ∷ more) ∷ [])) = ap length are in
      let now = go (opens place mark width (y ∷ more) x) (omega (arith, long, few)) in (
        are ∙ now.0,
        ap (λ gs. with_stale (generation_place place mark width gs x) x (stale_samples place mark width (y ∷ more))) earlier.0
            ∙ ap (λ stale. with_stale (cond (opens place mark width (y ∷ more) x) Next Current) x stale) earlier.1
            ∙ now.1,
      )
    where
      go : (b : Bool) → length (placed (cond b Next Current) x ((y ∷ more) ∷ [])) ≤ 1
          → (placed (cond b Next Current) x ((y ∷ more) ∷ []) ≡ (x ∷ y ∷ more) ∷ [])
          × (with_stale (cond b Next Current) x [] ≡ [])
      go true h = absurd (omega arith)
      go false h = (refl, refl)

  -- each boot has one generation at most
  abbrev pub AreWhole : ℕ → List (List X) → Type 0
  AreWhole width boots = AllByRecursion (λ boot. length (generations place mark width boot) ≤ 1) boots

  all-whole : (width : ℕ) (boots : List (List X)) → AreWhole width boots
      → map (generations place mark width) boots ≡ map whole boots
  all-whole width [] h = refl
  all-whole width (b ∷ more) h =
      let here = (whole-boot width b h.0).0 in
      let later = all-whole width more h.1 in
      λ j. here j ∷ later j

  -- the boots, but for closed ones without samples
  abbrev some_of : List (List X) → List (List X)
  some_of boots = joined (map whole boots)

  stretches-are : (width : ℕ) (b : List X) (more : List (List X)) → AreWhole width (b ∷ more)
      → source_stretches place mark width (b ∷ more) ≡ b ∷ some_of more
  stretches-are width b more h = ap over_boots (all-whole width (b ∷ more) h) ∙ front b
    where
      front : (boot : List X) → with_current (whole boot) ++ some_of more ≡ boot ∷ some_of more
      front [] = refl
      front (x ∷ xs) = refl

  pub generations-count : (width : ℕ) (boots : List (List X)) → AreWhole width boots
      → generation_count place mark width boots ≡ count_by has_some boots
  generations-count width [] h = refl
  generations-count width (b ∷ more) h =
      let here = ap length (whole-boot width b h.0).0 ∙ one b in
      let later = generations-count width more h.1 in
      let a = sum_by-cons (λ boot. length (generations place mark width boot)) b more in
      let c = count_by-cons has_some b more in
      omega (arith, here, later, a, c)
    where
      one : (boot : List X) → length (whole boot) ≡ cond (has_some boot) 1 0
      one [] = refl
      one (x ∷ xs) = rw (le-leb 1 (length (x ∷ xs)) (omega arith)) refl

  pub none-stale : (width : ℕ) (boots : List (List X)) → AreWhole width boots → stale_count place mark width boots ≡ 0
  none-stale width [] h = refl
  none-stale width (b ∷ more) h =
      let here = ap length (whole-boot width b h.0).1 in
      let later = none-stale width more h.1 in
      let a = sum_by-cons (λ boot. length (stale_samples place mark width boot)) b more in
      omega (arith, here, later, a)

  -- ---- closed stretches without samples change no view

  figures-some : (width : ℕ) (boots : List (List X))
      → closed_figures width (marks_in mark (some_of boots)) ≡ closed_figures width (marks_in mark boots)
  figures-some width [] = refl
  figures-some width ([] ∷ more) =
      figures-some width more ∙ sym (sum_of-none (closed_figures width (marks_in mark more)))
  figures-some width ((x ∷ xs) ∷ more) =
      ap (λ f. sum_of (closing (figures_of width (map mark (x ∷ xs)))) f) (figures-some width more)

  rise-some : (value : X → ℕ) (width : ℕ) (boots : List (List X))
      → rise_over mark value width (some_of boots) ≡ rise_over mark value width boots
  rise-some value width [] = refl
  rise-some value width ([] ∷ more) =
      let later = rise-some value width more in
      let a = sum_by-cons (λ (s : List X). rise (first_values mark value width s)) [] more in
      omega (arith, later, a)
  rise-some value width ((x ∷ xs) ∷ more) =
      let later = rise-some value width more in
      let a = sum_by-cons (λ (s : List X). rise (first_values mark value width s)) (x ∷ xs) more in
      let b = sum_by-cons (λ (s : List X). rise (first_values mark value width s)) (x ∷ xs) (some_of more) in
      omega (arith, later, a, b)

  last-some : (value : X → ℕ) (width : ℕ) (boots : List (List X))
      → last_value mark value width (some_of boots) ≡ last_value mark value width boots
  last-some value width [] = refl
  last-some value width ([] ∷ more) = last-some value width more
  last-some value width ((x ∷ xs) ∷ more) = refl

  rise-front : (value : X → ℕ) (width : ℕ) (b : List X) (more : List (List X))
      → rise_over mark value width (b ∷ some_of more) ≡ rise_over mark value width (b ∷ more)
  rise-front value width b more =
      let later = rise-some value width more in
      let a = sum_by-cons (λ (s : List X). rise (first_values mark value width s)) b more in
      let c = sum_by-cons (λ (s : List X). rise (first_values mark value width s)) b (some_of more) in
      omega (arith, later, a, c)

  last-front : (value : X → ℕ) (width : ℕ) (b : List X) (more : List (List X))
      → last_value mark value width (b ∷ some_of more) ≡ last_value mark value width (b ∷ more)
  last-front value width [] more = last-some value width more
  last-front value width (x ∷ xs) more = refl

-- ---- of a source

some-view : (flow : Bool) (width : ℕ) (b : List PlacedReading) (more : List (List PlacedReading))
    → stretches_view flow width (b ∷ some_of place_in placed_mark more) ≡ stretches_view flow width (b ∷ more)
some-view true width b more =
    let figures = ap (sum_of (figures_of width (map placed_mark b))) (figures-some place_in placed_mark width more) in
    let pool = rise-front place_in placed_mark placed_pool width b more in
    let drops = rise-front place_in placed_mark placed_drops width b more in
    let rate = last-front place_in placed_mark placed_rate width b more in
    λ j. view_with (figures j) (pool j) (drops j) (rate j)
some-view false width b more =
    ap (λ f. view_with (sum_of (figures_of width (map placed_mark b)) f) 0 0 0) (figures-some place_in placed_mark width more)

pub whole-view : (flow : Bool) (width : ℕ) (boots : List (List PlacedReading)) → AreWhole place_in placed_mark width boots
    → (source_view flow width boots).ledger ≡ stretches_view flow width boots
whole-view flow width [] h = refl
whole-view flow width (b ∷ more) h =
    ap (stretches_view flow width) (stretches-are place_in placed_mark width b more h) ∙ some-view flow width b more
