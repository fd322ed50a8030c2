-- Samples with their places, and what is left of them without.
use Rattle.std.proofs.Common.{◌≡◌, ℕ, suc, Bool, true, false, Option, Some, None, List, [], ◌∷◌, length, map, ℤ, refl, sym, ap, ◌∙◌, arith}
use Rattle.std.specs.List.{filter_map, cons_option, count_by, sum_by}
use Rattle.std.proofs.lemmas.List.Sums.{sum_by-cons}
use Rattle.count_spec.specs.Windows.{answer, counted}
use Rattle.count_spec.specs.Rise.{value_at_greatest, rise, with_value, first_values}
use Rattle.count_spec.specs.Boots.{sequences}
use Rattle.count_spec.specs.declared.entered.Entered.{Entered}
use Rattle.count_spec.specs.declared.entered.Entered.TheVariants.{First, Repeat, Late}
use Rattle.books_spec.specs.declared.limits.Limits.{Limits}
use Rattle.books_spec.specs.declared.reading.SampleReading.{SampleReading}
use Rattle.books_spec.specs.Items.{SourceId, Sample, Datagram, stamp_of, Item, Source}
use Rattle.books_spec.specs.Listing.{same_stream, same_source, among}
use Rattle.books_spec.specs.Views.{figures_over, marks_in, rise_over, last_value, view_with}
use Rattle.books_spec.specs.Books.{onto, taken_of, samples_at, first_samples, reading_of, readings, source_boots, stream_boots, listed_streams, sources_of, readings_view, mark_in, pool_in, drops_in, rate_in}
use Rattle.books_spec.specs.SourceViews.{PlacedReading, stretches_view}
use Rattle.books_spec.proofs.Entered.{readings-are-entered}
use Rattle.books_spec.specs.PlacedSamples.{PlacedSample, placed_from, placed_at, first_placed, read_at, placed_reading_of, placed_readings, placed_boots}

abbrev sample_in : PlacedSample → Sample
sample_in p = p.sample

abbrev pub reading_in : PlacedReading → SampleReading
reading_in r = r.reading

map-onto : {X Y : Type 0} (f : X → Y) (xs rest : List X) → map f (onto xs rest) ≡ onto (map f xs) (map f rest)
map-onto f [] rest = refl
map-onto f (x ∷ xs) rest = map-onto f xs (x ∷ rest)

samples-from : (n : ℤ) (i : ℕ) (xs : List Sample) → map sample_in (placed_from n i xs) ≡ xs
samples-from n i [] = refl
samples-from n i (x ∷ xs) = ap (λ more. x ∷ more) (samples-from n (suc i) xs)

samples-at : (a : Entered) (xs : List Sample) → map sample_in (placed_at a xs) ≡ samples_at (taken_of a) xs
samples-at (First place n) xs = samples-from n 0 xs
samples-at Repeat xs = refl
samples-at Late xs = refl

pub first-samples : (width : ℕ) (boot : List Datagram) → map sample_in (first_placed width boot) ≡ first_samples width boot
first-samples width [] = refl
first-samples width (d ∷ before) =
    let a : Entered = answer width (counted width (sequences stamp_of before)) d.head.sequence in
    map-onto sample_in (placed_at a d.samples) (first_placed width before)
    ∙ (let here = samples-at a d.samples in
    let later = first-samples width before in
    λ j. onto (here j) (later j))

readings-of : (id : SourceId) (ps : List PlacedSample)
    → map reading_in (filter_map (placed_reading_of id) ps) ≡ filter_map (reading_of id) (map sample_in ps)
readings-of id [] = refl
readings-of id (p ∷ ps) = go (reading_of id p.sample) (readings-of id ps)
  where
    go : (r : Option SampleReading)
        → map reading_in (filter_map (placed_reading_of id) ps) ≡ filter_map (reading_of id) (map sample_in ps)
        → map reading_in (cons_option (read_at p.place r) (filter_map (placed_reading_of id) ps))
        ≡ cons_option r (filter_map (reading_of id) (map sample_in ps))
    go (Some reading) h = ap (λ more. reading ∷ more) h
    go None h = h

pub readings-are : (width : ℕ) (id : SourceId) (boot : List Datagram)
    → map reading_in (placed_readings width id boot) ≡ readings width id boot
readings-are width id boot =
    readings-of id (first_placed width boot) ∙ ap (filter_map (reading_of id)) (first-samples width boot)

pub boots-are : (l : Limits) (source : Source) (items : List Item)
    → map (map reading_in) (placed_boots l source items) ≡ source_boots l source items
boots-are l source items = each (stream_boots l source.stream items)
  where
    each : (bs : List (List Datagram))
        → map (map reading_in) (map (placed_readings l.datagram_width source.id) bs)
        ≡ map (readings l.datagram_width source.id) bs
    each [] = refl
    each (b ∷ more) =
        let here = readings-are l.datagram_width source.id b in
        let later = each more in
        λ j. here j ∷ later j

-- ---- views of stretches, without the places

module _ {X Y : Type 0} (f : X → Y) (mark : Y → ℕ) where
  map-map : (xs : List X) → map mark (map f xs) ≡ map (λ x. mark (f x)) xs
  map-map [] = refl
  map-map (x ∷ xs) = ap (λ more. mark (f x) ∷ more) (map-map xs)

  pub marks-of : (stretches : List (List X)) → marks_in mark (map (map f) stretches) ≡ marks_in (λ x. mark (f x)) stretches
  marks-of [] = refl
  marks-of (xs ∷ more) =
      let here = map-map xs in
      let later = marks-of more in
      λ j. here j ∷ later j

  values-of : (value : Y → ℕ) (width : ℕ) (xs : List X)
      → first_values mark value width (map f xs) ≡ first_values (λ x. mark (f x)) (λ x. value (f x)) width xs
  values-of value width [] = refl
  values-of value width (x ∷ xs) =
      let marks = map-map xs in
      let later = values-of value width xs in
      λ j. with_value (answer width (counted width (marks j)) (mark (f x))) (value (f x)) (later j)

  pub rise-of : (value : Y → ℕ) (width : ℕ) (stretches : List (List X))
      → rise_over mark value width (map (map f) stretches)
      ≡ rise_over (λ x. mark (f x)) (λ x. value (f x)) width stretches
  rise-of value width [] = refl
  rise-of value width (xs ∷ more) =
      let here = ap rise (values-of value width xs) in
      let later = rise-of value width more in
      let a = sum_by-cons (λ (s : List Y). rise (first_values mark value width s)) (map f xs) (map (map f) more) in
      let b = sum_by-cons (λ (s : List X). rise (first_values (λ x. mark (f x)) (λ x. value (f x)) width s)) xs more in
      omega (arith, here, later, a, b)

  pub last-of : (value : Y → ℕ) (width : ℕ) (stretches : List (List X))
      → last_value mark value width (map (map f) stretches)
      ≡ last_value (λ x. mark (f x)) (λ x. value (f x)) width stretches
  last-of value width [] = refl
  last-of value width ([] ∷ more) = last-of value width more
  last-of value width ((x ∷ xs) ∷ more) = ap value_at_greatest (values-of value width (x ∷ xs))

pub view-of : (flow : Bool) (width : ℕ) (stretches : List (List PlacedReading))
    → stretches_view flow width stretches ≡ readings_view flow width (map (map reading_in) stretches)
view-of true width stretches =
    let figures = ap (figures_over width) (marks-of reading_in mark_in stretches) in
    let pool = rise-of reading_in mark_in pool_in width stretches in
    let drops = rise-of reading_in mark_in drops_in width stretches in
    let rate = last-of reading_in mark_in rate_in width stretches in
    sym (λ j. view_with (figures j) (pool j) (drops j) (rate j))
view-of false width stretches =
    sym (ap (λ marks. view_with (figures_over width marks) 0 0 0) (marks-of reading_in mark_in stretches))

-- ---- as many as were entered

lengths-of : {X Y : Type 0} (f : X → Y) (xs : List (List X)) → sum_by length (map (map f) xs) ≡ sum_by length xs
lengths-of f [] = refl
lengths-of {X} {Y} f (x ∷ more) =
    let new = sum_by-cons (λ (ys : List Y). length ys) (map f x) (map (map f) more) in
    let old = sum_by-cons (λ (xs : List X). length xs) x more in
    let later = lengths-of f more in
    let here = mapped x in
    omega (arith, new, old, later, here)
  where
    mapped : (xs : List X) → length (map f xs) ≡ length xs
    mapped [] = refl
    mapped (x ∷ xs) = ap suc (mapped xs)

pub entered-are : (l : Limits) (source : Source) (items : List Item)
    → among same_stream (listed_streams l items) source.stream ≡ true
    → sum_by length (placed_boots l source items) ≡ count_by (same_source source) (sources_of l items)
entered-are l source items there =
    sym (lengths-of reading_in (placed_boots l source items)) ∙ ap (sum_by length) (boots-are l source items)
    ∙ readings-are-entered l source items there
