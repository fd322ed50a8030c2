-- Samples with the same places and marks are answered alike, and have as many generations.
use Rattle.std.proofs.Common.{◌≡◌, ℕ, cond, ◌&&◌, List, [], ◌∷◌, map, refl, sym, ap, ◌∙◌}
use Rattle.std.specs.Prelude.{int_le}
use Rattle.count_spec.specs.Windows.{near, greatest, answer, counted}
use Rattle.count_spec.specs.declared.stretch_place.StretchPlace.{StretchPlace}
use Rattle.count_spec.specs.declared.stretch_place.StretchPlace.TheVariants.{Current, Next, Stale}
use Rattle.books_spec.specs.declared.booked.Booked.TheVariants.{Entered}
use Rattle.books_spec.specs.declared.sample_place.SamplePlace.{SamplePlace}
use Rattle.books_spec.specs.Generations.{is_before, greatest_place, with_place, first_places, opening_place, does_not_rise, opens, is_before_opening, generation_place, generations, booked_at, booked}
use Rattle.books_spec.specs.PlacedSamples.{InterfaceSample}
use Rattle.books_spec.specs.SourceViews.{generation_count, PlacedReading, place_in, placed_mark, PlacedMark}
use Rattle.books_spec.specs.WholeBooks.{place_seen, mark_seen}
use Rattle.books_spec.proofs.Mapped.{generations-mapped, generation_count-mapped}
use Rattle.books_spec.proofs.Seen.{read_mark, seen_mark}

module _ {X Y : Type 0} (f : X → Y) (place : Y → SamplePlace) (mark : Y → ℕ) (width : ℕ) where
  abbrev place_of : X → SamplePlace
  place_of x = place (f x)

  abbrev mark_of : X → ℕ
  mark_of x = mark (f x)

  marks-of : (xs : List X) → map mark (map f xs) ≡ map mark_of xs
  marks-of [] = refl
  marks-of (x ∷ xs) = ap (λ more. mark (f x) ∷ more) (marks-of xs)

  places-of : (xs : List X) → first_places place mark width (map f xs) ≡ first_places place_of mark_of width xs
  places-of [] = refl
  places-of (x ∷ xs) =
      let marks = marks-of xs in
      let later = places-of xs in
      λ j. with_place (answer width (counted width (marks j)) (mark (f x))) (place (f x)) (later j)

  opening-of : (xs : List X) → opening_place place mark (map f xs) ≡ opening_place place_of mark_of xs
  opening-of [] = refl
  opening-of (x ∷ []) = refl
  opening-of (x ∷ y ∷ more) = opening-of (y ∷ more)

  opens-of : (current : List X) (x : X)
      → opens place mark width (map f current) (f x) ≡ opens place_of mark_of width current x
  opens-of current x =
      let places = places-of current in
      let marks : does_not_rise place mark width (map f current) (mark (f x))
      ≡ does_not_rise place_of mark_of width current (mark (f x)) =
      ap (λ ms. int_le (near (mark (f x)) (greatest (counted width ms))) (greatest (counted width ms))) (marks-of current) in
      λ j. is_before (greatest_place (places j)) (place (f x)) && marks j

  before-of : (current : List X) (closed : List (List X)) (x : X)
      → is_before_opening place mark (map f current) (map (map f) closed) (f x)
      ≡ is_before_opening place_of mark_of current closed x
  before-of current [] x = refl
  before-of current (last ∷ more) x = ap (λ p. is_before (place (f x)) p) (opening-of current)

  generation-of : (gs : List (List X)) (x : X)
      → generation_place place mark width (map (map f) gs) (f x) ≡ generation_place place_of mark_of width gs x
  generation-of [] x = refl
  generation-of (current ∷ closed) x =
      let opened = opens-of current x in
      let stale = before-of current closed x in
      λ j. cond (opened j) Next (cond (stale j) Stale Current)

  answer-of : (p : StretchPlace) (gs : List (List X)) (m : ℕ)
      → booked_at place mark width p (map (map f) gs) m ≡ booked_at place_of mark_of width p gs m
  answer-of Current [] m = refl
  answer-of Current (current ∷ closed) m = ap (λ ms. Entered (answer width (counted width ms) m)) (marks-of current)
  answer-of Next gs m = refl
  answer-of Stale gs m = refl

  pub booked-mapped : (before : List X) (x : X)
      → booked place mark width (map f before) (f x) ≡ booked place_of mark_of width before x
  booked-mapped before x =
      let gs : List (List X) = generations place_of mark_of width before in
      ap (λ hs. booked_at place mark width (generation_place place mark width hs (f x)) hs (mark (f x)))
      (generations-mapped f place mark width before)
      ∙ ap (λ p. booked_at place mark width p (map (map f) gs) (mark (f x))) (generation-of gs x)
      ∙ answer-of (generation_place place_of mark_of width gs x) gs (mark (f x))

abbrev placed_at : PlacedMark → SamplePlace
placed_at m = m.place

abbrev marked_at : PlacedMark → ℕ
marked_at m = m.mark

-- samples as interface counters see them, and the same samples as their source's ledger does
pub same-booked : (width : ℕ) (current : List InterfaceSample) (readings : List PlacedReading) (x : InterfaceSample) (r : PlacedReading)
    → map seen_mark current ≡ map read_mark readings → seen_mark x ≡ read_mark r
    → booked place_in placed_mark width readings r ≡ booked place_seen mark_seen width current x
same-booked width current readings x r same this =
    sym (booked-mapped read_mark placed_at marked_at width readings r)
    ∙ (λ j. booked placed_at marked_at width (sym same j) (sym this j))
    ∙ booked-mapped seen_mark placed_at marked_at width current x

pub same-count : (width : ℕ) (boots : List (List InterfaceSample)) (readings : List (List PlacedReading))
    → map (map seen_mark) boots ≡ map (map read_mark) readings
    → generation_count place_in placed_mark width readings ≡ generation_count place_seen mark_seen width boots
same-count width boots readings same =
    sym (generation_count-mapped read_mark placed_at marked_at width readings)
    ∙ ap (generation_count placed_at marked_at width) (sym same)
    ∙ generation_count-mapped seen_mark placed_at marked_at width boots
