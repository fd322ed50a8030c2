-- Generations depend on the places and marks of samples alone.
use Rattle.std.proofs.Common.{◌≡◌, ℕ, cond, ◌&&◌, List, [], ◌∷◌, ◌++◌, length, map, refl, sym, ap, ◌∙◌, arith}
use Rattle.std.proofs.lemmas.List.Sums.{sum_by-cons}
use Rattle.std.specs.Prelude.{int_le}
use Rattle.count_spec.specs.Windows.{near, greatest, answer, counted}
use Rattle.count_spec.specs.Stretches.{placed, with_stale}
use Rattle.count_spec.specs.declared.stretch_place.StretchPlace.{StretchPlace}
use Rattle.count_spec.specs.declared.stretch_place.StretchPlace.TheVariants.{Current, Next, Stale}
use Rattle.books_spec.specs.declared.sample_place.SamplePlace.{SamplePlace}
use Rattle.books_spec.specs.Generations.{is_before, greatest_place, with_place, first_places, opening_place, does_not_rise, opens, is_before_opening, generation_place, generations, stale_samples}
use Rattle.books_spec.specs.SourceViews.{joined, with_current, over_boots, source_stretches, generation_count, stale_count}

map-append : {X Y : Type 0} (f : X → Y) (xs ys : List X) → map f (xs ++ ys) ≡ map f xs ++ map f ys
map-append f [] ys = refl
map-append f (x ∷ xs) ys = ap (λ more. f x ∷ more) (map-append f xs ys)

length-map : {X Y : Type 0} (f : X → Y) (xs : List X) → length (map f xs) ≡ length xs
length-map f [] = refl
length-map f (x ∷ xs) = let later = length-map f xs in omega (arith, later)

module _ {X Y : Type 0} (f : X → Y) (place : Y → SamplePlace) (mark : Y → ℕ) where
  abbrev place_of : X → SamplePlace
  place_of x = place (f x)

  abbrev mark_of : X → ℕ
  mark_of x = mark (f x)

  marks-mapped : (xs : List X) → map mark (map f xs) ≡ map mark_of xs
  marks-mapped [] = refl
  marks-mapped (x ∷ xs) = ap (λ more. mark (f x) ∷ more) (marks-mapped xs)

  places-mapped : (width : ℕ) (xs : List X) → first_places place mark width (map f xs) ≡ first_places place_of mark_of width xs
  places-mapped width [] = refl
  places-mapped width (x ∷ xs) =
      let marks = marks-mapped xs in
      let later = places-mapped width xs in
      λ j. with_place (answer width (counted width (marks j)) (mark (f x))) (place (f x)) (later j)

  opening-mapped : (xs : List X) → opening_place place mark (map f xs) ≡ opening_place place_of mark_of xs
  opening-mapped [] = refl
  opening-mapped (x ∷ []) = refl
  opening-mapped (x ∷ y ∷ more) = opening-mapped (y ∷ more)

  opens-mapped : (width : ℕ) (current : List X) (x : X)
      → opens place mark width (map f current) (f x) ≡ opens place_of mark_of width current x
  opens-mapped width current x =
      let places = places-mapped width current in
      let marks : does_not_rise place mark width (map f current) (mark (f x))
      ≡ does_not_rise place_of mark_of width current (mark (f x)) =
      ap (λ ms. int_le (near (mark (f x)) (greatest (counted width ms))) (greatest (counted width ms))) (marks-mapped current) in
      λ j. is_before (greatest_place (places j)) (place (f x)) && marks j

  before-mapped : (current : List X) (closed : List (List X)) (x : X)
      → is_before_opening place mark (map f current) (map (map f) closed) (f x)
      ≡ is_before_opening place_of mark_of current closed x
  before-mapped current [] x = refl
  before-mapped current (last ∷ more) x = ap (λ p. is_before (place (f x)) p) (opening-mapped current)

  place-mapped : (width : ℕ) (gs : List (List X)) (x : X)
      → generation_place place mark width (map (map f) gs) (f x) ≡ generation_place place_of mark_of width gs x
  place-mapped width [] x = refl
  place-mapped width (current ∷ closed) x =
      let opened = opens-mapped width current x in
      let stale = before-mapped current closed x in
      λ j. cond (opened j) Next (cond (stale j) Stale Current)

  placed-mapped : (p : StretchPlace) (x : X) (gs : List (List X))
      → placed p (f x) (map (map f) gs) ≡ map (map f) (placed p x gs)
  placed-mapped Current x [] = refl
  placed-mapped Current x (current ∷ closed) = refl
  placed-mapped Next x gs = refl
  placed-mapped Stale x gs = refl

  pub generations-mapped : (width : ℕ) (xs : List X)
      → generations place mark width (map f xs) ≡ map (map f) (generations place_of mark_of width xs)
  generations-mapped width [] = refl
  generations-mapped width (x ∷ before) =
      let gs : List (List X) = generations place_of mark_of width before in
      ap (λ hs. placed (generation_place place mark width hs (f x)) (f x) hs) (generations-mapped width before)
      ∙ ap (λ p. placed p (f x) (map (map f) gs)) (place-mapped width gs x)
      ∙ placed-mapped (generation_place place_of mark_of width gs x) x gs

  stale-placed : (p : StretchPlace) (x : X) (stale : List X) → with_stale p (f x) (map f stale) ≡ map f (with_stale p x stale)
  stale-placed Current x stale = refl
  stale-placed Next x stale = refl
  stale-placed Stale x stale = refl

  pub stale-mapped : (width : ℕ) (xs : List X)
      → stale_samples place mark width (map f xs) ≡ map f (stale_samples place_of mark_of width xs)
  stale-mapped width [] = refl
  stale-mapped width (x ∷ before) =
      let gs : List (List X) = generations place_of mark_of width before in
      let there : generation_place place mark width (generations place mark width (map f before)) (f x)
      ≡ generation_place place_of mark_of width gs x =
      ap (λ hs. generation_place place mark width hs (f x)) (generations-mapped width before) ∙ place-mapped width gs x in
      let later = stale-mapped width before in
      let here : stale_samples place mark width (map f (x ∷ before))
      ≡ with_stale (generation_place place_of mark_of width gs x) (f x)
      (map f (stale_samples place_of mark_of width before)) =
      λ j. with_stale (there j) (f x) (later j) in
      here ∙ stale-placed (generation_place place_of mark_of width gs x) x (stale_samples place_of mark_of width before)

  -- ---- over boots

  joined-mapped : (gss : List (List (List X))) → joined (map (map (map f)) gss) ≡ map (map f) (joined gss)
  joined-mapped [] = refl
  joined-mapped (gs ∷ more) =
      ap (λ rest. map (map f) gs ++ rest) (joined-mapped more) ∙ sym (map-append (map f) gs (joined more))

  over_boots-mapped : (gss : List (List (List X))) → over_boots (map (map (map f)) gss) ≡ map (map f) (over_boots gss)
  over_boots-mapped [] = refl
  over_boots-mapped (gs ∷ more) =
      ap (λ rest. with_current (map (map f) gs) ++ rest) (joined-mapped more) ∙ front gs
      ∙ sym (map-append (map f) (with_current gs) (joined more))
    where
      front : (hs : List (List X))
          → with_current (map (map f) hs) ++ map (map f) (joined more) ≡ map (map f) (with_current hs) ++ map (map f) (joined more)
      front [] = refl
      front (h ∷ hs) = refl

  each-mapped : (width : ℕ) (boots : List (List X))
      → map (generations place mark width) (map (map f) boots)
      ≡ map (map (map f)) (map (generations place_of mark_of width) boots)
  each-mapped width [] = refl
  each-mapped width (b ∷ more) =
      let here = generations-mapped width b in
      let later = each-mapped width more in
      λ j. here j ∷ later j

  pub stretches-mapped : (width : ℕ) (boots : List (List X))
      → source_stretches place mark width (map (map f) boots) ≡ map (map f) (source_stretches place_of mark_of width boots)
  stretches-mapped width boots =
      ap over_boots (each-mapped width boots) ∙ over_boots-mapped (map (generations place_of mark_of width) boots)

  pub generation_count-mapped : (width : ℕ) (boots : List (List X))
      → generation_count place mark width (map (map f) boots) ≡ generation_count place_of mark_of width boots
  generation_count-mapped width [] = refl
  generation_count-mapped width (b ∷ more) =
      let here = ap length (generations-mapped width b) ∙ length-map (map f) (generations place_of mark_of width b) in
      let later = generation_count-mapped width more in
      let new = sum_by-cons (λ boot. length (generations place mark width boot)) (map f b) (map (map f) more) in
      let old = sum_by-cons (λ boot. length (generations place_of mark_of width boot)) b more in
      omega (arith, here, later, new, old)

  pub stale_count-mapped : (width : ℕ) (boots : List (List X))
      → stale_count place mark width (map (map f) boots) ≡ stale_count place_of mark_of width boots
  stale_count-mapped width [] = refl
  stale_count-mapped width (b ∷ more) =
      let here = ap length (stale-mapped width b) ∙ length-map f (stale_samples place_of mark_of width b) in
      let later = stale_count-mapped width more in
      let new = sum_by-cons (λ boot. length (stale_samples place mark width boot)) (map f b) (map (map f) more) in
      let old = sum_by-cons (λ boot. length (stale_samples place_of mark_of width boot)) b more in
      omega (arith, here, later, new, old)
