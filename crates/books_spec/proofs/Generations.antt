-- One sample more, and what becomes of the generations of its boot.
use Rattle.std.proofs.Common.{◌≡◌, ℕ, ◌+◌, ◌≤◌, true, false, cond, List, [], ◌∷◌, length, map, refl, ap, ◌∙◌, arith}
use Rattle.count_spec.specs.Windows.{answer, counted, is_first}
use Rattle.count_spec.specs.Stretches.{placed, with_stale}
use Rattle.count_spec.specs.declared.entered.Entered.{Entered}
use Rattle.count_spec.specs.declared.entered.Entered.TheVariants.{First, Repeat, Late}
use Rattle.count_spec.specs.declared.stretch_place.StretchPlace.{StretchPlace}
use Rattle.count_spec.specs.declared.stretch_place.StretchPlace.TheVariants.{Current, Next, Stale}
use Rattle.books_spec.specs.declared.sample_place.SamplePlace.{SamplePlace}
use Rattle.books_spec.specs.Generations.{later, greatest_place, first_places, with_place, opening_place, opens, is_before_opening, generation_place, generations, stale_samples, booked, booked_at}

module _ {X : Type 0} (place : X → SamplePlace) (mark : X → ℕ) where
  -- what one sample more makes of these generations
  abbrev after : ℕ → List (List X) → X → List (List X)
  after width so_far x = placed (generation_place place mark width so_far x) x so_far

  -- the sample opens the next generation
  pub place-opens : (width : ℕ) (current : List X) (closed : List (List X)) (x : X)
      → opens place mark width current x ≡ true
      → generation_place place mark width (current ∷ closed) x ≡ Next
  place-opens width current closed x e =
      ap (λ b. cond b Next (cond (is_before_opening place mark current closed x) Stale Current)) e

  pub place-stale : (width : ℕ) (current : List X) (closed : List (List X)) (x : X)
      → opens place mark width current x ≡ false → is_before_opening place mark current closed x ≡ true
      → generation_place place mark width (current ∷ closed) x ≡ Stale
  place-stale width current closed x e f =
      ap (λ b. cond b Next (cond (is_before_opening place mark current closed x) Stale Current)) e
      ∙ ap (λ b. cond b Stale Current) f

  pub place-stays : (width : ℕ) (current : List X) (closed : List (List X)) (x : X)
      → opens place mark width current x ≡ false → is_before_opening place mark current closed x ≡ false
      → generation_place place mark width (current ∷ closed) x ≡ Current
  place-stays width current closed x e f =
      ap (λ b. cond b Next (cond (is_before_opening place mark current closed x) Stale Current)) e
      ∙ ap (λ b. cond b Stale Current) f

  -- ---- the three cases

  pub generations-open : (width : ℕ) (x : X) (before current : List X) (closed : List (List X))
      → generations place mark width before ≡ current ∷ closed → opens place mark width current x ≡ true
      → generations place mark width (x ∷ before) ≡ (x ∷ []) ∷ current ∷ closed
  generations-open width x before current closed are e =
      ap (λ gs. after width gs x) are
      ∙ ap (λ p. placed p x (current ∷ closed)) (place-opens width current closed x e)

  pub generations-stale : (width : ℕ) (x : X) (before current : List X) (closed : List (List X))
      → generations place mark width before ≡ current ∷ closed → opens place mark width current x ≡ false
      → is_before_opening place mark current closed x ≡ true
      → generations place mark width (x ∷ before) ≡ current ∷ closed
  generations-stale width x before current closed are e f =
      ap (λ gs. after width gs x) are
      ∙ ap (λ p. placed p x (current ∷ closed)) (place-stale width current closed x e f)

  pub generations-stay : (width : ℕ) (x : X) (before current : List X) (closed : List (List X))
      → generations place mark width before ≡ current ∷ closed → opens place mark width current x ≡ false
      → is_before_opening place mark current closed x ≡ false
      → generations place mark width (x ∷ before) ≡ (x ∷ current) ∷ closed
  generations-stay width x before current closed are e f =
      ap (λ gs. after width gs x) are
      ∙ ap (λ p. placed p x (current ∷ closed)) (place-stays width current closed x e f)

  -- where the place is known, so is what becomes of the stale samples
  pub stale-step : (width : ℕ) (x : X) (before : List X) (gs : List (List X)) (p : StretchPlace)
      → generations place mark width before ≡ gs → generation_place place mark width gs x ≡ p
      → stale_samples place mark width (x ∷ before) ≡ with_stale p x (stale_samples place mark width before)
  stale-step width x before gs p are is =
      ap (λ hs. with_stale (generation_place place mark width hs x) x (stale_samples place mark width before)) are
      ∙ ap (λ q. with_stale q x (stale_samples place mark width before)) is

  -- and what the sample is answered
  pub booked-step : (width : ℕ) (x : X) (before : List X) (gs : List (List X)) (p : StretchPlace)
      → generations place mark width before ≡ gs → generation_place place mark width gs x ≡ p
      → booked place mark width before x ≡ booked_at place mark width p gs (mark x)
  booked-step width x before gs p are is =
      ap (λ hs. booked_at place mark width (generation_place place mark width hs x) hs (mark x)) are
      ∙ ap (λ q. booked_at place mark width q gs (mark x)) is

  -- ---- how many there are

  placed-length : (p : StretchPlace) (x : X) (gs : List (List X))
      → (length gs ≤ length (placed p x gs)) × (length (placed p x gs) ≤ length gs + 1)
  placed-length Current x [] = (omega arith, omega arith)
  placed-length Current x (current ∷ closed) = (omega arith, omega arith)
  placed-length Next x gs = (omega arith, omega arith)
  placed-length Stale x gs = (omega arith, omega arith)

  pub generations-length : (width : ℕ) (x : X) (before : List X)
      → (length (generations place mark width before) ≤ length (generations place mark width (x ∷ before)))
      × (length (generations place mark width (x ∷ before)) ≤ length (generations place mark width before) + 1)
  generations-length width x before =
      placed-length (generation_place place mark width (generations place mark width before) x) x
      (generations place mark width before)

  -- ---- what is kept of the current generation

  -- the place of the sample that opened it stays
  pub opening-stays : (x y : X) (more : List X)
      → opening_place place mark (x ∷ y ∷ more) ≡ opening_place place mark (y ∷ more)
  opening-stays x y more = refl

  -- some sample was First
  some-first : (width : ℕ) (y : X) (more : List X) → 1 ≤ length (first_places place mark width (y ∷ more))
  some-first width y [] = omega arith
  some-first width y (z ∷ more) =
      go (answer width (counted width (map mark (z ∷ more))) (mark y)) (some-first width z more)
    where
      go : (a : Entered) → 1 ≤ length (first_places place mark width (z ∷ more))
          → 1 ≤ length (with_place a (place y) (first_places place mark width (z ∷ more)))
      go (First p n) h = omega arith
      go Repeat h = h
      go Late h = h

  -- the greatest place of the First samples moves where one is First, and else stays
  pub greatest-moves : (width : ℕ) (x y : X) (more : List X)
      → greatest_place (first_places place mark width (x ∷ y ∷ more))
      ≡ cond (is_first (answer width (counted width (map mark (y ∷ more))) (mark x)))
      (later (place x) (greatest_place (first_places place mark width (y ∷ more))))
      (greatest_place (first_places place mark width (y ∷ more)))
  greatest-moves width x y more =
      go (answer width (counted width (map mark (y ∷ more))) (mark x)) (first_places place mark width (y ∷ more))
      (some-first width y more)
    where
      go : (a : Entered) (ps : List SamplePlace) → 1 ≤ length ps
          → greatest_place (with_place a (place x) ps)
          ≡ cond (is_first a) (later (place x) (greatest_place ps)) (greatest_place ps)
      go (First p n) [] h = absurd (omega arith)
      go (First p n) (q ∷ qs) h = refl
      go Repeat ps h = refl
      go Late ps h = refl
