-- A ledger of flow samples that enters one, and what it shows.
use Rattle.std.proofs.Common.{◌≡◌, ℕ, true, List, [], ◌∷◌, ◌++◌, map, pos, refl, sym, ◌∙◌, ap, subst, arith}
use Rattle.std.proofs.lemmas.List.Sums.{sum_by-cons}
use Rattle.count_spec.specs.Windows.{answer, counted}
use Rattle.count_spec.specs.declared.entered.Entered as window
use Rattle.count_spec.specs.declared.entered.Place.TheVariants.{Only}
use Rattle.count_spec.specs.declared.entered.Entered.TheVariants.{First}
use Rattle.count_spec.specs.Stretches.{placed}
use Rattle.count_spec.specs.declared.stretch_place.StretchPlace.{StretchPlace}
use Rattle.count_spec.specs.declared.stretch_place.StretchPlace.TheVariants.{Current, Next, Stale}
use Rattle.count_spec.specs.Rise.{rise, first_values}
use Rattle.books_spec.specs.Views.{figures_over, rise_over, last_value, marks_in, view_with, plain_view}
use Rattle.books_spec.specs.declared.ledger_view.LedgerView.{LedgerView}
use Rattle.books_spec.specs.declared.booked.Booked.{Booked}
use Rattle.books_spec.specs.declared.booked.Booked.TheVariants.{Entered, Past}
use Rattle.books_spec.specs.SourceViews.{PlacedReading, placed_mark, placed_pool, placed_drops, placed_rate, stretches_view}
use Rattle.source_ledger.specs.declared.rise.Rise.{Rise}
use Rattle.source_ledger.specs.Generations.{generations, generation_place, booked, booked_at, all_generations, source_stretches}
use Rattle.source_ledger.specs.Numbers as numbers
use Rattle.source_ledger.specs.Flows.{FlowState, StandsFor}
use Rattle.source_ledger.specs.Rises.{risen, greatest_after, ShowsRise}
use Rattle.source_ledger.proofs.Values.{shows-risen, shows-opened, shows-last, shows-first}
use Rattle.source_ledger.proofs.GenerationCounts.{over-cases}

-- the answer in what was booked
abbrev answer_in : window.Entered → Booked → window.Entered
answer_in other (Entered a) = a
answer_in other Past = other

entered-same : (a b : window.Entered) → Entered a ≡ Entered b → a ≡ b
entered-same a b e = ap (answer_in a) e

-- ---- one more sample, by its place

rise-placed : (value : PlacedReading → ℕ) (width : ℕ) (r : Rise) (p : StretchPlace) (gs earlier : List (List PlacedReading)) (x : PlacedReading)
    (a : window.Entered) → booked_at width p gs (placed_mark x) ≡ Entered a
    → ShowsRise placed_mark value width r (gs ++ earlier)
    → ShowsRise placed_mark value width (risen r a (value x)) (placed p x gs ++ earlier)
rise-placed value width r Next gs earlier x a is shows =
    subst (λ (b : window.Entered). ShowsRise placed_mark value width (risen r b (value x))
    ((x ∷ []) ∷ (gs ++ earlier))) (entered-same (First Only (pos (placed_mark x))) a is)
    (shows-opened placed_mark value width r x (gs ++ earlier) shows)
rise-placed value width r Current [] earlier x a is shows =
    subst (λ (b : window.Entered). ShowsRise placed_mark value width (risen r b (value x))
    ((x ∷ []) ∷ earlier)) (entered-same (First Only (pos (placed_mark x))) a is)
    (shows-opened placed_mark value width r x earlier shows)
rise-placed value width r Current (g ∷ more) earlier x a is shows =
    let same : answer width (counted width (map placed_mark g)) (placed_mark x) ≡ a =
    entered-same (answer width (counted width (map placed_mark g)) (placed_mark x)) a is in
    subst (λ (b : window.Entered). ShowsRise placed_mark value width (risen r b (value x))
    ((x ∷ g) ∷ (more ++ earlier))) same
    (shows-risen placed_mark value width r x g (more ++ earlier) shows)
rise-placed value width r Stale gs earlier x a is shows = absurd cc

rate-placed : (width rate : ℕ) (p : StretchPlace) (gs earlier : List (List PlacedReading)) (x : PlacedReading) (a : window.Entered)
    → booked_at width p gs (placed_mark x) ≡ Entered a
    → rate ≡ last_value placed_mark placed_rate width (gs ++ earlier)
    → greatest_after a (placed_rate x) rate ≡ last_value placed_mark placed_rate width (placed p x gs ++ earlier)
rate-placed width rate Next gs earlier x a is last =
    ap (λ (b : window.Entered). greatest_after b (placed_rate x) rate)
    (sym (entered-same (First Only (pos (placed_mark x))) a is))
    ∙ shows-first placed_mark placed_rate width x (gs ++ earlier)
rate-placed width rate Current [] earlier x a is last =
    ap (λ (b : window.Entered). greatest_after b (placed_rate x) rate)
    (sym (entered-same (First Only (pos (placed_mark x))) a is))
    ∙ shows-first placed_mark placed_rate width x earlier
rate-placed width rate Current (g ∷ more) earlier x a is last =
    let same : answer width (counted width (map placed_mark g)) (placed_mark x) ≡ a =
    entered-same (answer width (counted width (map placed_mark g)) (placed_mark x)) a is in
    ap (λ (b : window.Entered). greatest_after b (placed_rate x) rate) (sym same)
    ∙ shows-last placed_mark placed_rate width rate x g (more ++ earlier) last
rate-placed width rate Stale gs earlier x a is last = absurd cc

past-placed : (width : ℕ) (p : StretchPlace) (gs : List (List PlacedReading)) (x : PlacedReading) → booked_at width p gs (placed_mark x) ≡ Past
    → placed p x gs ≡ gs
past-placed width Next gs x is = absurd cc
past-placed width Current gs x is = absurd cc
past-placed width Stale gs x is = refl

-- ---- ledgers

pub flow-enters : (old new : FlowState) (x : PlacedReading) (a : window.Entered) (current : List PlacedReading) (closed : List (List PlacedReading))
    → StandsFor old (current ∷ closed) → numbers.StandsFor new.numbers ((x ∷ current) ∷ closed)
    → new.numbers.marks.width ≡ old.numbers.marks.width → Entered a ≡ booked old.numbers.marks.width current x
    → new.pool ≡ risen old.pool a x.reading.pool → new.drops ≡ risen old.drops a x.reading.drops
    → new.rate ≡ greatest_after a x.reading.rate old.rate → StandsFor new ((x ∷ current) ∷ closed)
flow-enters old new x a current closed st stands same is pool drops rate =
    let width : ℕ = old.numbers.marks.width in
    let gs : List (List PlacedReading) = generations width current in
    let earlier : List (List PlacedReading) = all_generations width closed in
    let p : StretchPlace = generation_place width gs x in
    record {
      numbers_stand = stands;
      pool_is = pool-goes width same pool (rise-placed placed_pool width old.pool p gs earlier x a (sym is) st.pool_is);
      drops_are = drops-go width same drops (rise-placed placed_drops width old.drops p gs earlier x a (sym is) st.drops_are);
      rate_is = rate ∙ rate-placed width old.rate p gs earlier x a (sym is) st.rate_is
          ∙ ap (λ (w : ℕ). last_value placed_mark placed_rate w (all_generations w ((x ∷ current) ∷ closed))) (sym same);
    }
  where
    pool-goes : (width : ℕ) → new.numbers.marks.width ≡ width → new.pool ≡ risen old.pool a x.reading.pool
        → ShowsRise placed_mark placed_pool width (risen old.pool a x.reading.pool) (all_generations width ((x ∷ current) ∷ closed))
        → ShowsRise placed_mark placed_pool new.numbers.marks.width new.pool
        (all_generations new.numbers.marks.width ((x ∷ current) ∷ closed))
    pool-goes width w e shows =
        subst (λ (v : ℕ). ShowsRise placed_mark placed_pool v new.pool (all_generations v ((x ∷ current) ∷ closed))) (sym w)
        (subst (λ (r : Rise). ShowsRise placed_mark placed_pool width r (all_generations width ((x ∷ current) ∷ closed))) (sym e) shows)

    drops-go : (width : ℕ) → new.numbers.marks.width ≡ width → new.drops ≡ risen old.drops a x.reading.drops
        → ShowsRise placed_mark placed_drops width (risen old.drops a x.reading.drops) (all_generations width ((x ∷ current) ∷ closed))
        → ShowsRise placed_mark placed_drops new.numbers.marks.width new.drops
        (all_generations new.numbers.marks.width ((x ∷ current) ∷ closed))
    drops-go width w e shows =
        subst (λ (v : ℕ). ShowsRise placed_mark placed_drops v new.drops (all_generations v ((x ∷ current) ∷ closed))) (sym w)
        (subst (λ (r : Rise). ShowsRise placed_mark placed_drops width r (all_generations width ((x ∷ current) ∷ closed))) (sym e) shows)

pub flow-passes : (old new : FlowState) (x : PlacedReading) (current : List PlacedReading) (closed : List (List PlacedReading))
    → StandsFor old (current ∷ closed) → numbers.StandsFor new.numbers ((x ∷ current) ∷ closed)
    → new.numbers.marks.width ≡ old.numbers.marks.width → Past ≡ booked old.numbers.marks.width current x
    → new.pool ≡ old.pool → new.drops ≡ old.drops → new.rate ≡ old.rate → StandsFor new ((x ∷ current) ∷ closed)
flow-passes old new x current closed st stands same is pool drops rate =
    let width : ℕ = old.numbers.marks.width in
    let gs : List (List PlacedReading) = generations width current in
    let kept : all_generations width ((x ∷ current) ∷ closed) ≡ all_generations width (current ∷ closed) =
    ap (λ (hs : List (List PlacedReading)). hs ++ all_generations width closed)
    (past-placed width (generation_place width gs x) gs x (sym is)) in
    record {
      numbers_stand = stands;
      pool_is = kept-goes placed_pool old.pool new.pool width same pool kept st.pool_is;
      drops_are = kept-goes placed_drops old.drops new.drops width same drops kept st.drops_are;
      rate_is = rate ∙ st.rate_is ∙ ap (last_value placed_mark placed_rate width) (sym kept)
          ∙ ap (λ (w : ℕ). last_value placed_mark placed_rate w (all_generations w ((x ∷ current) ∷ closed))) (sym same);
    }
  where
    kept-goes : (value : PlacedReading → ℕ) (before after : Rise) (width : ℕ) → new.numbers.marks.width ≡ width → after ≡ before
        → all_generations width ((x ∷ current) ∷ closed) ≡ all_generations width (current ∷ closed)
        → ShowsRise placed_mark value width before (all_generations width (current ∷ closed))
        → ShowsRise placed_mark value new.numbers.marks.width after
        (all_generations new.numbers.marks.width ((x ∷ current) ∷ closed))
    kept-goes value before after width w e kept shows =
        subst (λ (v : ℕ). ShowsRise placed_mark value v after (all_generations v ((x ∷ current) ∷ closed))) (sym w)
        (subst (λ (r : Rise). ShowsRise placed_mark value width r (all_generations width ((x ∷ current) ∷ closed))) (sym e)
        (subst (λ (rs : List (List PlacedReading)). ShowsRise placed_mark value width before rs) (sym kept) shows))

-- ---- what is shown

rise-over : (value : PlacedReading → ℕ) (width total : ℕ) (boots : List (List PlacedReading))
    → total ≡ rise_over placed_mark value width (all_generations width boots)
    → total ≡ rise_over placed_mark value width (source_stretches width boots)
rise-over value width total boots is =
    let more = sum_by-cons (λ (b : List PlacedReading). rise (first_values placed_mark value width b)) []
    (all_generations width boots) in
    over-cases (λ lists. total ≡ rise_over placed_mark value width lists) width boots is (omega (arith, is, more))

last-over : (width rate : ℕ) (boots : List (List PlacedReading)) → rate ≡ last_value placed_mark placed_rate width (all_generations width boots)
    → rate ≡ last_value placed_mark placed_rate width (source_stretches width boots)
last-over width rate boots is =
    over-cases (λ lists. rate ≡ last_value placed_mark placed_rate width lists) width boots is is

-- what is shown, where the numbers, both rises and the rate are those of these boots
pub flow-view-is : (v : LedgerView) (width : ℕ) (boots : List (List PlacedReading)) (pool drops : Rise) (rate : ℕ)
    → v ≡ plain_view width (marks_in placed_mark (source_stretches width boots))
    → ShowsRise placed_mark placed_pool width pool (all_generations width boots)
    → ShowsRise placed_mark placed_drops width drops (all_generations width boots)
    → rate ≡ last_value placed_mark placed_rate width (all_generations width boots)
    → ◌≡◌ {A = LedgerView} (record v { pool = pool.total; drops = drops.total; rate = rate })
    (stretches_view true width (source_stretches width boots))
flow-view-is v width boots pool drops rate numbers_are pools dropped rates =
    let readings : List (List PlacedReading) = source_stretches width boots in
    let p = rise-over placed_pool width pool.total boots pools.total_is in
    let d = rise-over placed_drops width drops.total boots dropped.total_is in
    let r = last-over width rate boots rates in
    ap (λ (u : LedgerView). record u { pool = pool.total; drops = drops.total; rate = rate }) numbers_are
    ∙ (λ j. view_with (figures_over width (marks_in placed_mark readings)) (p j) (d j) (r j))
