-- What one more sample of a source makes of the runs of its ledger.
use Rattle.std.proofs.Common.{◌≡◌, ℕ, ◌+◌, ◌≤◌, ◌<◌, Bool, true, false, cond, ◌||◌, Option, Some, None, List, [], ◌∷◌, ◌++◌, length, map, ℤ, pos, ◌-ℤ◌, refl, sym, ap, subst, ◌∙◌, true≢false, arith}
use Rattle.std.specs.Prelude.{int_le}
use Rattle.std.specs.Ordering.{int_eq}
use Rattle.std.proofs.lemmas.List.Sums.{sum_by-cons}
use Rattle.count_spec.specs.Windows.{near, greatest, has, place, number_answer, answer, counting, counted, is_first}
use Rattle.count_spec.specs.Stretches.{placed}
use Rattle.count_spec.specs.declared.entered.Place.{Place}
use Rattle.count_spec.specs.declared.entered.Entered as window
use Rattle.count_spec.specs.declared.entered.Entered.TheVariants.{First, Repeat, Late}
use Rattle.count_spec.specs.declared.stretch_place.StretchPlace.{StretchPlace}
use Rattle.count_spec.specs.declared.stretch_place.StretchPlace.TheVariants.{Current, Next, Stale}
use Rattle.books_spec.specs.declared.booked.Booked.{Booked}
use Rattle.books_spec.specs.declared.booked.Booked.TheVariants.{Entered}
use Rattle.books_spec.specs.Generations.{generation_place, generations, booked_at, booked}
use Rattle.books_spec.specs.SourceViews.{joined, with_current}
use Rattle.books_spec.specs.PlacedSamples.{InterfaceSample}
use Rattle.books_spec.specs.InterfaceRise.{InterfaceCounters, NumberedCounters, with_counters, first_counters}
use Rattle.books_spec.specs.WholeBooks.{place_seen, mark_seen, counters_seen}
use Rattle.if_ledger.specs.Ledgers.{IfState, StandsFor, numbers_in}
use Rattle.if_ledger.specs.Boots.{runs_of, runs_before, IsLastRun, IsRunIn, StandsForBoots, added, TakesAny}

-- ---- a First number wasn't counted

or-parts : (a b : Bool) → (a || b) ≡ false → (a ≡ false) × (b ≡ false)
or-parts true b h = absurd (true≢false h)
or-parts false b h = (refl, h)

or-false : (a b : Bool) → a ≡ false → b ≡ false → (a || b) ≡ false
or-false true b h k = absurd (true≢false h)
or-false false b h k = k

abbrev number_of : window.Entered → ℤ → ℤ
number_of (First p n) m = n
number_of Repeat m = m
number_of Late m = m

first-out : (width : ℕ) (set : List ℤ) (q : ℤ) (p : Place) (n : ℤ) → First p n ≡ number_answer width set q → has set n ≡ false
first-out width set q p n e = go (int_le q (greatest set -ℤ pos width)) (has set q) refl e
  where
    go : (b c : Bool) → has set q ≡ c → First p n ≡ cond b Late (cond c Repeat (First (place set q) q)) → has set n ≡ false
    go true c h e = absurd (true≢false (ap is_first e))
    go false true h e = absurd (true≢false (ap is_first e))
    go false false h e = ap (has set) (ap (λ a. number_of a q) e) ∙ h

pub first-is-new : (width : ℕ) (set : List ℤ) (mark : ℕ) (p : Place) (n : ℤ) → First p n ≡ answer width set mark → has set n ≡ false
first-is-new width [] mark p n e = refl
first-is-new width (m ∷ more) mark p n e = first-out width (m ∷ more) (near mark (greatest (m ∷ more))) p n e

module _ (width : ℕ) where
  abbrev generations_in : List InterfaceSample → List (List InterfaceSample)
  generations_in samples = generations place_seen mark_seen width samples

  abbrev firsts : List InterfaceSample → List NumberedCounters
  firsts samples = first_counters mark_seen counters_seen width samples

  -- the numbers of samples that carry counters are counted ones
  carried-counted : (g : List InterfaceSample) (n : ℤ) → has (counted width (map mark_seen g)) n ≡ false
      → has (numbers_in (firsts g)) n ≡ false
  carried-counted [] n out = refl
  carried-counted (z ∷ g) n out =
      go (answer width (counted width (map mark_seen g)) z.mark) z.counters (carried-counted g n) out
    where
      go : (a : window.Entered) (o : Option InterfaceCounters)
          → (has (counted width (map mark_seen g)) n ≡ false → has (numbers_in (firsts g)) n ≡ false)
          → has (counting a (counted width (map mark_seen g))) n ≡ false
          → has (numbers_in (with_counters a o (firsts g))) n ≡ false
      go (First p k) (Some c) later out =
          let parts = or-parts (int_eq k n) (has (counted width (map mark_seen g)) n) out in
          or-false (int_eq k n) (has (numbers_in (firsts g)) n) parts.0 (later parts.1)
      go (First p k) None later out =
          later (or-parts (int_eq k n) (has (counted width (map mark_seen g)) n) out).1
      go Repeat o later out = later out
      go Late o later out = later out

  -- ---- the last run

  last-few : (run count : ℕ) (ns : List NumberedCounters) → IsLastRun run count ns → run ≤ count
  last-few run count [] less = omega (arith, less)
  last-few run count (x ∷ more) same = omega (arith, same)

  run-few : (run count : ℕ) (gs : List (List InterfaceSample)) → IsRunIn width run count gs → run ≤ count
  run-few run count [] most = most
  run-few run count (g ∷ gs) last = last-few run count (firsts g) last

  pub run-before : (s : IfState) (boots : List (List InterfaceSample)) → StandsForBoots width s boots
      → s.run ≤ runs_before width boots
  run-before s [] st = let none : s.run ≡ 0 = st.run_is in omega (arith, none)
  run-before s (current ∷ closed) st =
      run-few s.run (runs_before width (current ∷ closed)) (generations_in current) st.run_is

  -- ---- the beginning, and a boot without a sample

  pub opened-stands : (s : IfState) → s.run ≡ 0 → StandsFor s [] → StandsForBoots width s []
  opened-stands s none st = record { run_is = none; runs_stand = st }

  -- the samples that carry counters, of the generations of the current boot and of those before
  abbrev carried_over : List (List InterfaceSample) → List (List InterfaceSample) → List (List NumberedCounters)
  carried_over gs gone = map firsts (with_current gs ++ gone)

  runs-passed : (gs gone : List (List InterfaceSample)) → runs_of (carried_over gs gone) ≡ runs_of (carried_over [] (gs ++ gone))
  runs-passed [] gone = refl
  runs-passed (g ∷ gs) gone = refl

  runs-front : (gs gone : List (List InterfaceSample)) → runs_of (carried_over gs gone) ≡ runs_of (map firsts (gs ++ gone))
  runs-front [] gone = refl
  runs-front (g ∷ gs) gone = refl

  pub passed-stands : (s : IfState) (boots : List (List InterfaceSample)) → StandsForBoots width s boots
      → StandsForBoots width s ([] ∷ boots)
  passed-stands s [] st =
      let none : s.run ≡ 0 = st.run_is in
      record { run_is = omega (arith, none); runs_stand = st.runs_stand }
  passed-stands s (current ∷ closed) st =
      let few = run-before s (current ∷ closed) st in
      let sum = sum_by-cons (λ (boot : List InterfaceSample). length (generations_in boot)) [] (current ∷ closed) in
      let P : List (List NumberedCounters) → Type 0 = λ runs. StandsFor s runs in
      record {
        run_is = omega (arith, few, sum);
        runs_stand = subst P (runs-passed (generations_in current) (joined (map generations_in closed))) st.runs_stand;
      }

  -- ---- one sample more

  pub record After (s : IfState) (count : ℕ) (gs gone : List (List InterfaceSample)) : Type 0 where
    pub run_is : IsRunIn width s.run count gs
    pub runs_stand : StandsFor s (runs_of (carried_over gs gone))

  -- of a sample that begins a generation, of which there are more than the last run
  begun : (a : window.Entered) (o : Option InterfaceCounters) (old new : IfState) (count : ℕ) (gs gone : List (List InterfaceSample))
      (g : List InterfaceSample) → firsts g ≡ with_counters a o [] → old.run < count
      → StandsFor old (runs_of (map firsts (gs ++ gone))) → TakesAny count (added (Entered a) o) old new
      → After new count (g ∷ gs) gone
  begun a o old new count gs gone g is less st takes = go a o is takes
    where
      same : firsts g ≡ [] → new ≡ old → After new count (g ∷ gs) gone
      same none this =
          let R : List NumberedCounters → Type 0 = λ ns. IsLastRun old.run count ns in
          let S : List NumberedCounters → Type 0 = λ ns. StandsFor old (runs_of (ns ∷ map firsts (gs ++ gone))) in
          let A : IfState → Type 0 = λ s. After s count (g ∷ gs) gone in
          subst A (sym this) (record { run_is = subst R (sym none) less; runs_stand = subst S (sym none) st })

      go : (a : window.Entered) (o : Option InterfaceCounters) → firsts g ≡ with_counters a o []
          → TakesAny count (added (Entered a) o) old new → After new count (g ∷ gs) gone
      go (First p n) (Some c) is takes =
          let R : List NumberedCounters → Type 0 = λ ns. IsLastRun new.run count ns in
          let S : List NumberedCounters → Type 0 = λ ns. StandsFor new (runs_of (ns ∷ map firsts (gs ++ gone))) in
          record {
            run_is = subst R (sym is) takes.run_is;
            runs_stand = subst S (sym is) (takes.begins (runs_of (map firsts (gs ++ gone))) less st);
          }
      go (First p n) None is takes = same is takes
      go Repeat (Some c) is takes = same is takes
      go Repeat None is takes = same is takes
      go Late (Some c) is takes = same is takes
      go Late None is takes = same is takes

  -- of a sample of a generation that has samples with counters, its last run
  gone-on : (a : window.Entered) (o : Option InterfaceCounters) (old new : IfState) (count : ℕ) (gs gone : List (List InterfaceSample))
      (g : List InterfaceSample) (y : NumberedCounters) (ys : List NumberedCounters) → firsts g ≡ with_counters a o (y ∷ ys)
      → ((p : Place) (n : ℤ) → First p n ≡ a → has (numbers_in (y ∷ ys)) n ≡ false) → old.run ≡ count
      → StandsFor old ((y ∷ ys) ∷ runs_of (map firsts (gs ++ gone))) → TakesAny count (added (Entered a) o) old new
      → After new count (g ∷ gs) gone
  gone-on a o old new count gs gone g y ys is out last st takes = go a o is out takes
    where
      same : firsts g ≡ y ∷ ys → new ≡ old → After new count (g ∷ gs) gone
      same these this =
          let R : List NumberedCounters → Type 0 = λ ns. IsLastRun old.run count ns in
          let S : List NumberedCounters → Type 0 = λ ns. StandsFor old (runs_of (ns ∷ map firsts (gs ++ gone))) in
          let A : IfState → Type 0 = λ s. After s count (g ∷ gs) gone in
          subst A (sym this) (record { run_is = subst R (sym these) last; runs_stand = subst S (sym these) st })

      go : (a : window.Entered) (o : Option InterfaceCounters) → firsts g ≡ with_counters a o (y ∷ ys)
          → ((p : Place) (n : ℤ) → First p n ≡ a → has (numbers_in (y ∷ ys)) n ≡ false)
          → TakesAny count (added (Entered a) o) old new → After new count (g ∷ gs) gone
      go (First p n) (Some c) is out takes =
          let R : List NumberedCounters → Type 0 = λ ns. IsLastRun new.run count ns in
          let S : List NumberedCounters → Type 0 = λ ns. StandsFor new (runs_of (ns ∷ map firsts (gs ++ gone))) in
          record {
            run_is = subst R (sym is) takes.run_is;
            runs_stand = subst S (sym is) (takes.goes_on (y ∷ ys) (runs_of (map firsts (gs ++ gone))) (sym last) (omega arith) (out p n refl) st);
          }
      go (First p n) None is out takes = same is takes
      go Repeat (Some c) is out takes = same is takes
      go Repeat None is out takes = same is takes
      go Late (Some c) is out takes = same is takes
      go Late None is out takes = same is takes

  module _ (x : InterfaceSample) (old new : IfState) (gone : List (List InterfaceSample)) where
    -- of a sample of the current generation
    current-after : (g : List InterfaceSample) (gs : List (List InterfaceSample)) (count : ℕ)
        → IsLastRun old.run count (firsts g) → StandsFor old (runs_of (map firsts ((g ∷ gs) ++ gone)))
        → TakesAny count (added (Entered (answer width (counted width (map mark_seen g)) x.mark)) x.counters) old new
        → After new count ((x ∷ g) ∷ gs) gone
    current-after g gs count last st takes = go (firsts g) refl last
      where
        a : window.Entered
        a = answer width (counted width (map mark_seen g)) x.mark

        go : (ns : List NumberedCounters) → firsts g ≡ ns → IsLastRun old.run count ns → After new count ((x ∷ g) ∷ gs) gone
        go [] none less =
            let S : List NumberedCounters → Type 0 = λ ns. StandsFor old (runs_of (ns ∷ map firsts (gs ++ gone))) in
            begun a x.counters old new count gs gone (x ∷ g) (ap (with_counters a x.counters) none) less (subst S none st) takes
        go (y ∷ ys) these same =
            let S : List NumberedCounters → Type 0 = λ ns. StandsFor old (runs_of (ns ∷ map firsts (gs ++ gone))) in
            let H : List NumberedCounters → Type 0 = λ ns. (p : Place) (n : ℤ) → First p n ≡ a → has (numbers_in ns) n ≡ false in
            let out : H (firsts g) = λ p n e.
            carried-counted g n (first-is-new width (counted width (map mark_seen g)) x.mark p n e) in
            gone-on a x.counters old new count gs gone (x ∷ g) y ys (ap (with_counters a x.counters) these) (subst H these out) same
            (subst S these st) takes

    placed-after : (p : StretchPlace) (gs : List (List InterfaceSample)) (was count rest : ℕ) → was ≡ length gs + rest
        → count ≡ length (placed p x gs) + rest → IsRunIn width old.run was gs → StandsFor old (runs_of (carried_over gs gone))
        → TakesAny count (added (booked_at place_seen mark_seen width p gs x.mark) x.counters) old new
        → After new count (placed p x gs) gone
    placed-after Next gs was count rest before now run st takes =
        let most = run-few old.run was gs run in
        let S : List (List NumberedCounters) → Type 0 = λ runs. StandsFor old runs in
        begun (answer width [] x.mark) x.counters old new count gs gone (x ∷ []) refl (omega (arith, before, now, most))
        (subst S (runs-front gs gone) st) takes
    placed-after Current [] was count rest before now run st takes =
        let none : old.run < count = omega (arith, before, now, run) in
        begun (answer width [] x.mark) x.counters old new count [] gone (x ∷ []) refl none st takes
    placed-after Current (g ∷ gs) was count rest before now run st takes =
        let same : was ≡ count = omega (arith, before, now) in
        let R : ℕ → Type 0 = λ n. IsLastRun old.run n (firsts g) in
        current-after g gs count (subst R same run) st takes
    placed-after Stale gs was count rest before now run st takes =
        let same : was ≡ count = omega (arith, before, now) in
        let A : IfState → Type 0 = λ s. After s count gs gone in
        let R : ℕ → Type 0 = λ n. IsRunIn width old.run n gs in
        subst A (sym takes) (record { run_is = subst R same run; runs_stand = st })

  pub entered-stands : (x : InterfaceSample) (old new : IfState) (current : List InterfaceSample) (closed : List (List InterfaceSample))
      (given : Booked) → given ≡ booked place_seen mark_seen width current x → StandsForBoots width old (current ∷ closed)
      → TakesAny (runs_before width ((x ∷ current) ∷ closed)) (added given x.counters) old new
      → StandsForBoots width new ((x ∷ current) ∷ closed)
  entered-stands x old new current closed given is st takes =
      let gs : List (List InterfaceSample) = generations_in current in
      let gone : List (List InterfaceSample) = joined (map generations_in closed) in
      let p : StretchPlace = generation_place place_seen mark_seen width gs x in
      let count : ℕ = runs_before width ((x ∷ current) ∷ closed) in
      let T : Booked → Type 0 = λ b. TakesAny count (added b x.counters) old new in
      let before = sum_by-cons (λ (boot : List InterfaceSample). length (generations_in boot)) current closed in
      let now = sum_by-cons (λ (boot : List InterfaceSample). length (generations_in boot)) (x ∷ current) closed in
      let after = placed-after x old new gone p gs (runs_before width (current ∷ closed)) count (runs_before width closed) before now
      st.run_is st.runs_stand (subst T is takes) in
      record { run_is = after.run_is; runs_stand = after.runs_stand }
