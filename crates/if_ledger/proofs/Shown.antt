-- What the runs of a ledger show is what the books show of its source, and how many samples were entered.
use Rattle.std.proofs.Common.{◌≡◌, ℕ, ◌≤◌, cond, nat_lt, Option, Some, None, List, [], ◌∷◌, length, map, refl, ap, ◌∙◌, arith}
use Rattle.std.specs.List.{sum_by}
use Rattle.std.proofs.lemmas.List.Sums.{sum_by-cons}
use Rattle.count_spec.specs.Windows.{answer, counted}
use Rattle.count_spec.specs.declared.entered.Entered as window
use Rattle.count_spec.specs.declared.entered.Entered.TheVariants.{First, Repeat, Late}
use Rattle.books_spec.specs.declared.source_view.IfView.{IfView}
use Rattle.books_spec.specs.InterfaceRise.{InterfaceCounters, NumberedCounters, with_counters, first_counters, interface_counters, rise_of, interface_view, interface_shown}
use Rattle.books_spec.specs.PlacedSamples.{InterfaceSample}
use Rattle.books_spec.specs.SourceViews.{source_stretches}
use Rattle.books_spec.specs.WholeBooks.{place_seen, mark_seen, counters_seen, carried}
use Rattle.books_spec.proofs.GenerationViews.{samples-length}
use Rattle.if_ledger.specs.Ledgers.{IfState, StandsFor}
use Rattle.if_ledger.specs.Boots.{runs_of, StandsForBoots}

sums-runs : (f : List NumberedCounters → ℕ) → f [] ≡ 0 → (xs : List (List NumberedCounters)) → sum_by f (runs_of xs) ≡ sum_by f xs
sums-runs f none [] = refl
sums-runs f none ([] ∷ more) =
    let later = sums-runs f none more in
    let sum = sum_by-cons f [] more in
    omega (arith, later, sum, none)
sums-runs f none ((x ∷ xs) ∷ more) =
    let later = sums-runs f none more in
    let now = sum_by-cons f (x ∷ xs) (runs_of more) in
    let sum = sum_by-cons f (x ∷ xs) more in
    omega (arith, later, now, sum)

pub view-runs : (xs : List (List NumberedCounters)) → interface_view (runs_of xs) ≡ interface_view xs
view-runs xs = λ j. record {
  samples = sums-runs length refl xs j;
  rises = map (λ counter. sums-runs (rise_of counter) refl xs j) interface_counters;
}

-- what is shown by the ledger's own figures
pub shown-by : (width : ℕ) (s : IfState) (boots : List (List InterfaceSample)) (view : IfView) → StandsForBoots width s boots
    → ((runs : List (List NumberedCounters)) → StandsFor s runs → view ≡ interface_view runs)
    → cond (nat_lt 0 view.samples) (Some view) None ≡ interface_shown (carried width boots)
shown-by width s boots view st views =
    let is = views (runs_of (carried width boots)) st.runs_stand ∙ view-runs (carried width boots) in
    let S : IfView → Option IfView = λ v. cond (nat_lt 0 v.samples) (Some v) None in
    ap S is

-- ---- how many there are

module _ (width : ℕ) where
  firsts-few : (g : List InterfaceSample) → length (first_counters mark_seen counters_seen width g) ≤ length g
  firsts-few [] = omega arith
  firsts-few (x ∷ g) =
      go (answer width (counted width (map mark_seen g)) x.mark) x.counters (firsts-few g)
    where
      go : (a : window.Entered) (o : Option InterfaceCounters) → length (first_counters mark_seen counters_seen width g) ≤ length g
          → length (with_counters a o (first_counters mark_seen counters_seen width g)) ≤ length (x ∷ g)
      go (First p n) (Some c) later = omega (arith, later)
      go (First p n) None later = omega (arith, later)
      go Repeat o later = omega (arith, later)
      go Late o later = omega (arith, later)

  all-few : (gs : List (List InterfaceSample)) → sum_by length (map (first_counters mark_seen counters_seen width) gs) ≤ sum_by length gs
  all-few [] = omega arith
  all-few (g ∷ gs) =
      let here = firsts-few g in
      let later = all-few gs in
      let now = sum_by-cons (λ (ns : List NumberedCounters). length ns) (first_counters mark_seen counters_seen width g)
      (map (first_counters mark_seen counters_seen width) gs) in
      let sum = sum_by-cons (λ (xs : List InterfaceSample). length xs) g gs in
      omega (arith, here, later, now, sum)

  pub samples-few : (s : IfState) (boots : List (List InterfaceSample)) → StandsForBoots width s boots
      → s.samples ≤ sum_by length boots
  samples-few s boots st =
      let stretches : List (List InterfaceSample) = source_stretches place_seen mark_seen width boots in
      let is = st.runs_stand.samples_are in
      let runs = sums-runs length refl (carried width boots) in
      let few = all-few stretches in
      let all = samples-length place_seen mark_seen width boots in
      omega (arith, is, runs, few, all)
