-- One sample more, as the ledgers of interfaces take it.
use Rattle.std.proofs.Common.{◌≡◌, ℕ, zero, suc, ◌≤◌, ◌<◌, ◌^◌, false, cond, Option, Some, None, List, [], ◌∷◌, ◌++◌, length, refl, sym, ap, subst, ◌∙◌, arith}
use Rattle.std.specs.Prelude.{slice_get, slice_set}
use Rattle.std.specs.List.{sum_by}
use Rattle.std.proofs.lemmas.List.Sums.{sum_by-cons}
use Rattle.count_spec.specs.Stretches.{placed}
use Rattle.count_spec.specs.declared.stretch_place.StretchPlace.{StretchPlace}
use Rattle.count_spec.specs.declared.stretch_place.StretchPlace.TheVariants.{Current, Next, Stale}
use Rattle.books_spec.specs.Generations.{generation_place, generations, booked}
use Rattle.books_spec.specs.PlacedSamples.{InterfaceSample}
use Rattle.books_spec.specs.Items.{Source}
use Rattle.books_spec.specs.Listing.{same_source, among, listed, first_arrivals}
use Rattle.books_spec.specs.WholeBooks.{place_seen, mark_seen}
use Rattle.books_spec.proofs.Generations.{generations-length}
use Rattle.books_spec.proofs.Keys.{source-same}
use Rattle.books_spec.proofs.Listings.{listed-distinct}
use Rattle.stream_books.specs.declared.source.SourceRecord.{SourceRecord}
use Rattle.collector_tables.specs.declared.keys.SourceKey.{SourceKey}
use Rattle.collector_tables.specs.declared.sources.EnteredAt.{EnteredAt}
use Rattle.collector_tables.specs.Sources.{AreEmpty}
use Rattle.if_ledger.specs.Ledgers.{IfState, StandsFor}
use Rattle.if_ledger.specs.Boots.{runs_before, StandsForBoots, added, TakesAny}
use Rattle.if_ledger.proofs.Runs.{run-before, opened-stands, passed-stands, entered-stands}
use Rattle.if_ledger.proofs.Shown.{samples-few}
use Rattle.flow_collector.specs.Interfaces.{ArePaired, run_in, IsReady, IsReadyFor, AreEntered, AreEnteredFor}
use Rattle.flow_collector.proofs.Entering.{with_one, after_one}
use Rattle.flow_collector.proofs.Paired.{at-within, one-at, paired-length, paired-at, paired-push, paired-others, paired-set, IsPlacedIn, there, last, place-in}

-- a new ledger stands for boots without a sample
pub empty-stands : (width : ℕ) (s : IfState) (boots : List (List InterfaceSample)) → s.run ≡ 0 → StandsFor s [] → AreEmpty boots
    → StandsForBoots width s boots
empty-stands width s [] none st all = opened-stands width s none st
empty-stands width s (boot ∷ closed) none st all =
    let P : List InterfaceSample → Type 0 = λ b. StandsForBoots width s (b ∷ closed) in
    subst P (sym all.0) (passed-stands width s closed (empty-stands width s closed none st all.1))

-- where there is a sample there is a generation
placed-some : (p : StretchPlace) (x : InterfaceSample) (g : List InterfaceSample) (gs : List (List InterfaceSample))
    → 1 ≤ length (placed p x (g ∷ gs))
placed-some Current x g gs = omega arith
placed-some Next x g gs = omega arith
placed-some Stale x g gs = omega arith

generation-some : (width : ℕ) (x : InterfaceSample) (before : List InterfaceSample)
    → 1 ≤ length (generations place_seen mark_seen width (x ∷ before))
generation-some width x before = go (generations place_seen mark_seen width before)
  where
    go : (gs : List (List InterfaceSample)) → 1 ≤ length (placed (generation_place place_seen mark_seen width gs x) x gs)
    go [] = omega arith
    go (g ∷ gs) = placed-some (generation_place place_seen mark_seen width (g ∷ gs) x) x g gs

pub run-some : (width : ℕ) (x : InterfaceSample) (current : List InterfaceSample) (closed : List (List InterfaceSample))
    → 1 ≤ runs_before width ((x ∷ current) ∷ closed)
run-some width x current closed =
    let some = generation-some width x current in
    let sum = sum_by-cons (λ (boot : List InterfaceSample). length (generations place_seen mark_seen width boot)) (x ∷ current) closed in
    omega (arith, some, sum)

pub run-grows : (width : ℕ) (x : InterfaceSample) (current : List InterfaceSample) (closed : List (List InterfaceSample))
    → runs_before width (current ∷ closed) ≤ runs_before width ((x ∷ current) ∷ closed)
run-grows width x current closed =
    let more = (generations-length place_seen mark_seen width x current).0 in
    let now = sum_by-cons (λ (boot : List InterfaceSample). length (generations place_seen mark_seen width boot)) (x ∷ current) closed in
    let was = sum_by-cons (λ (boot : List InterfaceSample). length (generations place_seen mark_seen width boot)) current closed in
    omega (arith, more, now, was)

pub set-same : (ledgers : List IfState) (place : ℕ) (s : IfState) → slice_get ledgers place ≡ Some s → slice_set ledgers place s ≡ ledgers
set-same [] place s at = refl
set-same (t ∷ more) zero s at = let same : s ≡ t = cc in ap (λ u. u ∷ more) same
set-same (t ∷ more) (suc n) s at = ap (λ rest. t ∷ rest) (set-same more n s at)

-- what is known of a source of which a sample was entered: its boots before, and where it stands now
pub record IsEnteredAt (limit width : ℕ) (arrived : List Source) (source : Source) (x : InterfaceSample)
    (current : List InterfaceSample) (closed : List (List InterfaceSample)) (entries : List (SourceKey × SourceRecord))
    (e : EnteredAt) : Type 0 where
  pub at : slice_get (listed same_source limit (source ∷ arrived)) e.place ≡ Some source
  pub key : SourceKey
  pub kept : SourceRecord
  pub kept_at : slice_get entries e.place ≡ Some (key, kept)
  pub run_is : run_in kept ≡ runs_before width ((x ∷ current) ∷ closed)
  pub answered : e.booked ≡ booked place_seen mark_seen width current x

-- or of one that isn't listed
pub record IsUnlisted (limit : ℕ) (arrived : List Source) (source : Source) : Type 0 where
  pub absent : among same_source (listed same_source limit arrived) source ≡ false
  pub listed_same : listed same_source limit (source ∷ arrived) ≡ listed same_source limit arrived

abbrev pub IsEntered : ℕ → ℕ → List Source → Source → InterfaceSample → List InterfaceSample → List (List InterfaceSample)
    → List (SourceKey × SourceRecord) → Option EnteredAt → Type 0
IsEntered limit width arrived source x current closed entries None = IsUnlisted limit arrived source
IsEntered limit width arrived source x current closed entries (Some e) =
    IsEnteredAt limit width arrived source x current closed entries e

module _ (limit width : ℕ) (arrived : List Source) (source : Source) (x : InterfaceSample) (current : List InterfaceSample)
    (closed : List (List InterfaceSample)) (boots_of : Source → List (List InterfaceSample))
    (is : boots_of source ≡ current ∷ closed) where
  abbrev Was : Source → IfState → Type 0
  Was k s = StandsForBoots width s (boots_of k)

  abbrev Now : Source → IfState → Type 0
  Now k s = StandsForBoots width s (after_one source x boots_of k)

  was-own : (s : IfState) → Was source s → StandsForBoots width s (current ∷ closed)
  was-own s st =
      let P : List (List InterfaceSample) → Type 0 = λ bs. StandsForBoots width s bs in
      subst P is st

  now-own : (s : IfState) → StandsForBoots width s ((x ∷ current) ∷ closed) → Now source s
  now-own s st =
      let P : List (List InterfaceSample) → Type 0 = λ bs. StandsForBoots width s bs in
      subst P (sym (ap (λ b. cond b (with_one x (boots_of source)) (boots_of source)) (source-same.self source)
      ∙ ap (with_one x) is)) st

  now-other : (t : Source) (s : IfState) → same_source source t ≡ false → Was t s → Now t s
  now-other t s other st =
      let P : List (List InterfaceSample) → Type 0 = λ bs. StandsForBoots width s bs in
      subst P (ap (λ b. cond b (with_one x (boots_of t)) (boots_of t)) (sym other)) st

  -- ---- the ledger may be entered

  ready-was : (entries : List (SourceKey × SourceRecord)) (e : EnteredAt)
      (i : IsEnteredAt limit width arrived source x current closed entries e) (s : IfState) → Was source s
      → sum_by length (current ∷ closed) < 2 ^ 62 → (s.run ≤ run_in i.kept) × (s.samples < 2 ^ 62)
  ready-was entries e i s st few =
      let own = was-own s st in
      let before = run-before width s (current ∷ closed) own in
      let grows = run-grows width x current closed in
      let run = i.run_is in
      let samples = samples-few width s (current ∷ closed) own in
      (omega (arith, before, grows, run), omega (arith, samples, few))

  pub are-ready : (entries : List (SourceKey × SourceRecord)) (ledgers : List IfState) (room : ℕ) (o : Option EnteredAt)
      → IsEntered limit width arrived source x current closed entries o → ArePaired Was (listed same_source limit arrived) ledgers
      → sum_by length (current ∷ closed) < 2 ^ 62 → limit ≤ room → length (listed same_source limit (source ∷ arrived)) ≤ limit
      → IsReadyFor ledgers room entries o
  are-ready entries ledgers room None i all few enough most = tt
  are-ready entries ledgers room (Some e) i all few enough most =
      (i.key, i.kept, i.kept_at, go (place-in same_source source-same limit arrived source e.place i.at))
    where
      within : e.place < length (listed same_source limit (source ∷ arrived))
      within = at-within (listed same_source limit (source ∷ arrived)) e.place source i.at

      some : 1 ≤ run_in i.kept
      some = let run = i.run_is in let one = run-some width x current closed in omega (arith, run, one)

      same : length (listed same_source limit arrived) ≡ length ledgers
      same = paired-length Was (listed same_source limit arrived) ledgers all

      go : IsPlacedIn same_source limit arrived e.place source → IsReady ledgers room e.place (run_in i.kept)
      go (there now at) =
          let less = at-within (listed same_source limit arrived) e.place source at in
          let own = paired-at Was (listed same_source limit arrived) ledgers e.place source at all in
          let W : IfState → Type 0 = λ s. (s.run ≤ run_in i.kept) × (s.samples < 2 ^ 62) in
          record {
            next = omega (arith, less, same);
            room = omega (arith, within, enough, most);
            run_counts = some;
            few = λ was there_is. subst W (one-at ledgers e.place own.0 was own.1 there_is) (ready-was entries e i own.0 own.2 few);
          }
      go (last now at fresh) = record {
        next = omega (arith, at, same);
        room = omega (arith, within, enough, most);
        run_counts = some;
        few = λ was there_is.
            let less = at-within ledgers e.place was there_is in
            absurd (omega (arith, less, at, same));
      }

  -- ---- and then stands for the sample too

  placed-listed : (entries : List (SourceKey × SourceRecord)) (old new : List IfState) (e : EnteredAt)
      (i : IsEnteredAt limit width arrived source x current closed entries e) (mid : List IfState)
      → ArePaired Was (listed same_source limit (source ∷ arrived)) mid
      → ((was : IfState) → slice_get mid e.place ≡ Some was
      → (now : IfState) × (new ≡ slice_set mid e.place now) × TakesAny (run_in i.kept) (added e.booked x.counters) was now)
      → ArePaired Now (listed same_source limit (source ∷ arrived)) new
  placed-listed entries old new e i mid all entered =
      let keys : List Source = listed same_source limit (source ∷ arrived) in
      let own = paired-at Was keys mid e.place source i.at all in
      let step = entered own.0 own.1 in
      let T : ℕ → Type 0 = λ run. TakesAny run (added e.booked x.counters) own.0 step.0 in
      let stands = now-own step.0 (entered-stands width x own.0 step.0 current closed e.booked i.answered (was-own own.0 own.2)
      (subst T i.run_is step.2)) in
      let A : List IfState → Type 0 = λ ledgers. ArePaired Now keys ledgers in
      subst A (sym step.1) (paired-set same_source source-same Was Now keys mid e.place source step.0 i.at
      (listed-distinct same_source source-same limit (source ∷ arrived)) now-other stands all)

  pub are-entered : (entries : List (SourceKey × SourceRecord)) (old new : List IfState) (o : Option EnteredAt)
      → IsEntered limit width arrived source x current closed entries o
      → (among same_source (first_arrivals same_source arrived) source ≡ false → AreEmpty (current ∷ closed))
      → AreEnteredFor old new entries x.counters o → ArePaired Was (listed same_source limit arrived) old
      → ArePaired Now (listed same_source limit (source ∷ arrived)) new
  are-entered entries old new None i fresh entered all =
      let K : List Source → Type 0 = λ keys. ArePaired Now keys new in
      let L : List IfState → Type 0 = λ ledgers. ArePaired Now (listed same_source limit arrived) ledgers in
      subst K (sym i.listed_same) (subst L (sym entered)
      (paired-others same_source source-same Was Now (listed same_source limit arrived) old source i.absent now-other all))
  are-entered entries old new (Some e) i fresh entered all =
      go (place-in same_source source-same limit arrived source e.place i.at)
    where
      step : AreEntered old new e.place (run_in i.kept) (added e.booked x.counters)
      step = entered i.key i.kept i.kept_at

      same : length (listed same_source limit arrived) ≡ length old
      same = paired-length Was (listed same_source limit arrived) old all

      go : IsPlacedIn same_source limit arrived e.place source → ArePaired Now (listed same_source limit (source ∷ arrived)) new
      go (there now at) =
          let less = at-within (listed same_source limit arrived) e.place source at in
          let known = step.are_listed.known (omega (arith, less, same)) in
          let pairs : ArePaired Was (listed same_source limit (source ∷ arrived)) step.listed =
          let K : List Source → Type 0 = λ keys. ArePaired Was keys step.listed in
          let M : List IfState → Type 0 = λ ledgers. ArePaired Was (listed same_source limit arrived) ledgers in
          subst K (sym now) (subst M (sym known) all) in
          placed-listed entries old new e i step.listed pairs step.entered
      go (last now at absent) =
          let opened = step.are_listed.new (omega (arith, at, same)) in
          let first : Was source opened.0 =
          let P : List (List InterfaceSample) → Type 0 = λ bs. StandsForBoots width opened.0 bs in
          subst P (sym is) (empty-stands width opened.0 (current ∷ closed) opened.1 opened.2 (fresh absent)) in
          let pairs : ArePaired Was (listed same_source limit (source ∷ arrived)) step.listed =
          let K : List Source → Type 0 = λ keys. ArePaired Was keys step.listed in
          let M : List IfState → Type 0 = λ ledgers. ArePaired Was (listed same_source limit arrived ++ source ∷ []) ledgers in
          subst K (sym now) (subst M (sym opened.3)
          (paired-push Was (listed same_source limit arrived) old source opened.0 all first)) in
          placed-listed entries old new e i step.listed pairs step.entered
