-- What is shown of a source of a stream is the account of what was delivered of it.
use Rattle.std.proofs.Common.{◌≡◌, ℕ, ◌+◌, ◌≤◌, inl, inr, Bool, true, false, cond, ◌||◌, List, [], ◌∷◌, ◌++◌, length, map, refl, sym, ap, subst, ◌∙◌, arith}
use Rattle.std.specs.List.{AllByRecursion, sum_by, count_by, list_any}
use Rattle.std.proofs.lemmas.List.Sums.{sum_by-cons}
use Rattle.count_spec.specs.TrueStretches.{stretch_of, indexes, true_stretches}
use Rattle.count_spec.specs.Boots.{boots}
use Rattle.count_spec.proofs.Counts.{count_by-cons}
use Rattle.books_spec.specs.declared.limits.Limits.{Limits}
use Rattle.books_spec.specs.Items.{SourceId, Stream, Source, stamp_of}
use Rattle.books_spec.specs.Listing.{same_stream, same_source, among}
use Rattle.books_spec.specs.Books.{own, listed_streams, sources_of}
use Rattle.books_spec.specs.SourceViews.{PlacedReading, source_view}
use Rattle.books_spec.specs.PlacedSamples.{placed_readings, placed_boots}
use Rattle.books_spec.proofs.Placed as placed
use Rattle.agent_spec.specs.Sources.{FlowSetup, CounterSetup}
use Rattle.agent_spec.specs.Sources as agents
use Rattle.agent_spec.specs.Samples.{Sample}
use Rattle.agent_spec.specs.Boots.{happened, IsAmong}
use Rattle.account_spec.specs.Histories.{SubAgent, events_of, agent_of, flow_sources, counter_sources, IsSubAgent}
use Rattle.account_spec.specs.Deliveries.{Delivery, boot_of, number_of, numbers_of, deliveries_of, id_of, item}
use Rattle.account_spec.specs.TrueNumbers.{AreClose}
use Rattle.account_spec.specs.Arrivals.{Arrived, arrived_of, source_boots}
use Rattle.account_spec.specs.Accounts.{source_account, rate_among}
use Rattle.account_spec.specs.Visible.{AreVisible}
use Rattle.account_laws.specs.Found.{EachIsClose, AreFound, LesserPremises}
use Rattle.account_laws.proofs.Lists.{among-map}
use Rattle.account_laws.proofs.Moved.{base}
use Rattle.account_laws.proofs.Views.{BootSamples, samples_of, entered_of, AllFair, HasSome, source-view-is, entered}
use Rattle.account_laws.proofs.BootSteps.{AreSeen, shown_all, boots-are}
use Rattle.account_laws.proofs.Entering.{own-are, entered-are}
use Rattle.account_laws.proofs.Issued.{IsIssued, flow-issued, counter-issued, flow-rates, counter-rates, Mine, kind-of-counter}
use Rattle.account_laws.proofs.Once.{DeliversWell, delivers-well, delivered-all}
use Rattle.account_laws.proofs.Agents.{is-sub_agent, may-happen, own-numbered, of-boot, each-stream, each-source, IsKnown, OfFlow, OfCounter, rate-of}

-- a boot's samples of a source, and by how much its datagrams' counted numbers are less
abbrev pub boot_samples : ℕ → SourceId → List Delivery → BootSamples
boot_samples width id boot = record { less = base (numbers_of boot); samples = arrived_of width id boot }

entered-all : (width : ℕ) (id : SourceId) (ss : List (List Delivery)) → AllByRecursion (λ (s : List Delivery). AreClose (numbers_of s)) ss
    → map (placed_readings width id) (shown_all ss) ≡ map entered_of (map (boot_samples width id) ss)
entered-all width id [] h = refl
entered-all width id (s ∷ ss) h =
    let here = entered-are width id s h.0 in let later = entered-all width id ss h.1 in λ j. here j ∷ later j

pub samples-all : (width : ℕ) (id : SourceId) (ss : List (List Delivery))
    → map samples_of (map (boot_samples width id) ss) ≡ map (arrived_of width id) ss
samples-all width id [] = refl
samples-all width id (s ∷ ss) = ap (λ (r : List (List Arrived)). arrived_of width id s ∷ r) (samples-all width id ss)

-- ---- there is a sample

pub one-at-least : {X : Type 0} (p : X → Bool) (xs : List X) → list_any p xs ≡ true → 1 ≤ count_by p xs
one-at-least p [] h = let bad : false ≡ true = h in absurd cc
one-at-least {X} p (x ∷ xs) h = go (p x) refl h (λ k. one-at-least p xs k)
  where
    go : (b : Bool) → p x ≡ b → (b || list_any p xs) ≡ true → (list_any p xs ≡ true → 1 ≤ count_by p xs) → 1 ≤ count_by p (x ∷ xs)
    go true e k later =
        let c : count_by p (x ∷ xs) ≡ cond true 1 0 + count_by p xs =
        count_by-cons p x xs ∙ ap (λ (b : Bool). cond b 1 0 + count_by p xs) e in
        omega (arith, c)
    go false e k later =
        let c : count_by p (x ∷ xs) ≡ cond false 1 0 + count_by p xs =
        count_by-cons p x xs ∙ ap (λ (b : Bool). cond b 1 0 + count_by p xs) e in
        let l = later k in
        omega (arith, c, l)

some-of : (bs : List BootSamples) → 1 ≤ sum_by length (map entered_of bs) → HasSome (map samples_of bs)
some-of [] h = absurd (omega arith)
some-of (b ∷ bs) h =
    go b.samples (sum_by-cons (λ (xs : List PlacedReading). length xs) (entered_of b) (map entered_of bs)) (λ k. some-of bs k)
  where
    go : (xs : List Arrived)
        → sum_by length (map entered_of (b ∷ bs)) ≡ length (map (entered b.less) xs) + sum_by length (map entered_of bs)
        → (1 ≤ sum_by length (map entered_of bs) → HasSome (map samples_of bs)) → HasSome (xs ∷ map samples_of bs)
    go [] e later = later (omega (arith, h, e))
    go (x ∷ xs) e later = tt

-- ---- under the premises

module _ (l : Limits) (history : List SubAgent) (ds : List Delivery) (p : LesserPremises l history ds) where
  abbrev w : ℕ
  w = l.datagram_width

  pub seen : (stream : Stream) → AreSeen l.boot_slack (deliveries_of stream ds)
  seen stream = record {
    numbered = own-numbered history ds p.sent stream;
    close = each-stream history ds p.sent (EachIsClose boot_of number_of) tt p.datagrams stream;
    visible = each-stream history ds p.sent (AreVisible l.boot_slack) tt p.visible stream;
  }

  -- the samples of a source, boot by boot
  fair-boots : (stream : Stream) (s : agents.Source) (rate : ℕ)
      → ((boot : ℕ) → DeliversWell (arrived_of w (id_of s) (stretch_of boot_of boot (deliveries_of stream ds))))
      → ((boot : ℕ) → AllByRecursion (λ (x : Arrived). x.sample.rate ≡ rate) (arrived_of w (id_of s) (stretch_of boot_of boot (deliveries_of stream ds))))
      → (is : List ℕ)
      → AllByRecursion (AreFound l.sample_width) (map (arrived_of w (id_of s)) (map (λ i. stretch_of boot_of i (deliveries_of stream ds)) is))
      → AllFair l.sample_width rate (map (boot_samples w (id_of s)) (map (λ i. stretch_of boot_of i (deliveries_of stream ds)) is))
  fair-boots stream s rate well rates [] h = tt
  fair-boots stream s rate well rates (i ∷ is) h = (
    record {
      sound = record {
        numbered = (well i).numbered;
        order = (well i).order;
        close = h.0.close;
        apparent = h.0.apparent;
      };
      rise = h.0.rise;
      rates = rates i;
    },
    fair-boots stream s rate well rates is h.1,
  )

  -- of a source that is set up
  pub fair-of : (stream : Stream) (s : agents.Source) (rate : ℕ)
      → IsAmong s (flow_sources (agent_of history stream).setup ++ counter_sources (agent_of history stream).setup)
      → ((boot : ℕ) → IsIssued s (happened (agent_of history stream).setup (events_of (agent_of history stream).boots boot)))
      → ((boot : ℕ) → AllByRecursion (λ (y : Sample). Mine s y → y.rate ≡ rate)
      (happened (agent_of history stream).setup (events_of (agent_of history stream).boots boot)).issued)
      → AllFair l.sample_width rate (map (boot_samples w (id_of s)) (true_stretches boot_of (deliveries_of stream ds)))
  fair-of stream s rate there issued rates =
      let a : SubAgent = agent_of history stream in
      fair-boots stream s rate
      (λ i. delivers-well s a.setup (events_of a.boots i) i w (stretch_of boot_of i (deliveries_of stream ds)) (of-boot history ds p.sent stream i) (issued i))
      (λ i. delivered-all s a.setup (events_of a.boots i) i w (stretch_of boot_of i (deliveries_of stream ds)) (of-boot history ds p.sent stream i)
      (λ (y : Sample). y.rate ≡ rate) (rates i))
      (indexes boot_of (deliveries_of stream ds))
      (each-source history ds p.sent (AreFound l.sample_width) w p.samples stream s there)

  among-front : {X : Type 0} (x : X) (xs ys : List X) → IsAmong x xs → IsAmong x (xs ++ ys)
  among-front x [] ys h = absurd h
  among-front x (y ∷ xs) ys (inl e) = inl e
  among-front x (y ∷ xs) ys (inr h) = inr (among-front x xs ys h)

  pub among-behind : {X : Type 0} (x : X) (xs ys : List X) → IsAmong x ys → IsAmong x (xs ++ ys)
  among-behind x [] ys h = h
  among-behind x (y ∷ xs) ys h = inr (among-behind x xs ys h)

  -- ---- what is entered

  pub stream-boots : (stream : Stream) → boots stamp_of l.boot_slack w (own stream (map item ds)) ≡ shown_all (true_stretches boot_of (deliveries_of stream ds))
  stream-boots stream = ap (boots stamp_of l.boot_slack w) (own-are stream ds) ∙ boots-are l.boot_slack w (deliveries_of stream ds) (seen stream)

  abbrev pub boots_in : Source → List BootSamples
  boots_in source = map (boot_samples w source.id) (true_stretches boot_of (deliveries_of source.stream ds))

  placed-are : (source : Source) → placed_boots l source (map item ds) ≡ map entered_of (boots_in source)
  placed-are source =
      ap (map (placed_readings w source.id)) (stream-boots source.stream)
      ∙ entered-all w source.id (true_stretches boot_of (deliveries_of source.stream ds)) (seen source.stream).close

  pub some-in : (source : Source) → among same_stream (listed_streams l (map item ds)) source.stream ≡ true
      → among same_source (sources_of l (map item ds)) source ≡ true → HasSome (map samples_of (boots_in source))
  some-in source listed there =
      let n = one-at-least (same_source source) (sources_of l (map item ds)) there in
      let e = sym (ap (sum_by length) (placed-are source)) ∙ placed.entered-are l source (map item ds) listed in
      some-of (boots_in source) (omega (arith, n, e))

  view-by : (source : Source) (rate : ℕ) → AllFair l.sample_width rate (boots_in source) → HasSome (map samples_of (boots_in source))
      → source_view source.id.flow l.sample_width (placed_boots l source (map item ds))
      ≡ source_account source.id.flow l.sample_width rate (source_boots w source.id (deliveries_of source.stream ds))
  view-by source rate fair some =
      ap (source_view source.id.flow l.sample_width) (placed-are source)
      ∙ source-view-is source.id.flow l.sample_width rate (boots_in source) fair some
      ∙ ap (source_account source.id.flow l.sample_width rate)
      (samples-all w source.id (true_stretches boot_of (deliveries_of source.stream ds)))

  -- The view of a source is its account
  pub view-is : (source : Source) → IsKnown (agent_of history source.stream).setup source.id
      → among same_stream (listed_streams l (map item ds)) source.stream ≡ true
      → among same_source (sources_of l (map item ds)) source ≡ true
      → source_view source.id.flow l.sample_width (placed_boots l source (map item ds))
      ≡ source_account source.id.flow l.sample_width (rate_among (agent_of history source.stream).setup.flows source)
      (source_boots w source.id (deliveries_of source.stream ds))
  view-is source (OfFlow f among id) listed there =
      let a : SubAgent = agent_of history source.stream in
      let h : IsSubAgent a = is-sub_agent history source.stream p.history_is in
      let fair = fair-of source.stream f.source f.rate
      (among-front f.source (flow_sources a.setup) (counter_sources a.setup) (among-map (λ (g : FlowSetup). g.source) f a.setup.flows among))
      (λ i. flow-issued a.setup h.setup f (events_of a.boots i) among (may-happen a h i))
      (λ i. flow-rates a.setup h.setup f (events_of a.boots i) among (may-happen a h i)) in
      view-by source f.rate
      (subst (λ (i : SourceId). AllFair l.sample_width f.rate (map (boot_samples w i) (true_stretches boot_of (deliveries_of source.stream ds)))) (sym id) fair)
      (some-in source listed there)
      ∙ ap (λ (r : ℕ). source_account source.id.flow l.sample_width r (source_boots w source.id (deliveries_of source.stream ds)))
      (sym (rate-of a.setup h.setup f source among id))
  view-is source (OfCounter c among id) listed there =
      let a : SubAgent = agent_of history source.stream in
      let h : IsSubAgent a = is-sub_agent history source.stream p.history_is in
      let fair = fair-of source.stream c.source 0
      (among-behind c.source (flow_sources a.setup) (counter_sources a.setup) (among-map (λ (d : CounterSetup). d.source) c a.setup.counters among))
      (λ i. counter-issued a.setup h.setup c (events_of a.boots i) among (may-happen a h i))
      (λ i. counter-rates a.setup h.setup c (events_of a.boots i) among (may-happen a h i)) in
      view-by source 0
      (subst (λ (i : SourceId). AllFair l.sample_width 0 (map (boot_samples w i) (true_stretches boot_of (deliveries_of source.stream ds)))) (sym id) fair)
      (some-in source listed there)
      ∙ no-rate source.id.flow (ap (λ (i : SourceId). i.flow) id ∙ kind-of-counter a.setup h.setup c among)
    where
      no-rate : (b : Bool) → b ≡ false
          → source_account b l.sample_width 0 (source_boots w source.id (deliveries_of source.stream ds))
          ≡ source_account b l.sample_width (rate_among (agent_of history source.stream).setup.flows source)
          (source_boots w source.id (deliveries_of source.stream ds))
      no-rate true e = let bad : true ≡ false = e in absurd cc
      no-rate false e = refl
