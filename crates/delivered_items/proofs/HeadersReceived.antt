-- The headers of the account are as many as the flow samples that are received, over all sources.
use Rattle.std.proofs.Common.{◌≡◌, ℕ, ◌+◌, Bool, true, false, cond, List, [], ◌∷◌, length, map, arith, refl, sym, ap, subst, ◌∙◌}
use Rattle.std.specs.Prelude.{nat_lt}
use Rattle.std.specs.List.{AllByRecursion, sum_by}
use Rattle.std.proofs.lemmas.List.Sums.{sum_by-cons}
use Rattle.wire_spec.specs.Shapes.{Tree}
use Rattle.count_spec.specs.TrueStretches.{true_stretches}
use Rattle.count_spec.proofs.TrueStretches.{AreNumbered}
use Rattle.books_spec.specs.declared.limits.Limits.{Limits}
use Rattle.books_spec.specs.Items.{SourceId, Source}
use Rattle.books_spec.specs.Listing.{same_source, among, AreDistinct}
use Rattle.books_spec.specs.Books.{sources_of}
use Rattle.books_spec.specs.WholeBooks.{SourceLine}
use Rattle.books_spec.proofs.Keys.{source-same}
use Rattle.books_spec.proofs.Listings.{listed-distinct, first_arrivals-all}
use Rattle.agent_spec.specs.Sources.{Turn, FlowSetup, CounterSetup}
use Rattle.agent_spec.specs.Samples.{Packet, Datagram, Setup}
use Rattle.agent_spec.specs.Events.{Event, Observe, Poll, Send, Reset, turn_after}
use Rattle.agent_spec.specs.Marks.{is_marked}
use Rattle.agent_spec.specs.Boots.{Boot, IsAmong, MayHappen, seen_in, issue, flow_sample, with_seen, with_dropped, after_packet, is_due, due_sources, counter_sample, with_polled, after_poll, happened}
use Rattle.agent_spec.specs.Sending.{samples_sent}
use Rattle.agent_spec.proofs.Sent.{whole}
use Rattle.account_spec.specs.Histories.{SubAgent, events_of, sent_in, agent_of, flow_sources, counter_sources, IsSetUp, IsSubAgent, IsHistory}
use Rattle.account_spec.specs.Deliveries.{Delivery, boot_of, deliveries_of, AreSent, item}
use Rattle.account_spec.specs.Arrivals.{Arrived, generation_of, arrived_of}
use Rattle.account_spec.specs.Accounts.{generations_of, figures_over, ledger_account, rate_among, sample_sources, delivered_sources, line_account, account}
use Rattle.account_laws.specs.Found.{LesserPremises}
use Rattle.account_laws.proofs.Lists.{all-among, all-behind, all-filter, all-imply, all-members, among-map}
use Rattle.account_laws.proofs.Views.{BootSamples, samples_of, AllFair, IsGood, good-over}
use Rattle.account_laws.proofs.Issued.{kind-of-flow, kind-of-counter, flow-issued, counter-issued, flow-rates, counter-rates}
use Rattle.account_laws.proofs.Agents.{is-sub_agent, may-happen, own-numbered, IsKnown, OfFlow, OfCounter}
use Rattle.account_laws.proofs.Punctual.{among-front, among-behind}
use Rattle.account_laws.proofs.Streams.{boot_samples, samples-all, fair-of}
use Rattle.account_laws.proofs.Whole.{all-there, is-listed, sources-listed}
use Rattle.delivered_items.specs.AccountHeaders.{account_headers, flow_samples_received}
use Rattle.delivered_items.proofs.AccountHeaders.{by-datagram}
use Rattle.delivered_items.proofs.InTimeCounts.{in_time_count, received-in_time}
use Rattle.delivered_items.proofs.HeaderCounts.{HasOwn, of_source, of_flow, all-counted}

-- ---- flow samples have one header each, and counters samples none

module _ (s : Setup) (set_up : IsSetUp s) where
  observed : (f : FlowSetup) (own : Turn) (packet : Packet) (b : Boot) → HasOwn (flow_sample f own packet b)
      → AllByRecursion HasOwn b.issued → AllByRecursion HasOwn (after_packet s f own packet b).issued
  observed f own packet b p h = go (is_marked f.skips (1 + seen_in own b)) (nat_lt (length b.staged) s.stage)
    where
      go : (m r : Bool) → AllByRecursion HasOwn (with_seen own (cond m
          (cond r (issue (flow_sample f own packet b) b) (with_dropped own b)) b)).issued
      go true true = (p, h)
      go true false = h
      go false r = h

  polled : (now : ℕ) (before : List Event) (due : List CounterSetup) (readings : List Tree) (b : Boot)
      → AllByRecursion (λ (c : CounterSetup). IsAmong c s.counters) due → AllByRecursion HasOwn b.issued
      → AllByRecursion HasOwn (after_poll now before due readings b).issued
  polled now before [] readings b a h = h
  polled now before (c ∷ due) [] b a h = h
  polled now before (c ∷ due) (reading ∷ more) b a h =
      let own : Turn = turn_after c.source before in
      polled now before due more (with_polled own now (issue (counter_sample c own reading b) b)) a.1
      (sym (ap (λ (k : Bool). cond {A = ℕ} k 1 0) (kind-of-counter s set_up c a.0)), h)

  issued-own : (events : List Event) → MayHappen s events → AllByRecursion HasOwn (happened s events).issued
  issued-own [] may = tt
  issued-own (Observe f packet ∷ before) may =
      observed f (turn_after f.source before) packet (happened s before)
      (sym (ap (λ (k : Bool). cond {A = ℕ} k 1 0) (kind-of-flow s set_up f may.0))) (issued-own before may.1)
  issued-own (Poll now readings ∷ before) may =
      let b : Boot = happened s before in
      polled now before (due_sources s now before b) readings b
      (all-filter (λ (c : CounterSetup). IsAmong c s.counters) (is_due now before b) s.counters
      (all-members s.counters s.counters (λ c a. a))) (issued-own before may.2)
  issued-own (Send now count ∷ before) may = issued-own before may.1
  issued-own (Reset source ∷ before) may = issued-own before may.1

own-in : (a : SubAgent) → IsSubAgent a → (boot : ℕ) (d : Datagram) → IsAmong d (sent_in a boot) → AllByRecursion HasOwn d.samples
own-in a h boot d there =
    let events : List Event = events_of a.boots boot in
    let may : MayHappen a.setup events = may-happen a h boot in
    let b : Boot = happened a.setup events in
    all-among (λ (g : Datagram). AllByRecursion HasOwn g.samples) d b.sent there
    (by-datagram HasOwn b.sent
    (all-behind HasOwn b.staged (samples_sent b.sent)
    (subst (AllByRecursion HasOwn) (whole a.setup events) (issued-own a.setup h.setup events may))))

sent-own : (history : List SubAgent) → IsHistory history → (ds : List Delivery) → AreSent history ds
    → AllByRecursion (λ (d : Delivery). AllByRecursion HasOwn d.datagram.samples) ds
sent-own history is [] sent = tt
sent-own history is (d ∷ before) sent = (
  own-in (agent_of history d.stream) (is-sub_agent history d.stream is) d.boot d.datagram sent.0,
  sent-own history is before sent.1,
)

-- ---- the line of a source

sum-map : {X Y : Type 0} (f : X → Y) (a : Y → ℕ) (xs : List X) → sum_by a (map f xs) ≡ sum_by (λ (x : X). a (f x)) xs
sum-map f a [] = refl
sum-map {X} f a (x ∷ xs) =
    let p = sum_by-cons a (f x) (map f xs) in
    let q = sum_by-cons (λ (x : X). a (f x)) x xs in
    let later = sum-map f a xs in
    omega (arith, p, q, later)

sum-on : {X : Type 0} (a b : X → ℕ) (xs : List X) → AllByRecursion (λ (x : X). a x ≡ b x) xs → sum_by a xs ≡ sum_by b xs
sum-on a b [] h = refl
sum-on a b (x ∷ xs) h =
    let p = sum_by-cons a x xs in
    let q = sum_by-cons b x xs in
    let here = h.0 in
    let later = sum-on a b xs h.1 in
    omega (arith, p, q, here, later)

module _ (l : Limits) (history : List SubAgent) (ds : List Delivery) (p : LesserPremises l history ds) where
  abbrev w : ℕ
  w = l.datagram_width

  module _ (source : Source) where
    abbrev own : List Delivery
    own = deliveries_of source.stream ds

    abbrev stretches : List (List Delivery)
    stretches = true_stretches boot_of own

    ledger-received : (flow : Bool) (rate : ℕ) (generations : List (List Arrived))
        → (ledger_account flow l.sample_width rate generations).received ≡ (figures_over l.sample_width generations).received
    ledger-received true rate generations = refl
    ledger-received false rate generations = refl

    all-numbered : (bs : List BootSamples) (rate : ℕ) → AllFair l.sample_width rate bs
        → AllByRecursion (λ (xs : List Arrived). AreNumbered generation_of xs) (map samples_of bs)
    all-numbered [] rate k = tt
    all-numbered (b ∷ more) rate k = (k.0.sound.numbered, all-numbered more rate k.1)

    by-fair : (rate : ℕ) → AllFair l.sample_width rate (map (boot_samples w source.id) stretches)
        → (line_account l history ds source).view.ledger.received ≡ of_source l ds source
    by-fair rate fair =
        let bs : List BootSamples = map (boot_samples w source.id) stretches in
        let boots : List (List Arrived) = map (arrived_of w source.id) stretches in
        let same : map samples_of bs ≡ boots = samples-all w source.id stretches in
        ledger-received source.id.flow (rate_among (agent_of history source.stream).setup.flows source) (generations_of boots)
        ∙ received-in_time l.sample_width rate boots
        (subst (AllByRecursion (λ (xs : List Arrived). AreNumbered generation_of xs)) same (all-numbered bs rate fair))
        (subst (λ (b : List (List Arrived)). AllByRecursion (IsGood l.sample_width rate) (generations_of b)) same (good-over l.sample_width rate bs fair))
        ∙ sum-map (arrived_of w source.id) (in_time_count l.sample_width) stretches

    received-of : IsKnown (agent_of history source.stream).setup source.id
        → (line_account l history ds source).view.ledger.received ≡ of_source l ds source
    received-of (OfFlow f there is) =
        let a : SubAgent = agent_of history source.stream in
        let h : IsSubAgent a = is-sub_agent history source.stream p.history_is in
        by-fair f.rate
        (subst (λ (id : SourceId). AllFair l.sample_width f.rate (map (boot_samples w id) stretches)) (sym is)
        (fair-of l history ds p source.stream f.source f.rate
        (among-front f.source (flow_sources a.setup) (counter_sources a.setup) (among-map (λ (g : FlowSetup). g.source) f a.setup.flows there))
        (λ i. flow-issued a.setup h.setup f (events_of a.boots i) there (may-happen a h i))
        (λ i. flow-rates a.setup h.setup f (events_of a.boots i) there (may-happen a h i))))
    received-of (OfCounter k there is) =
        let a : SubAgent = agent_of history source.stream in
        let h : IsSubAgent a = is-sub_agent history source.stream p.history_is in
        by-fair 0
        (subst (λ (id : SourceId). AllFair l.sample_width 0 (map (boot_samples w id) stretches)) (sym is)
        (fair-of l history ds p source.stream k.source 0
        (among-behind k.source (flow_sources a.setup) (counter_sources a.setup) (among-map (λ (g : CounterSetup). g.source) k a.setup.counters there))
        (λ i. counter-issued a.setup h.setup k (events_of a.boots i) there (may-happen a h i))
        (λ i. counter-rates a.setup h.setup k (events_of a.boots i) there (may-happen a h i))))

  -- ---- all lines

  abbrev ks : List Source
  ks = delivered_sources w ds

  distinct-sources : AreDistinct same_source ks
  distinct-sources = subst (λ (sources : List Source). AreDistinct same_source sources) (sources-listed l history ds p)
      (listed-distinct same_source source-same l.sources (sources_of l (map item ds)))

  -- The headers that count are as many as the flow samples received
  pub as-many : length (account_headers l ds) ≡ flow_samples_received (account l history ds)
  as-many =
      all-counted l ks distinct-sources ds (λ stream. own-numbered history ds p.sent stream) (sent-own history p.history_is ds p.sent)
      (all-there same_source source-same ks (sample_sources w ds)
      (λ k there. first_arrivals-all same_source source-same (sample_sources w ds) k there))
      ∙ sym (sum-map (line_account l history ds) (λ (line : SourceLine). cond {A = ℕ} line.id.flow line.view.ledger.received 0) ks
      ∙ sum-on (λ (k : Source). cond {A = ℕ} k.id.flow (line_account l history ds k).view.ledger.received 0) (of_flow l ds) ks
      (all-imply (λ (k : Source). among same_source ks k ≡ true)
      (λ (k : Source). ◌≡◌ {A = ℕ} (cond k.id.flow (line_account l history ds k).view.ledger.received 0) (of_flow l ds k))
      (λ k there. ap (λ (n : ℕ). cond k.id.flow n 0) (received-of k (is-listed l history ds p k there).known)) ks
      (all-there same_source source-same ks ks (λ k there. there))))
