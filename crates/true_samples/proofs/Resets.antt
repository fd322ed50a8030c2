-- What is kept once a source was reset, or the sub-agent restarted.
use Rattle.std.proofs.Common.{◌≡◌, ◌∙◌, ℕ, ◌+◌, ◌<◌, inl, inr, Bool, true, false, cond, Some, List, [], ◌∷◌, ◌++◌, length, map, set, refl, sym, ap, subst, arith}
use Rattle.std.specs.Prelude.{slice_get}
use Rattle.std.specs.List.{AllByRecursion, count_by}
use Rattle.std.proofs.lemmas.Bool.{true≢false}
use Rattle.std.proofs.lemmas.Option.{slice_get_within}
use Rattle.std.proofs.lemmas.List.Sums.{sum_by-cons}
use Rattle.data_format.specs.declared.source.SourceId.{SourceId}
use Rattle.agent_setups.specs.Ids.{is_among}
use Rattle.agent_spec.specs.Sources.{Source, same_source, Turn, FlowSetup, CounterSetup}
use Rattle.agent_spec.specs.Samples.{Setup}
use Rattle.agent_spec.specs.Events.{Event, Reset, is_reset_of, generation_after}
use Rattle.agent_spec.specs.Boots.{Boot, IsAmong, happened}
use Rattle.agent_spec.specs.Spelled.{Sender}
use Rattle.agent_spec.proofs.Keys.{source-self}
use Rattle.agent_spec.proofs.Turns.{turn-stays}
use Rattle.agent_sampler.proofs.Follows as sampled
use Rattle.agent_poller.proofs.Follows as polled
use Rattle.account_spec.specs.Histories.{IsSetUp, flow_sources, counter_sources}
use Rattle.true_samples.specs.declared.counts.FlowCounts.{FlowCounts}
use Rattle.true_samples.specs.declared.counts.CounterCounts.{CounterCounts}
use Rattle.true_samples.specs.States.{BootState, TrueState}
use Rattle.true_samples.specs.Opening.{sampled_as, polled_as, flow_begun, counter_begun}
use Rattle.agent_setups.specs.declared.setup.FlowSetup.{FlowSetup as SetUpFlow}
use Rattle.agent_setups.specs.declared.setup.CounterSetup.{CounterSetup as SetUpCounter}
use Rattle.true_samples.specs.Counts.{id_in, source_as, flow_counts, counter_counts, IsShort}
use Rattle.true_samples.specs.Moves.{more, flow_anew, counter_anew, with_flow_reset, with_counter_reset, restarted, nothing_yet}
use Rattle.true_samples.specs.Standing.{IsOf, IsBoot, StandsFor}
use Rattle.true_samples.proofs.Lists.{each-next, get-mapped, get-map, map-length, map-same, all-get}
use Rattle.true_samples.proofs.Sources.{kinds-differ, kinds-differ-too, map-at, source-of, among-ids}
use Rattle.true_samples.proofs.Bounds.{generation-less, shorter}
use Rattle.true_samples.proofs.Packets.{shown, kept}

-- a reset begins the next generation of its source, and of no other
next-generation : (source : Source) (events : List Event)
    → generation_after source (Reset source ∷ events) ≡ 1 + generation_after source events
next-generation source events =
    let c : count_by (is_reset_of source) (Reset source ∷ events) ≡ cond (same_source source source) 1 0 + count_by (is_reset_of source) events =
    sum_by-cons (λ (x : Event). cond (is_reset_of source x) 1 0) (Reset source) events in
    let one : ℕ = 1 in
    let one_more : cond (same_source source source) 1 0 ≡ one = ap (λ (b : Bool). cond b 1 0) (source-self source) in
    omega (arith, c, one_more)

next-shown : (s : Setup) (source : Source) (events : List Event) → IsShort s events
    → more (generation_after source events) ≡ generation_after source (Reset source ∷ events)
next-shown s source events short =
    let below = generation-less s events short source in
    omega (arith, below, next-generation source events)

generation-same : (source other : Source) (events : List Event) → same_source source other ≡ false
    → generation_after source (Reset other ∷ events) ≡ generation_after source events
generation-same source other events apart = ap (λ (t : Turn). t.generation) (turn-stays source (Reset other) events apart)

module _ (s : Setup) (events : List Event) (source : Source) where
  abbrev b : Boot
  b = happened s events

  abbrev e : Event
  e = Reset source

  other-flow : (f : FlowSetup) → same_source f.source source ≡ false → flow_counts events b f ≡ flow_counts (e ∷ events) b f
  other-flow f apart = λ i. shown f (sym (generation-same f.source source events apart) i)
      (sym (sampled.other-reset-counts s f.source source events apart) i)

  other-counter : (c : CounterSetup) → same_source c.source source ≡ false
      → counter_counts events b c ≡ counter_counts (e ∷ events) b c
  other-counter c apart = λ i. kept c (sym (generation-same c.source source events apart) i)
      (sym (polled.other-reset-counts s c.source source events apart) i)

-- ---- a source of flow samples

module _ (sender : Sender) (s : Setup) (t : TrueState) (events : List Event) (earlier : List (List Event)) (f : FlowSetup) (p : ℕ)
    (short : IsShort s events) (st : StandsFor sender s t events earlier) (at : slice_get s.flows p ≡ Some f) where
  abbrev c : Boot
  c = happened s events

  abbrev ev : List Event
  ev = Reset f.source ∷ events

  own-flow : flow_anew (more (generation_after f.source events)) (flow_counts events c f) ≡ flow_counts ev c f
  own-flow = λ i. shown f (next-shown s f.source events short i) (sym (sampled.reset-counts s f.source events) i)

  pub flow-anew : StandsFor sender s (with_flow_reset p (flow_counts events c f) t) ev earlier
  flow-anew = record {
    set_up = record {
      lawful = st.set_up.lawful;
      first_is = st.set_up.first_is;
      flow_ids_are = st.set_up.flow_ids_are;
      counter_ids_are = st.set_up.counter_ids_are;
    };
    follows = record {
      flows_are = (λ i. set (st.follows.flows_are i) p (own-flow i))
          ∙ map-at (λ (z : FlowSetup). z.source) (flow_counts events c) (flow_counts ev c) s.flows p f st.set_up.lawful.flows_once at
          (other-flow s events f.source);
      counters_are = st.follows.counters_are
          ∙ map-same (counter_counts events c) (counter_counts ev c) (λ (k : CounterSetup). k.source.flow ≡ false) s.counters
          (λ k kind. other-counter s events f.source k (kinds-differ-too k.source f.source kind
          (all-get (λ (z : FlowSetup). z.source.flow ≡ true) s.flows p f st.set_up.lawful.flows at))) st.set_up.lawful.counters;
      staged_are = st.follows.staged_are;
      sent_are = st.follows.sent_are;
      issued_is = st.follows.issued_is;
      dropped_is = st.follows.dropped_is;
    };
    earlier_are = st.earlier_are;
  }

-- ---- a source of counters samples

module _ (sender : Sender) (s : Setup) (t : TrueState) (events : List Event) (earlier : List (List Event)) (k : CounterSetup) (p : ℕ)
    (short : IsShort s events) (st : StandsFor sender s t events earlier) (at : slice_get s.counters p ≡ Some k) where
  abbrev d : Boot
  d = happened s events

  abbrev es : List Event
  es = Reset k.source ∷ events

  own-counter : counter_anew (more (generation_after k.source events)) (counter_counts events d k) ≡ counter_counts es d k
  own-counter = λ i. kept k (next-shown s k.source events short i) (sym (polled.reset-counts s k.source events) i)

  pub counter-anew : StandsFor sender s (with_counter_reset p (counter_counts events d k) t) es earlier
  counter-anew = record {
    set_up = record {
      lawful = st.set_up.lawful;
      first_is = st.set_up.first_is;
      flow_ids_are = st.set_up.flow_ids_are;
      counter_ids_are = st.set_up.counter_ids_are;
    };
    follows = record {
      flows_are = st.follows.flows_are
          ∙ map-same (flow_counts events d) (flow_counts es d) (λ (z : FlowSetup). z.source.flow ≡ true) s.flows
          (λ z kind. other-flow s events k.source z (kinds-differ z.source k.source kind
          (all-get (λ (x : CounterSetup). x.source.flow ≡ false) s.counters p k st.set_up.lawful.counters at))) st.set_up.lawful.flows;
      counters_are = (λ i. set (st.follows.counters_are i) p (own-counter i))
          ∙ map-at (λ (z : CounterSetup). z.source) (counter_counts events d) (counter_counts es d) s.counters p k
          st.set_up.lawful.counters_once at (other-counter s events k.source);
      staged_are = st.follows.staged_are;
      sent_are = st.follows.sent_are;
      issued_is = st.follows.issued_is;
      dropped_is = st.follows.dropped_is;
    };
    earlier_are = st.earlier_are;
  }

-- ---- the calls

-- a source of the sub-agent is one of its kind
in-front : {X : Type 0} (x : X) (xs ys : List X) → IsAmong x (xs ++ ys) → (IsAmong x ys → ⊥) → IsAmong x xs
in-front x [] ys h out = absurd (out h)
in-front x (z ∷ more) ys (inl e) out = inl e
in-front x (z ∷ more) ys (inr h) out = inr (in-front x more ys h out)

behind : {X : Type 0} (x : X) (xs ys : List X) → IsAmong x (xs ++ ys) → (IsAmong x xs → ⊥) → IsAmong x ys
behind x [] ys h out = h
behind x (z ∷ more) ys (inl e) out = absurd (out (inl e))
behind x (z ∷ more) ys (inr h) out = behind x more ys h (λ k. out (inr k))

kind-of : {X : Type 0} (key : X → Source) (flow : Bool) (xs : List X) (x : Source)
    → AllByRecursion (λ (z : X). (key z).flow ≡ flow) xs → IsAmong x (map key xs) → x.flow ≡ flow
kind-of key flow [] x h among = absurd among
kind-of key flow (z ∷ more) x h (inl e) = ap (λ (k : Source). k.flow) e ∙ h.0
kind-of key flow (z ∷ more) x h (inr among) = kind-of key flow more x h.1 among

-- the item of a source that is among theirs
item-of : {X : Type 0} (key : X → Source) (xs : List X) (x : Source) → IsAmong x (map key xs)
    → (z : X) × IsAmong z xs × (key z ≡ x)
item-of key [] x h = absurd h
item-of key (z ∷ more) x (inl e) = (z, inl refl, sym e)
item-of key (z ∷ more) x (inr h) = let k = item-of key more x h in (k.0, inr k.1, k.2)

module _ (s : Setup) (up : IsSetUp s) (id : SourceId) where
  pub flow-of : IsAmong (source_as true id) (flow_sources s ++ counter_sources s)
      → (f : FlowSetup) × IsAmong f s.flows × (f.source ≡ source_as true id)
  flow-of h = item-of (λ (f : FlowSetup). f.source) s.flows (source_as true id)
      (in-front (source_as true id) (flow_sources s) (counter_sources s) h
      (λ k. true≢false (kind-of (λ (c : CounterSetup). c.source) false s.counters (source_as true id) up.counters k)))

  pub counter-of : IsAmong (source_as false id) (flow_sources s ++ counter_sources s)
      → (c : CounterSetup) × IsAmong c s.counters × (c.source ≡ source_as false id)
  counter-of h = item-of (λ (c : CounterSetup). c.source) s.counters (source_as false id)
      (behind (source_as false id) (flow_sources s) (counter_sources s) h
      (λ k. true≢false (sym (kind-of (λ (f : FlowSetup). f.source) true s.flows (source_as false id) up.flows k))))

-- at its place the counter source, by its id
pub counter-at : (s : Setup) (t : TrueState) (source : SourceId) (p : ℕ) → IsOf s t → slice_get t.counter_ids p ≡ Some source
    → (k : CounterSetup) × (slice_get s.counters p ≡ Some k) × (k.source ≡ source_as false source)
counter-at s t source p o at =
    let there = get-mapped (λ (k : CounterSetup). id_in k.source) s.counters p source
    (subst (λ (ids : List SourceId). slice_get ids p ≡ Some source) o.counter_ids_are at) in (
      there.0,
      there.1,
      source-of there.0.source (source_as false source)
          (all-get (λ (z : CounterSetup). z.source.flow ≡ false) s.counters p there.0 o.lawful.counters there.1) there.2,
    )

pub flow-at-id : (s : Setup) (t : TrueState) (source : SourceId) (p : ℕ) → IsOf s t → slice_get t.flow_ids p ≡ Some source
    → (k : FlowSetup) × (slice_get s.flows p ≡ Some k) × (k.source ≡ source_as true source)
flow-at-id s t source p o at =
    let there = get-mapped (λ (k : FlowSetup). id_in k.source) s.flows p source
    (subst (λ (ids : List SourceId). slice_get ids p ≡ Some source) o.flow_ids_are at) in (
      there.0,
      there.1,
      source-of there.0.source (source_as true source)
          (all-get (λ (z : FlowSetup). z.source.flow ≡ true) s.flows p there.0 o.lawful.flows there.1) there.2,
    )

pub reset-flow : (sender : Sender) (s : Setup) (t new : TrueState) (events : List Event) (earlier : List (List Event))
    (id : SourceId) (p : ℕ) → slice_get t.flow_ids p ≡ Some id
    → ((k : FlowCounts) → slice_get t.flows p ≡ Some k → new ≡ with_flow_reset p k t)
    → IsShort s (Reset (source_as true id) ∷ events) → StandsFor sender s t events earlier
    → StandsFor sender s new (Reset (source_as true id) ∷ events) earlier
reset-flow sender s t new events earlier id p there moves short st =
    let found = flow-at-id s t id p st.set_up there in
    let f : FlowSetup = found.0 in
    let k : FlowCounts = flow_counts events (happened s events) f in
    let here : slice_get t.flows p ≡ Some k =
    ap (λ (ks : List FlowCounts). slice_get ks p) st.follows.flows_are
    ∙ get-map (flow_counts events (happened s events)) s.flows p f found.1 in
    subst (λ (x : Source). StandsFor sender s new (Reset x ∷ events) earlier) found.2
    (subst (λ (x : TrueState). StandsFor sender s x (Reset f.source ∷ events) earlier) (sym (moves k here))
    (flow-anew sender s t events earlier f p (shorter s (Reset (source_as true id)) events short) st found.1))

pub reset-counter : (sender : Sender) (s : Setup) (t new : TrueState) (events : List Event) (earlier : List (List Event))
    (id : SourceId) (p : ℕ) → slice_get t.counter_ids p ≡ Some id
    → ((k : CounterCounts) → slice_get t.counters p ≡ Some k → new ≡ with_counter_reset p k t)
    → IsShort s (Reset (source_as false id) ∷ events) → StandsFor sender s t events earlier
    → StandsFor sender s new (Reset (source_as false id) ∷ events) earlier
reset-counter sender s t new events earlier id p there moves short st =
    let found = counter-at s t id p st.set_up there in
    let f : CounterSetup = found.0 in
    let k : CounterCounts = counter_counts events (happened s events) f in
    let here : slice_get t.counters p ≡ Some k =
    ap (λ (ks : List CounterCounts). slice_get ks p) st.follows.counters_are
    ∙ get-map (counter_counts events (happened s events)) s.counters p f found.1 in
    subst (λ (x : Source). StandsFor sender s new (Reset x ∷ events) earlier) found.2
    (subst (λ (x : TrueState). StandsFor sender s x (Reset f.source ∷ events) earlier) (sym (moves k here))
    (counter-anew sender s t events earlier f p (shorter s (Reset (source_as false id)) events short) st found.1))

pub counter-within : (sender : Sender) (s : Setup) (t : TrueState) (events : List Event) (earlier : List (List Event))
    (source : SourceId) (p : ℕ) → StandsFor sender s t events earlier → slice_get t.counter_ids p ≡ Some source
    → p < length t.counters
counter-within sender s t events earlier source p st at =
    let ids : length t.counter_ids ≡ length s.counters =
    ap length st.set_up.counter_ids_are ∙ map-length (λ (k : CounterSetup). id_in k.source) s.counters in
    let counters : length t.counters ≡ length s.counters =
    ap length st.follows.counters_are ∙ map-length (counter_counts events (happened s events)) s.counters in
    omega (arith, ids, counters, slice_get_within t.counter_ids p source at)

pub counter-there : (s : Setup) (t : TrueState) (source : SourceId) → IsOf s t
    → IsAmong (source_as false source) (flow_sources s ++ counter_sources s) → is_among source t.counter_ids ≡ true
counter-there s t source o among =
    let k = counter-of s o.lawful source among in
    let id : id_in k.0.source ≡ source = ap id_in k.2 in
    ap (is_among source) o.counter_ids_are
    ∙ ap (λ (x : SourceId). is_among x (map (λ (z : CounterSetup). id_in z.source) s.counters)) (sym id)
    ∙ among-ids (λ (z : CounterSetup). id_in z.source) s.counters k.0 k.1

-- ---- restarts

map-through : {X Y Z : Type 0} (f : X → Y) (g : Y → Z) (h : X → Z) (xs : List X) → ((x : X) → g (f x) ≡ h x)
    → map g (map f xs) ≡ map h xs
map-through f g h [] to = refl
map-through f g h (x ∷ xs) to = λ i. to x i ∷ map-through f g h xs to i

pub restarted-stands : (sender : Sender) (s : Setup) (t : TrueState) (events : List Event) (earlier : List (List Event))
    → StandsFor sender s t events earlier → StandsFor sender s (restarted t) [] (events ∷ earlier)
restarted-stands sender s t events earlier st = record {
  set_up = record {
    lawful = st.set_up.lawful;
    first_is = st.set_up.first_is;
    flow_ids_are = st.set_up.flow_ids_are;
    counter_ids_are = st.set_up.counter_ids_are;
  };
  follows = record {
    flows_are = ap (map (flow_anew 1)) st.follows.flows_are
        ∙ map-through (flow_counts events (happened s events)) (flow_anew 1) (flow_counts [] (happened s [])) s.flows (λ f. refl);
    counters_are = ap (map (counter_anew 1)) st.follows.counters_are
        ∙ map-through (counter_counts events (happened s events)) (counter_anew 1) (counter_counts [] (happened s [])) s.counters
        (λ c. refl);
    staged_are = tt;
    sent_are = tt;
    issued_is = refl;
    dropped_is = refl;
  };
  earlier_are = each-next (IsBoot sender s) t.earlier earlier t.current events st.earlier_are (record {
    sent_are = st.follows.sent_are;
    issued_is = st.follows.issued_is;
    dropped_is = st.follows.dropped_is;
  });
}

-- ---- a sub-agent that is set up

pub opened : (sender : Sender) (s : Setup) (t : TrueState) (flows : List SetUpFlow) (counters : List SetUpCounter) → IsSetUp s
    → t.first ≡ s.first → s.flows ≡ map sampled_as flows → s.counters ≡ map polled_as counters
    → t.flow_ids ≡ map (λ (f : SetUpFlow). f.source) flows → t.counter_ids ≡ map (λ (c : SetUpCounter). c.source) counters
    → t.flows ≡ map flow_begun flows → t.counters ≡ map counter_begun counters → t.staged ≡ [] → t.current ≡ nothing_yet
    → t.earlier ≡ [] → StandsFor sender s t [] []
opened sender s t flows counters up first sampled polled flow_ids counter_ids flow_counted counter_counted staged current earlier =
    record {
      set_up = record {
        lawful = up;
        first_is = first;
        flow_ids_are = flow_ids ∙ sym (ap (map (λ (f : FlowSetup). id_in f.source)) sampled
            ∙ map-through sampled_as (λ (f : FlowSetup). id_in f.source) (λ (f : SetUpFlow). f.source) flows (λ f. refl));
        counter_ids_are = counter_ids ∙ sym (ap (map (λ (c : CounterSetup). id_in c.source)) polled
            ∙ map-through polled_as (λ (c : CounterSetup). id_in c.source) (λ (c : SetUpCounter). c.source) counters (λ c. refl));
      };
      follows = record {
        flows_are = flow_counted ∙ sym (ap (map (flow_counts [] (happened s []))) sampled
            ∙ map-through sampled_as (flow_counts [] (happened s [])) flow_begun flows (λ f. refl));
        counters_are = counter_counted ∙ sym (ap (map (counter_counts [] (happened s []))) polled
            ∙ map-through polled_as (counter_counts [] (happened s [])) counter_begun counters (λ c. refl));
        staged_are = rw staged tt;
        sent_are = rw current tt;
        issued_is = ap (λ (x : BootState). x.issued) current;
        dropped_is = ap (λ (x : BootState). x.dropped) current;
      };
      earlier_are = rw earlier tt;
    }
