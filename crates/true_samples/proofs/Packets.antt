-- What is kept once a packet was observed.
use Rattle.std.proofs.Common.{◌≡◌, ◌∙◌, ℕ, ◌+◌, ◌<◌, Bool, true, false, cond, Some, List, ◌∷◌, length, map, set, reverse, refl, sym, ap, subst, arith}
use Rattle.std.specs.Prelude.{slice_get, nat_lt}
use Rattle.std.proofs.lemmas.Option.{slice_get_within}
use Rattle.agent_setups.specs.Ids.{is_among}
use Rattle.data_format.specs.declared.source.SourceId.{SourceId}
use Rattle.agent_spec.specs.Sources.{Source, same_source, Turn, FlowSetup, CounterSetup}
use Rattle.agent_spec.specs.Samples.{Packet, Sample, Setup}
use Rattle.agent_spec.specs.Events.{Event, Observe, generation_after, turn_after}
use Rattle.agent_spec.specs.Marks.{is_marked}
use Rattle.agent_spec.specs.Boots.{Boot, IsAmong, seen_in, issued_in, dropped_in, issue, flow_sample, with_seen, with_dropped, happened}
use Rattle.agent_spec.specs.Spelled.{Sender}
use Rattle.agent_spec.proofs.Turns.{turn-stays}
use Rattle.agent_sampler.specs.Following as flows
use Rattle.agent_sampler.specs.Following.{FlowCounts as Counts, has_place, with_packet, counts_after}
use Rattle.agent_sampler.proofs.Follows as sampled
use Rattle.agent_poller.specs.Following as polls
use Rattle.agent_poller.proofs.Follows as polled
use Rattle.account_spec.specs.Histories.{IsSetUp}
use Rattle.true_samples.specs.declared.counts.FlowCounts.{FlowCounts}
use Rattle.true_samples.specs.declared.counts.CounterCounts.{CounterCounts}
use Rattle.true_samples.specs.declared.calls.Seen.{Seen}
use Rattle.true_samples.specs.declared.calls.Seen.TheVariants.{Passed, Issued, Dropped}
use Rattle.true_samples.specs.Pairs.{Each}
use Rattle.true_samples.specs.States.{TrueState}
use Rattle.true_samples.specs.Counts.{id_in, flow_counts, counter_counts, seen_of, IsShort}
use Rattle.true_samples.specs.Samples.{IsIssued, IsSent}
use Rattle.true_samples.specs.Moves.{more, one_packet, flow_sample_at, with_packet_at}
use Rattle.true_samples.specs.Standing.{IsOf, Follows, StandsFor}
use Rattle.true_samples.proofs.Lists.{each-next, get-mapped, get-map, get-front, map-length, map-same, all-get, all-among}
use Rattle.true_samples.proofs.Sources.{kinds-differ-too, one-of-source, map-at, source-of, among-ids}
use Rattle.true_samples.proofs.Bounds.{one-more, one-suc, seen-less, issued-less, dropped-less, all-issued-less, all-dropped-less, shorter}

-- the counts of a source in a generation of this number
abbrev pub shown : FlowSetup → ℕ → Counts → FlowCounts
shown f generation c = record {
  first = f.first;
  pool = f.pool;
  drops = f.drops;
  generation = generation;
  packets = c.packets;
  issued = c.issued;
  dropped = c.dropped;
}

abbrev pub kept : CounterSetup → ℕ → polls.PollCounts → CounterCounts
kept c generation p =
    record { every = c.every; first = c.first; generation = generation; issued = p.issued; last = p.last }

generation-same : (source : Source) (f : FlowSetup) (packet : Packet) (events : List Event)
    → generation_after source (Observe f packet ∷ events) ≡ generation_after source events
generation-same source f packet events = ap (λ (t : Turn). t.generation) (turn-stays source (Observe f packet) events refl)

-- at its place the source, by its id
pub flow-at : (s : Setup) (t : TrueState) (source : SourceId) (p : ℕ) (f : FlowSetup) → IsOf s t
    → slice_get t.flow_ids p ≡ Some source → IsAmong f s.flows → id_in f.source ≡ source → slice_get s.flows p ≡ Some f
flow-at s t source p f h at among id =
    let there = get-mapped (λ (k : FlowSetup). id_in k.source) s.flows p source
    (subst (λ (ids : List SourceId). slice_get ids p ≡ Some source) h.flow_ids_are at) in
    let k : FlowSetup = there.0 in
    let kind : k.source.flow ≡ f.source.flow =
    all-get (λ (z : FlowSetup). z.source.flow ≡ true) s.flows p k h.lawful.flows there.1
    ∙ sym (all-among (λ (z : FlowSetup). z.source.flow ≡ true) s.flows f h.lawful.flows among) in
    let one : k ≡ f =
    one-of-source (λ (z : FlowSetup). z.source) s.flows p k f h.lawful.flows_once there.1 among
    (source-of k.source f.source kind (there.2 ∙ sym id)) in
    there.1 ∙ ap (λ (z : FlowSetup). Some z) one

module _ (sender : Sender) (s : Setup) (f : FlowSetup) (packet : Packet) (events : List Event) (p : ℕ) (t : TrueState)
    (h : Follows sender s t events (happened s events)) (up : IsSetUp s) (short : IsShort s events)
    (at : slice_get s.flows p ≡ Some f) where
  abbrev pub turn : Turn
  turn = turn_after f.source events

  abbrev pub b : Boot
  b = happened s events

  abbrev pub k : FlowCounts
  k = flow_counts events b f

  abbrev pub x : Sample
  x = flow_sample f turn packet b

  abbrev pub seen : Bool → Bool → Seen
  seen m r = cond m (cond r Issued Dropped) Passed

  abbrev pub boot : Bool → Bool → Boot
  boot m r = with_seen turn (cond m (cond r (issue x b) (with_dropped turn b)) b)

  flows-by : (m r : Bool) → (with_packet_at p k (seen m r) t).flows
      ≡ set t.flows p (shown f turn.generation (with_packet m r (flows.counts_in turn b)))
  flows-by true true = λ i. set t.flows p (record {
    first = f.first;
    pool = f.pool;
    drops = f.drops;
    generation = turn.generation;
    packets = one-more (seen_in turn b) (seen-less s events short turn) i;
    issued = one-more (issued_in turn b) (issued-less s events short turn) i;
    dropped = dropped_in turn b;
  })
  flows-by true false = λ i. set t.flows p (record {
    first = f.first;
    pool = f.pool;
    drops = f.drops;
    generation = turn.generation;
    packets = one-more (seen_in turn b) (seen-less s events short turn) i;
    issued = issued_in turn b;
    dropped = one-more (dropped_in turn b) (dropped-less s events short turn) i;
  })
  flows-by false r = λ i. set t.flows p (record {
    first = f.first;
    pool = f.pool;
    drops = f.drops;
    generation = turn.generation;
    packets = one-more (seen_in turn b) (seen-less s events short turn) i;
    issued = issued_in turn b;
    dropped = dropped_in turn b;
  })

  is-issued : IsIssued s (flow_sample_at p (one_packet k)) x
  is-issued = record {
    source = get-front _ _ p f.source (get-map (λ (z : FlowSetup). z.source) s.flows p f at);
    generation = refl;
    counted = omega arith;
    number = refl;
    pool = ap (λ (n : ℕ). f.pool + n) (sym (one-more (seen_in turn b) (seen-less s events short turn)));
    drops = refl;
  }

  staged-by : (m r : Bool) → Each (IsIssued s) (with_packet_at p k (seen m r) t).staged (reverse (boot m r).staged)
  staged-by true true = each-next (IsIssued s) t.staged b.staged (flow_sample_at p (one_packet k)) x h.staged_are is-issued
  staged-by true false = h.staged_are
  staged-by false r = h.staged_are

  sent-by : (m r : Bool)
      → Each (IsSent sender s) (with_packet_at p k (seen m r) t).current.datagrams (reverse (boot m r).sent)
  sent-by true true = h.sent_are
  sent-by true false = h.sent_are
  sent-by false r = h.sent_are

  issued-by : (m r : Bool) → (with_packet_at p k (seen m r) t).current.issued ≡ length (boot m r).issued
  issued-by true true =
      ap (λ (n : ℕ). more n) h.issued_is ∙ one-suc (length b.issued) (all-issued-less s events short)
  issued-by true false = h.issued_is
  issued-by false r = h.issued_is

  dropped-by : (m r : Bool) → (with_packet_at p k (seen m r) t).current.dropped ≡ length (boot m r).dropped
  dropped-by true true = h.dropped_is
  dropped-by true false =
      ap (λ (n : ℕ). more n) h.dropped_is ∙ one-suc (length b.dropped) (all-dropped-less s events short)
  dropped-by false r = h.dropped_is

  counters-by : (m r : Bool) → (with_packet_at p k (seen m r) t).counters ≡ t.counters
  counters-by true true = refl
  counters-by true false = refl
  counters-by false r = refl

  abbrev pub M : Bool
  M = is_marked f.skips (1 + seen_in turn b)

  abbrev pub R : Bool
  R = nat_lt (length b.staged) s.stage

  abbrev pub now : TrueState
  now = with_packet_at p k (seen M R) t

  abbrev pub e : Event
  e = Observe f packet

  own : flow_counts (e ∷ events) (happened s (e ∷ events)) f
      ≡ shown f turn.generation (with_packet M R (flows.counts_in turn b))
  own = λ i. shown f (generation-same f.source f packet events i) (sampled.own-packet-counts s f packet events i)

  others : (z : FlowSetup) → same_source z.source f.source ≡ false
      → flow_counts events b z ≡ flow_counts (e ∷ events) (happened s (e ∷ events)) z
  others z apart = λ i. shown z (sym (generation-same z.source f packet events) i)
      (sym (sampled.other-packet-counts s z.source f packet events apart) i)

  counters-same : (c : CounterSetup) → c.source.flow ≡ false
      → counter_counts events b c ≡ counter_counts (e ∷ events) (happened s (e ∷ events)) c
  counters-same c kind = λ i. kept c (sym (generation-same c.source f packet events) i)
      (sym (polled.packet-counts s c.source f packet events (kinds-differ-too c.source f.source kind
      (all-get (λ (z : FlowSetup). z.source.flow ≡ true) s.flows p f up.flows at))) i)

  pub follows-packet : Follows sender s now (e ∷ events) (happened s (e ∷ events))
  follows-packet = record {
    flows_are = flows-by M R ∙ (λ i. set (h.flows_are i) p (sym own i))
        ∙ map-at (λ (z : FlowSetup). z.source) (flow_counts events b) (flow_counts (e ∷ events) (happened s (e ∷ events))) s.flows p
        f up.flows_once at others;
    counters_are = counters-by M R ∙ h.counters_are
        ∙ map-same (counter_counts events b) (counter_counts (e ∷ events) (happened s (e ∷ events)))
        (λ (c : CounterSetup). c.source.flow ≡ false) s.counters counters-same up.counters;
    staged_are = staged-by M R;
    sent_are = sent-by M R;
    issued_is = issued-by M R;
    dropped_is = dropped-by M R;
  }

  set-up-by : (m r : Bool) → IsOf s t → IsOf s (with_packet_at p k (seen m r) t)
  set-up-by true true o = record { lawful = o.lawful; first_is = o.first_is; flow_ids_are = o.flow_ids_are; counter_ids_are = o.counter_ids_are }
  set-up-by true false o = record { lawful = o.lawful; first_is = o.first_is; flow_ids_are = o.flow_ids_are; counter_ids_are = o.counter_ids_are }
  set-up-by false r o = record { lawful = o.lawful; first_is = o.first_is; flow_ids_are = o.flow_ids_are; counter_ids_are = o.counter_ids_are }

  earlier-by : (m r : Bool) → (with_packet_at p k (seen m r) t).earlier ≡ t.earlier
  earlier-by true true = refl
  earlier-by true false = refl
  earlier-by false r = refl

  pub stands-packet : (earlier : List (List Event)) → StandsFor sender s t events earlier
      → StandsFor sender s now (e ∷ events) earlier
  stands-packet earlier st = record {
    set_up = set-up-by M R st.set_up;
    follows = follows-packet;
    earlier_are = rw (earlier-by M R) st.earlier_are;
  }

-- ---- the call

pub observed : (sender : Sender) (s : Setup) (t new : TrueState) (events : List Event) (earlier : List (List Event))
    (f : FlowSetup) (packet : Packet) (source : SourceId) (answer : Seen) (p : ℕ) → slice_get t.flow_ids p ≡ Some source
    → ((k : FlowCounts) → slice_get t.flows p ≡ Some k → new ≡ with_packet_at p k answer t) → IsAmong f s.flows
    → id_in f.source ≡ source → answer ≡ seen_of s f events → IsShort s (Observe f packet ∷ events)
    → StandsFor sender s t events earlier → StandsFor sender s new (Observe f packet ∷ events) earlier
observed sender s t new events earlier f packet source answer p there moves among id is short st =
    let at : slice_get s.flows p ≡ Some f = flow-at s t source p f st.set_up there among id in
    let k : FlowCounts = flow_counts events (happened s events) f in
    let here : slice_get t.flows p ≡ Some k =
    ap (λ (ks : List FlowCounts). slice_get ks p) st.follows.flows_are
    ∙ get-map (flow_counts events (happened s events)) s.flows p f at in
    let same : new ≡ with_packet_at p k (seen_of s f events) t =
    moves k here ∙ ap (λ (a : Seen). with_packet_at p k a t) is in
    subst (λ (x : TrueState). StandsFor sender s x (Observe f packet ∷ events) earlier) (sym same)
    (stands-packet sender s f packet events p t st.follows st.set_up.lawful (shorter s (Observe f packet) events short) at earlier st)

-- a source that was found has a place among the counts
pub flow-within : (sender : Sender) (s : Setup) (t : TrueState) (events : List Event) (earlier : List (List Event))
    (source : SourceId) (p : ℕ) → StandsFor sender s t events earlier → slice_get t.flow_ids p ≡ Some source → p < length t.flows
flow-within sender s t events earlier source p st at =
    let ids : length t.flow_ids ≡ length s.flows =
    ap length st.set_up.flow_ids_are ∙ map-length (λ (k : FlowSetup). id_in k.source) s.flows in
    let flows : length t.flows ≡ length s.flows =
    ap length st.follows.flows_are ∙ map-length (flow_counts events (happened s events)) s.flows in
    omega (arith, ids, flows, slice_get_within t.flow_ids p source at)

pub flow-there : (s : Setup) (t : TrueState) (source : SourceId) (f : FlowSetup) → IsOf s t → IsAmong f s.flows
    → id_in f.source ≡ source → is_among source t.flow_ids ≡ true
flow-there s t source f o among id =
    ap (is_among source) o.flow_ids_are
    ∙ ap (λ (k : SourceId). is_among k (map (λ (z : FlowSetup). id_in z.source) s.flows)) (sym id)
    ∙ among-ids (λ (z : FlowSetup). id_in z.source) s.flows f among
