-- How the counts of a source move with an event.
use Rattle.std.proofs.Common.{◌≡◌, ℕ, ◌+◌, suc, Bool, true, false, cond, List, [], ◌∷◌, length, arith, refl, ap, ◌∙◌}
use Rattle.std.specs.Prelude.{nat_lt}
use Rattle.std.specs.List.{AllByRecursion, filter}
use Rattle.wire_spec.specs.Shapes.{Tree}
use Rattle.agent_spec.specs.Sources.{Source, same_source, Turn, same_turn, FlowSetup, CounterSetup}
use Rattle.agent_spec.specs.Samples.{Packet, Sample, Setup}
use Rattle.agent_spec.specs.Events.{Event, Observe, Poll, Send, Reset, is_reset_of, turn_after}
use Rattle.agent_spec.specs.Marks.{is_marked}
use Rattle.agent_spec.specs.Boots.{Boot, is_sample_of, seen_in, issued_in, dropped_in, issue, flow_sample, with_seen, with_dropped, after_packet, is_due, due_sources, counter_sample, with_polled, after_poll, happened}
use Rattle.agent_spec.proofs.Lists.{filter-yes, filter-no, all-filter}
use Rattle.agent_spec.proofs.Keys.{turn-self, other-turn}
use Rattle.agent_spec.proofs.Turns.{turn-stays, generation-goes-on}
use Rattle.agent_spec.proofs.Begins.{IsEmpty, empty-before}
use Rattle.agent_sampler.specs.Following.{FlowCounts, none_yet, counts_in, counts_after, has_place, with_packet}

-- ---- packets

own-packet : (s : Setup) (f : FlowSetup) (t : Turn) (packet : Packet) (b : Boot)
    → counts_in t (after_packet s f t packet b)
    ≡ with_packet (is_marked f.skips (1 + seen_in t b)) (nat_lt (length b.staged) s.stage) (counts_in t b)
own-packet s f t packet b = go (is_marked f.skips (1 + seen_in t b)) (nat_lt (length b.staged) s.stage)
  where
    x : Sample
    x = flow_sample f t packet b

    one_seen : length (filter (same_turn t) (t ∷ b.seen)) ≡ 1 + seen_in t b
    one_seen =
        let e : length (filter (same_turn t) (t ∷ b.seen)) ≡ suc (seen_in t b) =
        ap length (filter-yes (same_turn t) t b.seen (turn-self t)) in
        omega (arith, e)

    one_issued : length (filter (is_sample_of t) (x ∷ b.issued)) ≡ 1 + issued_in t b
    one_issued =
        let e : length (filter (is_sample_of t) (x ∷ b.issued)) ≡ suc (issued_in t b) =
        ap length (filter-yes (is_sample_of t) x b.issued (turn-self t)) in
        omega (arith, e)

    one_dropped : length (filter (same_turn t) (t ∷ b.dropped)) ≡ 1 + dropped_in t b
    one_dropped =
        let e : length (filter (same_turn t) (t ∷ b.dropped)) ≡ suc (dropped_in t b) =
        ap length (filter-yes (same_turn t) t b.dropped (turn-self t)) in
        omega (arith, e)

    go : (m r : Bool) → counts_in t (with_seen t (cond m (cond r (issue x b) (with_dropped t b)) b))
        ≡ with_packet m r (counts_in t b)
    go true true = λ i. record { packets = one_seen i; issued = one_issued i; dropped = dropped_in t b }
    go true false = λ i. record { packets = one_seen i; issued = issued_in t b; dropped = one_dropped i }
    go false r = λ i. record { packets = one_seen i; issued = issued_in t b; dropped = dropped_in t b }

other-packet : (s : Setup) (f : FlowSetup) (t own : Turn) (packet : Packet) (b : Boot) → same_turn t own ≡ false
    → counts_in t (after_packet s f own packet b) ≡ counts_in t b
other-packet s f t own packet b e = go (is_marked f.skips (1 + seen_in own b)) (nat_lt (length b.staged) s.stage)
  where
    x : Sample
    x = flow_sample f own packet b

    seen_same : length (filter (same_turn t) (own ∷ b.seen)) ≡ seen_in t b
    seen_same = ap length (filter-no (same_turn t) own b.seen e)

    issued_same : length (filter (is_sample_of t) (x ∷ b.issued)) ≡ issued_in t b
    issued_same = ap length (filter-no (is_sample_of t) x b.issued e)

    dropped_same : length (filter (same_turn t) (own ∷ b.dropped)) ≡ dropped_in t b
    dropped_same = ap length (filter-no (same_turn t) own b.dropped e)

    go : (m r : Bool) → counts_in t (with_seen own (cond m (cond r (issue x b) (with_dropped own b)) b)) ≡ counts_in t b
    go true true = λ i. record { packets = seen_same i; issued = issued_same i; dropped = dropped_in t b }
    go true false = λ i. record { packets = seen_same i; issued = issued_in t b; dropped = dropped_same i }
    go false r = λ i. record { packets = seen_same i; issued = issued_in t b; dropped = dropped_in t b }

-- ---- polls

other-poll : (t : Turn) (now : ℕ) (before : List Event) (due : List CounterSetup) (readings : List Tree) (b : Boot)
    → AllByRecursion (λ (c : CounterSetup). same_source t.source c.source ≡ false) due
    → counts_in t (after_poll now before due readings b) ≡ counts_in t b
other-poll t now before [] readings b others = refl
other-poll t now before (c ∷ due) [] b others = refl
other-poll t now before (c ∷ due) (reading ∷ more) b others =
    let own : Turn = turn_after c.source before in
    let x : Sample = counter_sample c own reading b in
    let same : length (filter (is_sample_of t) (x ∷ b.issued)) ≡ issued_in t b =
    ap length (filter-no (is_sample_of t) x b.issued (other-turn t own others.0)) in
    other-poll t now before due more (with_polled own now (issue x b)) others.1
    ∙ ap (λ (n : ℕ). record { packets = seen_in t b; issued = n; dropped = dropped_in t b }) same

-- ---- events

-- what the counts of the generation are, where the generation stays
pub stays : (s : Setup) (source : Source) (e : Event) (events : List Event) (c : FlowCounts)
    → is_reset_of source e ≡ false → counts_in (turn_after source events) (happened s (e ∷ events)) ≡ c
    → counts_after s source (e ∷ events) ≡ c
stays s source e events c stay h =
    ap (λ (t : Turn). counts_in t (happened s (e ∷ events))) (turn-stays source e events stay) ∙ h

pub own-packet-counts : (s : Setup) (f : FlowSetup) (packet : Packet) (events : List Event)
    → counts_after s f.source (Observe f packet ∷ events)
    ≡ with_packet (is_marked f.skips (1 + (counts_after s f.source events).packets)) (has_place s events)
    (counts_after s f.source events)
own-packet-counts s f packet events = stays s f.source (Observe f packet) events _ refl
    (own-packet s f (turn_after f.source events) packet (happened s events))

pub reset-counts : (s : Setup) (source : Source) (events : List Event)
    → counts_after s source (Reset source ∷ events) ≡ none_yet
reset-counts s source events =
    let t : Turn = turn_after source (Reset source ∷ events) in
    let h : IsEmpty t (happened s events) = empty-before t s events (generation-goes-on source events) in
    λ i. record { packets = h.seen i; issued = h.issued i; dropped = h.dropped i }

pub other-packet-counts : (s : Setup) (source : Source) (f : FlowSetup) (packet : Packet) (events : List Event)
    → same_source source f.source ≡ false
    → counts_after s source (Observe f packet ∷ events) ≡ counts_after s source events
other-packet-counts s source f packet events e = stays s source (Observe f packet) events _ refl
    (other-packet s f (turn_after source events) (turn_after f.source events) packet (happened s events)
    (other-turn (turn_after source events) (turn_after f.source events) e))

pub poll-counts : (s : Setup) (source : Source) (now : ℕ) (readings : List Tree) (events : List Event)
    → AllByRecursion (λ (c : CounterSetup). same_source source c.source ≡ false) s.counters
    → counts_after s source (Poll now readings ∷ events) ≡ counts_after s source events
poll-counts s source now readings events others =
    let b : Boot = happened s events in
    stays s source (Poll now readings) events _ refl
    (other-poll (turn_after source events) now events (due_sources s now events b) readings b
    (all-filter (λ (c : CounterSetup). same_source source c.source ≡ false) (is_due now events b) s.counters others))

pub send-counts : (s : Setup) (source : Source) (now count : ℕ) (events : List Event)
    → counts_after s source (Send now count ∷ events) ≡ counts_after s source events
send-counts s source now count events = stays s source (Send now count) events _ refl refl

pub other-reset-counts : (s : Setup) (source other : Source) (events : List Event) → same_source source other ≡ false
    → counts_after s source (Reset other ∷ events) ≡ counts_after s source events
other-reset-counts s source other events e = stays s source (Reset other) events _ e refl
