-- How the counts of a counter source move with an event.
use Rattle.std.proofs.Common.{◌≡◌, ℕ, ◌+◌, suc, Bool, true, false, cond, List, ◌∷◌, length, arith, refl, ap, ◌∙◌}
use Rattle.std.specs.Prelude.{nat_lt}
use Rattle.std.specs.List.{filter}
use Rattle.wire_spec.specs.Shapes.{Tree}
use Rattle.agent_spec.specs.Sources.{Source, same_source, Turn, same_turn, FlowSetup, CounterSetup}
use Rattle.agent_spec.specs.Samples.{Packet, Sample, Setup}
use Rattle.agent_spec.specs.Events.{Event, Observe, Send, Reset, is_reset_of, turn_after}
use Rattle.agent_spec.specs.Marks.{is_marked}
use Rattle.agent_spec.specs.Boots.{Boot, is_sample_of, seen_in, issued_in, last_poll, issue, flow_sample, with_seen, with_dropped, after_packet, counter_sample, happened}
use Rattle.agent_spec.proofs.Lists.{filter-yes, filter-no}
use Rattle.agent_spec.proofs.Keys.{turn-self, other-turn}
use Rattle.agent_spec.proofs.Turns.{turn-stays, generation-goes-on}
use Rattle.agent_spec.proofs.Begins.{IsEmpty, empty-before}
use Rattle.agent_poller.specs.Following.{PollCounts, none_yet, counts_in, counts_after, after_one}

-- ---- polls

pub own-poll : (c : CounterSetup) (turn : Turn) (now : ℕ) (reading : Tree) (b : Boot)
    → counts_in turn (after_one c turn now reading b) ≡ record { issued = 1 + (counts_in turn b).issued; last = now }
own-poll c turn now reading b =
    let x : Sample = counter_sample c turn reading b in
    let e : length (filter (is_sample_of turn) (x ∷ b.issued)) ≡ suc (issued_in turn b) =
    ap length (filter-yes (is_sample_of turn) x b.issued (turn-self turn)) in
    let one : length (filter (is_sample_of turn) (x ∷ b.issued)) ≡ 1 + issued_in turn b = omega (arith, e) in
    let at : cond (same_turn turn turn) now (last_poll turn b.polled) ≡ now =
    ap (λ (k : Bool). cond k now (last_poll turn b.polled)) (turn-self turn) in
    λ i. record { issued = one i; last = at i }

pub other-poll : (c : CounterSetup) (turn own : Turn) (now : ℕ) (reading : Tree) (b : Boot) → same_turn turn own ≡ false
    → counts_in turn (after_one c own now reading b) ≡ counts_in turn b
other-poll c turn own now reading b other =
    let x : Sample = counter_sample c own reading b in
    let same : length (filter (is_sample_of turn) (x ∷ b.issued)) ≡ issued_in turn b =
    ap length (filter-no (is_sample_of turn) x b.issued other) in
    let at : cond (same_turn turn own) now (last_poll turn b.polled) ≡ last_poll turn b.polled =
    ap (λ (k : Bool). cond k now (last_poll turn b.polled)) other in
    λ i. record { issued = same i; last = at i }

-- ---- events

-- the counts of the generation are these, where the generation stays
stays : (s : Setup) (source : Source) (e : Event) (events : List Event) (c : PollCounts)
    → is_reset_of source e ≡ false → counts_in (turn_after source events) (happened s (e ∷ events)) ≡ c
    → counts_after s source (e ∷ events) ≡ c
stays s source e events c other h =
    ap (λ (t : Turn). counts_in t (happened s (e ∷ events))) (turn-stays source e events other) ∙ h

pub reset-counts : (s : Setup) (source : Source) (events : List Event)
    → counts_after s source (Reset source ∷ events) ≡ none_yet
reset-counts s source events =
    let t : Turn = turn_after source (Reset source ∷ events) in
    let h : IsEmpty t (happened s events) = empty-before t s events (generation-goes-on source events) in
    λ i. record { issued = h.issued i; last = h.polled i }

pub other-reset-counts : (s : Setup) (source other : Source) (events : List Event) → same_source source other ≡ false
    → counts_after s source (Reset other ∷ events) ≡ counts_after s source events
other-reset-counts s source other events e = stays s source (Reset other) events _ e refl

pub send-counts : (s : Setup) (source : Source) (now count : ℕ) (events : List Event)
    → counts_after s source (Send now count ∷ events) ≡ counts_after s source events
send-counts s source now count events = stays s source (Send now count) events _ refl refl

observed : (s : Setup) (f : FlowSetup) (t own : Turn) (packet : Packet) (b : Boot) → same_turn t own ≡ false
    → counts_in t (after_packet s f own packet b) ≡ counts_in t b
observed s f t own packet b e = go (is_marked f.skips (1 + seen_in own b)) (nat_lt (length b.staged) s.stage)
  where
    x : Sample
    x = flow_sample f own packet b

    same : length (filter (is_sample_of t) (x ∷ b.issued)) ≡ issued_in t b
    same = ap length (filter-no (is_sample_of t) x b.issued e)

    go : (m r : Bool) → counts_in t (with_seen own (cond m (cond r (issue x b) (with_dropped own b)) b)) ≡ counts_in t b
    go true true = λ i. record { issued = same i; last = last_poll t b.polled }
    go true false = refl
    go false r = refl

pub packet-counts : (s : Setup) (source : Source) (f : FlowSetup) (packet : Packet) (events : List Event)
    → same_source source f.source ≡ false
    → counts_after s source (Observe f packet ∷ events) ≡ counts_after s source events
packet-counts s source f packet events e = stays s source (Observe f packet) events _ refl
    (observed s f (turn_after source events) (turn_after f.source events) packet (happened s events)
    (other-turn (turn_after source events) (turn_after f.source events) e))
