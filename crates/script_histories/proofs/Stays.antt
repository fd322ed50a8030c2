-- A datagram that was sent stays where it is, behind further events, boots and lines.
use Rattle.std.proofs.Common.{◌≡◌, ◌∙◌, ◌+◌, ◌-◌, ◌==◌, ◌++◌, inl, inr, ℕ, Bool, true, false, cond, List, [], ◌∷◌, length, reverse, take, Option, Some, None, refl, ap, sym, subst, if◌then◌else◌, slice_get, option_and_then}
use Rattle.std.specs.Prelude.{nat_lt}
use Rattle.wire_spec.specs.Shapes.{Tree}
use Rattle.agent_spec.specs.Sources.{Turn, FlowSetup, CounterSetup}
use Rattle.agent_spec.specs.Samples.{Packet, Sample, Datagram, Setup}
use Rattle.agent_spec.specs.Events.{Event, Observe, Poll, Send, Reset, turn_after}
use Rattle.agent_spec.specs.Marks.{is_marked}
use Rattle.agent_spec.specs.Boots.{Boot, seen_in, issue, flow_sample, with_seen, with_dropped, after_packet, due_sources, counter_sample, with_polled, after_poll, packed, with_sent, happened}
use Rattle.script_spec.specs.Lines.{Line, MaxLine, SubLine, FlowLine, CounterLine, PacketLine, PollLine, SendLine, RestartLine, ResetLine, DeliverLine, SubAgent, Delivery}
use Rattle.script_spec.specs.Agents.{AgentBoot, sub_of, setup_of, boots_of, boots_after, begun_at, with_event, with_line, event_of, numbered, delivered, delivered_of}
use Rattle.script_spec.specs.Rules.{sets_up}
use Rattle.script_laws.proofs.Happens.{same_setup}
use Rattle.script_histories.proofs.Lists.{Found, found, turned, at_front, at_last, numbered_at, numbered_by}

-- ---- events

pub packet_sends : (s : Setup) (f : FlowSetup) (turn : Turn) (packet : Packet) (b : Boot)
    → (after_packet s f turn packet b).sent ≡ b.sent
packet_sends s f turn packet b = go (is_marked f.skips (1 + seen_in turn b)) (nat_lt (length b.staged) s.stage)
  where
    go : (m r : Bool)
        → (with_seen turn (cond m (cond r (issue (flow_sample f turn packet b) b) (with_dropped turn b)) b)).sent ≡ b.sent
    go true true = refl
    go true false = refl
    go false r = refl

pub poll_sends : (now : ℕ) (before : List Event) (due : List CounterSetup) (readings : List Tree) (b : Boot)
    → (after_poll now before due readings b).sent ≡ b.sent
poll_sends now before [] readings b = refl
poll_sends now before (c ∷ due) [] b = refl
poll_sends now before (c ∷ due) (reading ∷ more) b =
    let turn : Turn = turn_after c.source before in
    poll_sends now before due more (with_polled turn now (issue (counter_sample c turn reading b) b))

abbrev HasAt : List Datagram → ℕ → Datagram → Type 0
HasAt sent k x = slice_get (reverse sent) k ≡ Some x

send_keeps : (first now : ℕ) (ds : List (List Sample)) (sent : List Datagram) (k : ℕ) (x : Datagram) → HasAt sent k x
    → HasAt (with_sent first now ds sent) k x
send_keeps first now [] sent k x h = h
send_keeps first now (d ∷ more) sent k x h =
    let y : Datagram = record { number = first + length sent; uptime = now; samples = d } in
    send_keeps first now more (y ∷ sent) k x
    (subst (λ (l : List Datagram). slice_get l k ≡ Some x) (sym (turned y sent)) (at_front (reverse sent) (y ∷ []) k x h))

event_keeps : (s : Setup) (e : Event) (events : List Event) (k : ℕ) (x : Datagram) → HasAt (happened s events).sent k x
    → HasAt (happened s (e ∷ events)).sent k x
event_keeps s (Observe f packet) events k x h =
    subst (λ (l : List Datagram). HasAt l k x)
    (sym (packet_sends s f (turn_after f.source events) packet (happened s events))) h
event_keeps s (Poll now readings) events k x h =
    subst (λ (l : List Datagram). HasAt l k x)
    (sym (poll_sends now events (due_sources s now events (happened s events)) readings (happened s events))) h
event_keeps s (Send now count) events k x h =
    send_keeps s.first now (take count (packed s (happened s events))) (happened s events).sent k x h
event_keeps s (Reset source) events k x h = h

-- ---- boots

abbrev of_boot : Setup → ℕ → AgentBoot → Option Datagram
of_boot s number b = numbered (reverse (happened s b.events).sent) number

-- the datagram of this number in the boot of this number
abbrev of_boots : Setup → ℕ → ℕ → List AgentBoot → Option Datagram
of_boots s boot number boots = option_and_then (of_boot s number) (numbered (reverse boots) boot)

abbrev Stay : Setup → List AgentBoot → List AgentBoot → Type 0
Stay s old new = (boot number : ℕ) (x : Datagram) → of_boots s boot number old ≡ Some x → of_boots s boot number new ≡ Some x

option_keeps : (s : Setup) (o : Option Event) (b : AgentBoot) (number : ℕ) (x : Datagram) → of_boot s number b ≡ Some x
    → of_boot s number (with_event o b) ≡ Some x
option_keeps s None b number x e = e
option_keeps s (Some event) b number x e =
    let old : List Datagram = reverse (happened s b.events).sent in
    numbered_by old (reverse (happened s (event ∷ b.events)).sent) number x x e
    (event_keeps s event b.events (number - 1) x (numbered_at old number x e))

begun_stay : (s : Setup) (b : AgentBoot) (boots : List AgentBoot) → Stay s boots (b ∷ boots)
begun_stay s b boots boot number x e =
    let f : Found (of_boot s number) (numbered (reverse boots) boot) x =
    found (of_boot s number) (numbered (reverse boots) boot) x e in
    let there : slice_get (reverse (b ∷ boots)) (boot - 1) ≡ Some f.item =
    subst (λ (l : List AgentBoot). slice_get l (boot - 1) ≡ Some f.item) (sym (turned b boots))
    (at_front (reverse boots) (b ∷ []) (boot - 1) f.item (numbered_at (reverse boots) boot f.item f.there)) in
    ap (option_and_then (of_boot s number)) (numbered_by (reverse boots) (reverse (b ∷ boots)) boot f.item f.item f.there there)
    ∙ f.gives

newest_stay : (s : Setup) (o : Option Event) (b : AgentBoot) (earlier : List AgentBoot)
    → Stay s (b ∷ earlier) (with_event o b ∷ earlier)
newest_stay s o b earlier boot number x e =
    let c : AgentBoot = with_event o b in
    let f : Found (of_boot s number) (numbered (reverse (b ∷ earlier)) boot) x =
    found (of_boot s number) (numbered (reverse (b ∷ earlier)) boot) x e in
    let there : slice_get (reverse earlier ++ b ∷ []) (boot - 1) ≡ Some f.item =
    subst (λ (l : List AgentBoot). slice_get l (boot - 1) ≡ Some f.item) (turned b earlier)
    (numbered_at (reverse (b ∷ earlier)) boot f.item f.there) in
    let at : (y : AgentBoot) → slice_get (reverse earlier ++ c ∷ []) (boot - 1) ≡ Some y
    → numbered (reverse (c ∷ earlier)) boot ≡ Some y =
    λ y h. numbered_by (reverse (b ∷ earlier)) (reverse (c ∷ earlier)) boot f.item y f.there
    (subst (λ (l : List AgentBoot). slice_get l (boot - 1) ≡ Some y) (sym (turned c earlier)) h) in
    elim (at_last (reverse earlier) b c (boot - 1) f.item there) [
      | inl same ↦ ap (option_and_then (of_boot s number)) (at f.item same) ∙ f.gives
      | inr other ↦
          ap (option_and_then (of_boot s number)) (at c other.1)
          ∙ option_keeps s o b number x (ap (of_boot s number) (sym other.0) ∙ f.gives)
    ]

on_stay : (s : Setup) (id : ℕ) (line : Line) (boots : List AgentBoot) → Stay s boots (with_line s id line boots)
on_stay s id line [] = λ boot number x e. e
on_stay s id line (b ∷ earlier) = newest_stay s (event_of s id b.events line) b earlier

restart_stay : (s : Setup) (at : ℕ) (own : Bool) (boots : List AgentBoot)
    → Stay s boots (if own then begun_at at ∷ boots else boots)
restart_stay s at true boots = begun_stay s (begun_at at) boots
restart_stay s at false boots = λ boot number x e. e

line_stays : (s : Setup) (id : ℕ) (line : Line) (boots : List AgentBoot) → Stay s boots (boots_after s id line boots)
line_stays s id (MaxLine n) boots = on_stay s id (MaxLine n) boots
line_stays s id (SubLine t) boots = on_stay s id (SubLine t) boots
line_stays s id (FlowLine owner f) boots = on_stay s id (FlowLine owner f) boots
line_stays s id (CounterLine owner c) boots = on_stay s id (CounterLine owner c) boots
line_stays s id (PacketLine p k) boots = on_stay s id (PacketLine p k) boots
line_stays s id (PollLine owner now) boots = on_stay s id (PollLine owner now) boots
line_stays s id (SendLine owner now) boots = on_stay s id (SendLine owner now) boots
line_stays s id (RestartLine owner at) boots = restart_stay s at (owner == id) boots
line_stays s id (ResetLine t) boots = on_stay s id (ResetLine t) boots
line_stays s id (DeliverLine d) boots = on_stay s id (DeliverLine d) boots

-- ---- lines

pub same_sub : (line : Line) (lines : List Line) (id : ℕ) → sets_up line ≡ false → sub_of id (line ∷ lines) ≡ sub_of id lines
same_sub (MaxLine n) lines id e = refl
same_sub (SubLine t) lines id e = absurd cc
same_sub (FlowLine owner f) lines id e = refl
same_sub (CounterLine owner c) lines id e = refl
same_sub (PacketLine p k) lines id e = refl
same_sub (PollLine owner now) lines id e = refl
same_sub (SendLine owner now) lines id e = refl
same_sub (RestartLine owner at) lines id e = refl
same_sub (ResetLine t) lines id e = refl
same_sub (DeliverLine d) lines id e = refl

abbrev boots_sent : Setup → Delivery → List AgentBoot → Option Datagram
boots_sent s d boots = of_boots s d.boot d.number boots

pub of_stays : (line : Line) (lines : List Line) (s : SubAgent) (d : Delivery) (x : Datagram) → sets_up line ≡ false
    → delivered_of lines s d ≡ Some x → delivered_of (line ∷ lines) s d ≡ Some x
unfolding boots_of
of_stays line lines s d x sets e =
    ap (λ (setup : Setup). boots_sent setup d (boots_of (line ∷ lines) s)) (same_setup line lines s sets)
    ∙ line_stays (setup_of lines s) s.id line (boots_of lines s) d.boot d.number x e

-- ---- what is delivered

-- a datagram that is there, and its sub-agent
pub record IsNamed (lines : List Line) (d : Delivery) (x : Datagram) : Type 0 where
  pub sub : SubAgent
  pub found_sub : sub_of d.id lines ≡ Some sub
  pub of_sub : delivered_of lines sub d ≡ Some x

pub named : (lines : List Line) (d : Delivery) (x : Datagram) → delivered lines d ≡ Some x → IsNamed lines d x
unfolding delivered
named lines d x e =
    let f : Found (λ (s : SubAgent). delivered_of lines s d) (sub_of d.id lines) x =
    found (λ (s : SubAgent). delivered_of lines s d) (sub_of d.id lines) x e in
    record { sub = f.item; found_sub = f.there; of_sub = f.gives }

pub delivered_stays : (line : Line) (lines : List Line) (d : Delivery) (x : Datagram) → sets_up line ≡ false
    → delivered lines d ≡ Some x → delivered (line ∷ lines) d ≡ Some x
unfolding delivered
delivered_stays line lines d x sets e =
    let n : IsNamed lines d x = named lines d x e in
    ap (option_and_then (λ (s : SubAgent). delivered_of (line ∷ lines) s d)) (same_sub line lines d.id sets ∙ n.found_sub)
    ∙ of_stays line lines n.sub d x sets n.of_sub
