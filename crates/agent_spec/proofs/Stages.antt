-- The stage holds no more samples than it has places.
use Rattle.std.proofs.Common.{◌≡◌, ℕ, ◌+◌, ◌≤◌, ◌<◌, Bool, true, false, cond, List, [], ◌∷◌, length, reverse, take, drop, refl, arith, length-drop}
use Rattle.std.proofs.lemmas.Bool.{ltb-true}
use Rattle.std.proofs.lemmas.List.{length-reverse}
use Rattle.std.specs.Prelude.{nat_lt}
use Rattle.std.specs.List.{sum_by}
use Rattle.wire_spec.specs.Shapes.{Tree}
use Rattle.agent_spec.specs.Sources.{Turn, FlowSetup, CounterSetup}
use Rattle.agent_spec.specs.Samples.{Packet, Setup}
use Rattle.agent_spec.specs.Events.{Event, Observe, Poll, Send, Reset, turn_after}
use Rattle.agent_spec.specs.Marks.{is_marked}
use Rattle.agent_spec.specs.Boots.{Boot, seen_in, issue, flow_sample, with_seen, with_dropped, after_packet, due_sources, counter_sample, with_polled, after_poll, packed, happened, MayHappen}

observed : (s : Setup) (f : FlowSetup) (own : Turn) (packet : Packet) (b : Boot) → length b.staged ≤ s.stage
    → length (after_packet s f own packet b).staged ≤ s.stage
observed s f own packet b h = go (is_marked f.skips (1 + seen_in own b)) (nat_lt (length b.staged) s.stage) refl
  where
    go : (m r : Bool) → nat_lt (length b.staged) s.stage ≡ r
        → length (with_seen own (cond m (cond r (issue (flow_sample f own packet b) b) (with_dropped own b)) b)).staged ≤ s.stage
    go true true e = let below : length b.staged < s.stage = ltb-true (length b.staged) s.stage e in omega (arith, below)
    go true false e = h
    go false r e = h

polled : (now : ℕ) (before : List Event) (due : List CounterSetup) (readings : List Tree) (b : Boot)
    → length (after_poll now before due readings b).staged ≤ length b.staged + length readings
polled now before [] readings b = omega arith
polled now before (c ∷ due) [] b = omega arith
polled now before (c ∷ due) (reading ∷ more) b =
    let own : Turn = turn_after c.source before in
    omega (arith, polled now before due more (with_polled own now (issue (counter_sample c own reading b) b)))

pub never-full : (s : Setup) (events : List Event) → MayHappen s events → length (happened s events).staged ≤ s.stage
never-full s [] h = omega arith
never-full s (Observe f packet ∷ before) h =
    observed s f (turn_after f.source before) packet (happened s before) (never-full s before h.1)
never-full s (Poll now readings ∷ before) h =
    let b : Boot = happened s before in
    omega (arith, polled now before (due_sources s now before b) readings b, h.1)
never-full s (Send now count ∷ before) h =
    let b : Boot = happened s before in
    let m : ℕ = sum_by length (take count (packed s b)) in
    omega (
      arith,
      length-reverse (drop m (reverse b.staged)),
      length-drop m (reverse b.staged),
      length-reverse b.staged,
      never-full s before h.1,
    )
never-full s (Reset source ∷ before) h = never-full s before h.1
