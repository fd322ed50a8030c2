-- The samples of a source in one generation are numbered one after the other, in order of issue.
use Rattle.std.proofs.Common.{◌≡◌, ℕ, ◌+◌, Bool, true, false, cond, List, [], ◌∷◌, length, refl, ap, sym, ◌∙◌}
use Rattle.std.specs.Prelude.{nat_lt}
use Rattle.std.specs.List.{AllByRecursion, filter}
use Rattle.wire_spec.specs.Shapes.{Tree}
use Rattle.agent_spec.specs.Sources.{same_source, Turn, same_turn, FlowSetup, CounterSetup}
use Rattle.agent_spec.specs.Samples.{Packet, Sample, Setup}
use Rattle.agent_spec.specs.Events.{Event, Observe, Poll, Send, Reset, turn_after}
use Rattle.agent_spec.specs.Marks.{is_marked}
use Rattle.agent_spec.specs.Boots.{Boot, is_sample_of, seen_in, issued_in, issue, flow_sample, with_seen, with_dropped, after_packet, is_due, due_sources, counter_sample, with_polled, after_poll, happened}
use Rattle.agent_spec.specs.Orders.{samples_in, AreNumberedFrom, NumbersBegin, HasFirst}
use Rattle.agent_spec.proofs.Lists.{all-filter}
use Rattle.agent_spec.proofs.Keys.{turn-eq, turn-source}

module _ (turn : Turn) (first : ℕ) where
  abbrev Numbered : List Sample → Type 0
  Numbered samples = AreNumberedFrom first (filter (is_sample_of turn) samples)

  -- one sample more
  issued-next : (x : Sample) (samples : List Sample)
      → (same_turn turn x.turn ≡ true → x.number ≡ first + length (filter (is_sample_of turn) samples))
      → Numbered samples → Numbered (x ∷ samples)
  issued-next x samples number h = go (same_turn turn x.turn) number
    where
      go : (b : Bool) → (b ≡ true → x.number ≡ first + length (filter (is_sample_of turn) samples))
          → AreNumberedFrom first (cond b (x ∷ filter (is_sample_of turn) samples) (filter (is_sample_of turn) samples))
      go true is = (is refl, h)
      go false is = h

  -- the number behind those of the same generation
  next-number : (own : Turn) (base : ℕ) (b : Boot) → (same_source turn.source own.source ≡ true → base ≡ first)
      → same_turn turn own ≡ true → base + issued_in own b ≡ first + issued_in turn b
  next-number own base b begins e =
      ap (λ (n : ℕ). n + issued_in own b) (begins (turn-source turn own e))
      ∙ ap (λ (t : Turn). first + issued_in t b) (sym (turn-eq turn own e))

  observed : (s : Setup) (f : FlowSetup) (own : Turn) (packet : Packet) (b : Boot)
      → (same_source turn.source own.source ≡ true → f.first ≡ first)
      → Numbered b.issued → Numbered (after_packet s f own packet b).issued
  observed s f own packet b begins h = go (is_marked f.skips (1 + seen_in own b)) (nat_lt (length b.staged) s.stage)
    where
      go : (m r : Bool) → Numbered (with_seen own (cond m
          (cond r (issue (flow_sample f own packet b) b) (with_dropped own b)) b)).issued
      go true true = issued-next (flow_sample f own packet b) b.issued (next-number own f.first b begins) h
      go true false = h
      go false r = h

  polled : (now : ℕ) (before : List Event) (due : List CounterSetup) (readings : List Tree) (b : Boot)
      → AllByRecursion (λ (c : CounterSetup). same_source turn.source c.source ≡ true → c.first ≡ first) due
      → Numbered b.issued → Numbered (after_poll now before due readings b).issued
  polled now before [] readings b begin h = h
  polled now before (c ∷ due) [] b begin h = h
  polled now before (c ∷ due) (reading ∷ more) b begin h =
      let own : Turn = turn_after c.source before in
      let x : Sample = counter_sample c own reading b in
      polled now before due more (with_polled own now (issue x b)) begin.1
      (issued-next x b.issued (next-number own c.first b begin.0) h)

  pub numbered : (s : Setup) (events : List Event) → HasFirst turn.source first s events
      → AreNumberedFrom first (samples_in turn (happened s events))
  numbered s events has = go events has.packets
    where
      go : (events : List Event) → AllByRecursion (NumbersBegin turn.source first) events
          → Numbered (happened s events).issued
      go [] begin = tt
      go (Observe f packet ∷ before) begin =
          observed s f (turn_after f.source before) packet (happened s before) begin.0 (go before begin.1)
      go (Poll now readings ∷ before) begin =
          let b : Boot = happened s before in
          polled now before (due_sources s now before b) readings b
          (all-filter (λ (c : CounterSetup). same_source turn.source c.source ≡ true → c.first ≡ first)
          (is_due now before b) s.counters has.counters)
          (go before begin.1)
      go (Send now count ∷ before) begin = go before begin.1
      go (Reset source ∷ before) begin = go before begin.1
