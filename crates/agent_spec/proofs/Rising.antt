-- The pools and drops of a flow source in one generation, in order of issue.
use Rattle.std.proofs.Common.{◌≡◌, ℕ, ◌+◌, ◌≤◌, ◌<◌, suc, inl, inr, Bool, true, false, cond, List, [], ◌∷◌, length, arith, refl, ap, sym, subst}
use Rattle.std.specs.Prelude.{nat_lt}
use Rattle.std.specs.List.{AllByRecursion, filter}
use Rattle.std.proofs.lemmas.Bool.{cases_Bool}
use Rattle.wire_spec.specs.Shapes.{Tree}
use Rattle.agent_spec.specs.Sources.{same_source, Turn, same_turn, FlowSetup, CounterSetup}
use Rattle.agent_spec.specs.Samples.{Packet, Sample, Setup}
use Rattle.agent_spec.specs.Events.{Event, Observe, Poll, Send, Reset, turn_after}
use Rattle.agent_spec.specs.Marks.{is_marked}
use Rattle.agent_spec.specs.Boots.{Boot, is_sample_of, seen_in, dropped_in, issue, flow_sample, with_seen, with_dropped, after_packet, is_due, due_sources, counter_sample, with_polled, after_poll, happened}
use Rattle.agent_spec.specs.Orders.{samples_in, NeverFall, IsOfSetup, IsOnlySetup}
use Rattle.agent_spec.proofs.Lists.{filter-yes, filter-no, all-filter, all-imply}
use Rattle.agent_spec.proofs.Keys.{turn-eq, turn-source, other-turn}

module _ (f : FlowSetup) (turn : Turn) where
  -- issued by the time that so many packets were seen and so many dropped
  abbrev IsUnder : ℕ → ℕ → Sample → Type 0
  IsUnder seen dropped y = (y.pool ≤ f.pool + seen) × (y.drops ≤ f.drops + dropped)

  record Rises (seen dropped : ℕ) (samples : List Sample) : Type 0 where
    pub under : AllByRecursion (IsUnder seen dropped) samples
    pub order : NeverFall samples

  later : (seen dropped more lost : ℕ) (samples : List Sample) → seen ≤ more → dropped ≤ lost
      → Rises seen dropped samples → Rises more lost samples
  later seen dropped more lost samples a b h = record {
    under = all-imply (IsUnder seen dropped) (IsUnder more lost) (λ y u. (omega (arith, a, u.0), omega (arith, b, u.1)))
        samples h.under;
    order = h.order;
  }

  grown : (seen dropped : ℕ) (x : Sample) (samples : List Sample) → x.pool ≡ f.pool + (1 + seen)
      → x.drops ≡ f.drops + dropped → Rises seen dropped samples → Rises (1 + seen) dropped (x ∷ samples)
  grown seen dropped x samples p d h =
      let w : Rises (1 + seen) dropped samples = later seen dropped (1 + seen) dropped samples (omega arith) (omega arith) h in
      record {
        under = ((omega (arith, p), omega (arith, d)), w.under);
        order = (
          all-imply (IsUnder seen dropped) (λ (y : Sample). (y.pool < x.pool) × (y.drops ≤ x.drops))
              (λ y u. (omega (arith, p, u.0), omega (arith, d, u.1))) samples h.under,
          h.order,
        );
      }

  moved : (seen dropped seen' dropped' : ℕ) (samples samples' : List Sample) → seen' ≡ seen → dropped' ≡ dropped
      → samples' ≡ samples → Rises seen dropped samples → Rises seen' dropped' samples'
  moved seen dropped seen' dropped' samples samples' a b c h =
      subst (λ (n : ℕ). Rises n dropped' samples') (sym a)
      (subst (λ (n : ℕ). Rises seen n samples') (sym b) (subst (Rises seen dropped) (sym c) h))

  abbrev HoldsFor : Boot → Type 0
  HoldsFor b = Rises (seen_in turn b) (dropped_in turn b) (samples_in turn b)

  -- a packet of the generation
  own-packet : (s : Setup) (packet : Packet) (b : Boot) → same_turn turn turn ≡ true → HoldsFor b
      → HoldsFor (after_packet s f turn packet b)
  own-packet s packet b self h = go (is_marked f.skips (1 + seen_in turn b)) (nat_lt (length b.staged) s.stage)
    where
      one_seen : length (filter (same_turn turn) (turn ∷ b.seen)) ≡ 1 + seen_in turn b
      one_seen =
          let e : length (filter (same_turn turn) (turn ∷ b.seen)) ≡ suc (seen_in turn b) =
          ap length (filter-yes (same_turn turn) turn b.seen self) in
          omega (arith, e)

      one_dropped : length (filter (same_turn turn) (turn ∷ b.dropped)) ≡ 1 + dropped_in turn b
      one_dropped =
          let e : length (filter (same_turn turn) (turn ∷ b.dropped)) ≡ suc (dropped_in turn b) =
          ap length (filter-yes (same_turn turn) turn b.dropped self) in
          omega (arith, e)

      x : Sample
      x = flow_sample f turn packet b

      go : (m r : Bool) → HoldsFor (with_seen turn (cond m (cond r (issue x b) (with_dropped turn b)) b))
      go true true = moved (1 + seen_in turn b) (dropped_in turn b) _ _ (x ∷ samples_in turn b) _ one_seen refl
          (filter-yes (is_sample_of turn) x b.issued self)
          (grown (seen_in turn b) (dropped_in turn b) x (samples_in turn b) refl refl h)
      go true false = moved (1 + seen_in turn b) (1 + dropped_in turn b) _ _ (samples_in turn b) _ one_seen one_dropped refl
          (later (seen_in turn b) (dropped_in turn b) _ _ (samples_in turn b) (omega arith) (omega arith) h)
      go false r = moved (1 + seen_in turn b) (dropped_in turn b) _ _ (samples_in turn b) _ one_seen refl refl
          (later (seen_in turn b) (dropped_in turn b) _ _ (samples_in turn b) (omega arith) (omega arith) h)

  -- a packet of another source or generation
  other-packet : (s : Setup) (g : FlowSetup) (own : Turn) (packet : Packet) (b : Boot) → same_turn turn own ≡ false
      → HoldsFor b → HoldsFor (after_packet s g own packet b)
  other-packet s g own packet b other h = go (is_marked g.skips (1 + seen_in own b)) (nat_lt (length b.staged) s.stage)
    where
      none_seen : length (filter (same_turn turn) (own ∷ b.seen)) ≡ seen_in turn b
      none_seen = ap length (filter-no (same_turn turn) own b.seen other)

      x : Sample
      x = flow_sample g own packet b

      go : (m r : Bool) → HoldsFor (with_seen own (cond m (cond r (issue x b) (with_dropped own b)) b))
      go true true = moved (seen_in turn b) (dropped_in turn b) _ _ (samples_in turn b) _ none_seen refl
          (filter-no (is_sample_of turn) x b.issued other) h
      go true false = moved (seen_in turn b) (dropped_in turn b) _ _ (samples_in turn b) _ none_seen
          (ap length (filter-no (same_turn turn) own b.dropped other)) refl h
      go false r = moved (seen_in turn b) (dropped_in turn b) _ _ (samples_in turn b) _ none_seen refl refl h

  observed : (s : Setup) (g : FlowSetup) (own : Turn) (packet : Packet) (b : Boot)
      → (same_turn turn own ≡ true → g ≡ f) → HoldsFor b → HoldsFor (after_packet s g own packet b)
  observed s g own packet b only h = elim (cases_Bool (same_turn turn own)) [
    | inl e ↦
        let t : turn ≡ own = turn-eq turn own e in
        let self : same_turn turn turn ≡ true = subst (λ (u : Turn). same_turn turn u ≡ true) (sym t) e in
        subst (λ (u : Turn). HoldsFor (after_packet s g u packet b)) t
        (subst (λ (k : FlowSetup). HoldsFor (after_packet s k turn packet b)) (sym (only e))
        (own-packet s packet b self h))
    | inr e ↦ other-packet s g own packet b e h
  ]

  -- counters samples are of other sources
  polled : (now : ℕ) (before : List Event) (due : List CounterSetup) (readings : List Tree) (b : Boot)
      → AllByRecursion (λ (c : CounterSetup). same_source turn.source c.source ≡ false) due
      → HoldsFor b → HoldsFor (after_poll now before due readings b)
  polled now before [] readings b others h = h
  polled now before (c ∷ due) [] b others h = h
  polled now before (c ∷ due) (reading ∷ more) b others h =
      let own : Turn = turn_after c.source before in
      let x : Sample = counter_sample c own reading b in
      let other : same_turn turn own ≡ false = other-turn turn own others.0 in
      polled now before due more (with_polled own now (issue x b)) others.1
      (moved (seen_in turn b) (dropped_in turn b) _ _ (samples_in turn b) _ refl refl
      (filter-no (is_sample_of turn) x b.issued other) h)

pub never-fall : (s : Setup) (f : FlowSetup) (events : List Event) (generation : ℕ) → IsOnlySetup f s events
    → NeverFall (samples_in (record { source = f.source; generation = generation }) (happened s events))
never-fall s f events generation only = (go events only.packets).order
  where
    turn : Turn
    turn = record { source = f.source; generation = generation }

    go : (events : List Event) → AllByRecursion (IsOfSetup f) events → HoldsFor f turn (happened s events)
    go [] own = record { under = tt; order = tt }
    go (Observe g packet ∷ before) own =
        observed f turn s g (turn_after g.source before) packet (happened s before)
        (λ e. own.0 (turn-source turn (turn_after g.source before) e)) (go before own.1)
    go (Poll now readings ∷ before) own =
        let b : Boot = happened s before in
        polled f turn now before (due_sources s now before b) readings b
        (all-filter (λ (c : CounterSetup). same_source f.source c.source ≡ false) (is_due now before b) s.counters
        only.counters)
        (go before own.1)
    go (Send now count ∷ before) own = go before own.1
    go (Reset source ∷ before) own = go before own.1
