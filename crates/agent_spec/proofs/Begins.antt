-- Nothing is counted in a generation before a source enters it.
use Rattle.std.proofs.Common.{◌≡◌, ℕ, ◌+◌, ◌<◌, inl, inr, Bool, true, false, cond, List, [], ◌∷◌, length, arith, refl, ap, ◌∙◌}
use Rattle.std.specs.Prelude.{nat_lt}
use Rattle.std.specs.List.{filter}
use Rattle.std.proofs.lemmas.Bool.{cases_Bool}
use Rattle.wire_spec.specs.Shapes.{Tree}
use Rattle.agent_spec.specs.Sources.{Source, Turn, same_turn, FlowSetup, CounterSetup}
use Rattle.agent_spec.specs.Samples.{Packet, Sample, Setup}
use Rattle.agent_spec.specs.Events.{Event, Observe, Poll, Send, Reset, is_reset_of, generation_after, turn_after}
use Rattle.agent_spec.specs.Marks.{is_marked}
use Rattle.agent_spec.specs.Boots.{Boot, is_sample_of, seen_in, issued_in, dropped_in, last_poll, issue, flow_sample, with_seen, with_dropped, after_packet, due_sources, counter_sample, with_polled, after_poll, happened}
use Rattle.agent_spec.proofs.Lists.{filter-no, count_by-more}
use Rattle.agent_spec.proofs.Keys.{turn-eq}

module _ (turn : Turn) where
  pub record IsEmpty (b : Boot) : Type 0 where
    pub seen : seen_in turn b ≡ 0
    pub issued : issued_in turn b ≡ 0
    pub dropped : dropped_in turn b ≡ 0
    pub polled : last_poll turn b.polled ≡ 0

  -- a source is in an earlier generation
  other-turn : (source : Source) (events : List Event) → generation_after turn.source events < turn.generation
      → same_turn turn (turn_after source events) ≡ false
  other-turn source events less = elim (cases_Bool (same_turn turn (turn_after source events))) [
    | inl same ↦
        let e : turn ≡ turn_after source events = turn-eq turn (turn_after source events) same in
        let g : turn.generation ≡ generation_after source events = ap (λ (t : Turn). t.generation) e in
        let s : generation_after turn.source events ≡ generation_after source events =
        ap (λ (t : Turn). generation_after t.source events) e in
        absurd (omega (arith, g, s, less))
    | inr other ↦ other
  ]

  observed : (s : Setup) (f : FlowSetup) (own : Turn) (packet : Packet) (b : Boot) → same_turn turn own ≡ false
      → IsEmpty b → IsEmpty (after_packet s f own packet b)
  observed s f own packet b other h = go (is_marked f.skips (1 + seen_in own b)) (nat_lt (length b.staged) s.stage)
    where
      none_seen : length (filter (same_turn turn) (own ∷ b.seen)) ≡ 0
      none_seen = ap length (filter-no (same_turn turn) own b.seen other) ∙ h.seen

      x : Sample
      x = flow_sample f own packet b

      go : (m r : Bool) → IsEmpty (with_seen own (cond m (cond r (issue x b) (with_dropped own b)) b))
      go true true = record {
        seen = none_seen;
        issued = ap length (filter-no (is_sample_of turn) x b.issued other) ∙ h.issued;
        dropped = h.dropped;
        polled = h.polled;
      }
      go true false = record {
        seen = none_seen;
        issued = h.issued;
        dropped = ap length (filter-no (same_turn turn) own b.dropped other) ∙ h.dropped;
        polled = h.polled;
      }
      go false r = record { seen = none_seen; issued = h.issued; dropped = h.dropped; polled = h.polled }

  polled : (now : ℕ) (before : List Event) (due : List CounterSetup) (readings : List Tree) (b : Boot)
      → generation_after turn.source before < turn.generation
      → IsEmpty b → IsEmpty (after_poll now before due readings b)
  polled now before [] readings b less h = h
  polled now before (c ∷ due) [] b less h = h
  polled now before (c ∷ due) (reading ∷ more) b less h =
      let own : Turn = turn_after c.source before in
      let x : Sample = counter_sample c own reading b in
      let other : same_turn turn own ≡ false = other-turn c.source before less in
      polled now before due more (with_polled own now (issue x b)) less (record {
        seen = h.seen;
        issued = ap length (filter-no (is_sample_of turn) x b.issued other) ∙ h.issued;
        dropped = h.dropped;
        polled = ap (λ (k : Bool). cond k now (last_poll turn b.polled)) other ∙ h.polled;
      })

  pub empty-before : (s : Setup) (events : List Event) → generation_after turn.source events < turn.generation
      → IsEmpty (happened s events)
  empty-before s [] less = record { seen = refl; issued = refl; dropped = refl; polled = refl }
  empty-before s (Observe f packet ∷ before) less =
      let sooner : generation_after turn.source before < turn.generation =
      omega (arith, less, count_by-more (is_reset_of turn.source) (Observe f packet) before) in
      observed s f (turn_after f.source before) packet (happened s before) (other-turn f.source before sooner)
      (empty-before s before sooner)
  empty-before s (Poll now readings ∷ before) less =
      let sooner : generation_after turn.source before < turn.generation =
      omega (arith, less, count_by-more (is_reset_of turn.source) (Poll now readings) before) in
      polled now before (due_sources s now before (happened s before)) readings (happened s before) sooner
      (empty-before s before sooner)
  empty-before s (Send now count ∷ before) less =
      let sooner : generation_after turn.source before < turn.generation =
      omega (arith, less, count_by-more (is_reset_of turn.source) (Send now count) before) in
      let h : IsEmpty (happened s before) = empty-before s before sooner in
      record { seen = h.seen; issued = h.issued; dropped = h.dropped; polled = h.polled }
  empty-before s (Reset source ∷ before) less =
      empty-before s before (omega (arith, less, count_by-more (is_reset_of turn.source) (Reset source) before))
