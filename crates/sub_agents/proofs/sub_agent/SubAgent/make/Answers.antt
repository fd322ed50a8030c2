use Rattle.std.proofs.Common.{◌≡◌, ◌≢◌, ◌≤◌, List, [], length, sym, subst, ap, ◌∙◌, arith}
use Rattle.std.specs.List.{AllByRecursion}
use Rattle.std.proofs.lemmas.Bool.{ltb-false, eqb-false}
use Rattle.circular_buffer.specs.Buffer.{Buffer}
use Rattle.data_format.specs.declared.source.SourceId.{SourceId}
use Rattle.agent_setups.specs.declared.setup.CounterSetup.{CounterSetup}
use Rattle.sub_agents.specs.declared.staged.Staged.{Staged}
use Rattle.sub_agents.specs.Setups.{IsSourceIn}
use Rattle.agent_setups.specs.Ids.{AreDistinct, has_great_index}
use Rattle.sub_agents.specs.Fields.{IsKept}
use Rattle.agent_setups.specs.Faults.{sampled_ids, polled_ids, is_compact}
use Rattle.sub_agents.proofs.IdTests.{neither, distinct, in-form}
use Rattle.sub_agents.proofs.SetUps.{breaks-none, indexes-fit}
use Rattle.sub_agents.proofs.sub_agent.SubAgent.make.Goals as goal

pub invariant_of-result : goal.invariant_of-result
invariant_of-result c =
    let s = c.args.setup in
    let form = c.args.form in
    let none = breaks-none form s c.requires.fault in
    let size = neither _ _ none.size in
    let stage = neither _ _ none.stage in
    let twice = neither _ _ none.twice in
    let classes = neither _ _ none.classes in
    let indexes = indexes-fit (is_compact form) (has_great_index (sampled_ids s.flows.items)) (has_great_index (polled_ids s.counters.items)) none.indexes in
    let room : Buffer Staged = c.in_ok-with_capacity.field-0 in
    let empty : room.items ≡ [] = ap (λ (b : Buffer Staged). b.items) c.in_ok-with_capacity.ensures in
    let places : room.capacity ≡ s.stage = ap (λ (b : Buffer Staged). b.capacity) c.in_ok-with_capacity.ensures in
    let flows = c.in_ok-sources_of.ensures.sources in
    let counters = c.in_ok-pollers_of.ensures.sources ∙ ap (λ (l : List CounterSetup). polled_ids l) c.deref.ensures.value in
    let some : s.stage ≢ 0 = eqb-false s.stage 0 stage.0 in
    let few : s.stage ≤ 1024 = ltb-false 1024 s.stage stage.1 in
    record {
      room_is = c.in_ok-new_room.ensures;
      least = ltb-false s.max_datagram 64 size.0;
      most = ltb-false 65535 s.max_datagram size.1;
      places = omega (arith, some, places);
      few = omega (arith, few, places);
      within = omega (arith, ap length empty);
      flow_ids_are = c.requires.flows ∙ sym flows;
      counter_ids_are = c.requires.counters ∙ sym counters;
      flows_distinct = subst (λ (ids : List SourceId). AreDistinct ids) (sym flows)
          (distinct (sampled_ids s.flows.items) twice.0);
      pollers_distinct = subst (λ (ids : List SourceId). AreDistinct ids) (sym counters)
          (distinct (polled_ids s.counters.items) twice.1);
      flows_in_form = subst (λ (ids : List SourceId). AllByRecursion (IsSourceIn form) ids) (sym flows)
          (in-form form (sampled_ids s.flows.items) classes.0 indexes.0);
      pollers_in_form = subst (λ (ids : List SourceId). AllByRecursion (IsSourceIn form) ids) (sym counters)
          (in-form form (polled_ids s.counters.items) classes.1 indexes.1);
      kept = subst (λ (l : List Staged). AllByRecursion (IsKept (record { agent = s.agent; sub_agent = s.sub_agent; form = form; max_datagram = s.max_datagram; first = s.first; flows = c.in_ok-sources_of.field-0.items; pollers = c.in_ok-pollers_of.field-0.items; stage = room; boot = 1; numbered = 0 })) l) (sym empty) tt;
    }
