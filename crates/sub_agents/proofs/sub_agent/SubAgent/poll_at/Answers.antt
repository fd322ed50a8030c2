use Rattle.std.proofs.Common.{◌≡◌, ◌∙◌, ◌++◌, ◌<◌, ℕ, true, [], ◌∷◌, length, set, sym, subst, slice_index_or, arith}
use Rattle.std.specs.Prelude.{slice_get}
use Rattle.std.specs.Vec.{with_item}
use Rattle.std.specs.declared.option.Option.TheVariants.{Some}
use Rattle.circular_buffer.specs.Buffer.{buffer}
use Rattle.agent_poller.specs.Polling.{PollerState}
use Rattle.sub_agents.specs.declared.staged.Staged.TheVariants.{Counters}
use Rattle.sub_agents.specs.declared.staged.StagedCounters.{StagedCounters}
use Rattle.sub_agents.specs.declared.sub_agent.SubAgent.TheInside.{Inside}
use Rattle.sub_agents.specs.Setups.{counter_source, IsSourceIn}
use Rattle.sub_agents.specs.Counts.{counter_setup}
use Rattle.sub_agents.specs.Polls.{PolledOne, counters_fit}
use Rattle.sub_agents.specs.Fields.{sub_agent_state, IsKept}
use Rattle.sub_agents.specs.SubAgents.{SubAgentState}
use Rattle.sub_agents.proofs.Lists.{read-get}
use Rattle.sub_agents.proofs.Keeping.{poller-kept, push-kept}
use Rattle.sub_agents.proofs.Places.{pushed}
use Rattle.sub_agents.proofs.CountersKept.{counters-kept, polled-in-form}
use Rattle.sub_agents.proofs.sub_agent.SubAgent.poll_at.Goals as goal

at-place : (x : Inside) (v : SubAgentState) (i : ℕ) (p : PollerState) → sub_agent_state x ≡ v → i < length v.pollers
    → p ≡ slice_index_or x.pollers.items i p → slice_get x.pollers.items i ≡ Some p
at-place x v i p view within read =
    read-get x.pollers.items i p (subst (λ (k : SubAgentState). i < length k.pollers) (sym view) within) read

free-now : (x : Inside) (v : SubAgentState) → sub_agent_state x ≡ v → length v.stage.items < v.stage.capacity
    → length x.stage.items < x.stage.capacity
free-now x v view free = subst (λ (k : SubAgentState). length k.stage.items < k.stage.capacity) (sym view) free

pub invariant_of-self-2 : goal.invariant_of-self-2
invariant_of-self-2 g c =
    let x = c.self.inside in
    let i : ℕ = c.args.place in
    let s : SubAgentState = sub_agent_state x in
    let p : PollerState = c.index_mut-poller.result.now in
    let q : PollerState = c.poll.new.self in
    let inv = c.self.invariant in
    let st : StagedCounters = record {
      head = record { sequence = c.in-Ok.polled.sequence; source = c.source-source.result };
      counters = c.in-Ok.polled.counters;
    } in
    let at = at-place x c.args.self.now i p c.self.view_is c.requires.place c.index_mut-poller.ensures.value in
    let free = free-now x c.args.self.now c.self.view_is c.requires.free in
    let some : i < length x.pollers.items =
    subst (λ (k : SubAgentState). i < length k.pollers) (sym c.self.view_is) c.requires.place in
    let fits : counters_fit s ≡ true =
    subst (λ (k : SubAgentState). counters_fit k ≡ true) (sym c.self.view_is) c.requires.fits in
    let source : IsSourceIn s.form c.source-source.result =
    subst (λ k. IsSourceIn s.form k) (sym c.source-source.ensures)
    (polled-in-form s.form x.pollers.items i p inv.pollers_in_form at) in
    let kept : IsKept s (Counters st) = counters-kept s st (omega (arith, some)) fits source c.in-Ok.ensures.tail in
    push-kept (record x { pollers = with_item x.pollers i q }) (Counters st) c.push_back.new.self
    (poller-kept x i p q inv at c.poll.ensures.source) free
    (c.push_back.ensures.items ∙ pushed x.stage.items (Counters st) x.stage.capacity free) kept

pub returns-clause-polled : goal.returns-clause-polled
returns-clause-polled g c =
    let x = c.self.inside in
    let i : ℕ = c.args.place in
    let s : SubAgentState = sub_agent_state x in
    let p : PollerState = c.index_mut-poller.result.now in
    let q : PollerState = c.poll.new.self in
    let st : StagedCounters = record {
      head = record { sequence = c.in-Ok.polled.sequence; source = c.source-source.result };
      counters = c.in-Ok.polled.counters;
    } in
    let at = at-place x c.args.self.now i p c.self.view_is c.requires.place c.index_mut-poller.ensures.value in
    let free = free-now x c.args.self.now c.self.view_is c.requires.free in
    let stage : c.push_back.new.self ≡ buffer (x.stage.items ++ Counters st ∷ []) x.stage.capacity =
    c.push_back.ensures.items ∙ pushed x.stage.items (Counters st) x.stage.capacity free in
    let r = c.poll.ensures in
    let same : counter_setup q ≡ counter_setup p =
    λ j. record { source = counter_source (r.source j); every = r.every j; first = r.first j } in
    subst (λ (k : SubAgentState). PolledOne g.M.Meter.gives g.M.Meter.faults k
    (record s { pollers = set x.pollers.items i q; stage = c.push_back.new.self }) i c.args.uptime c.args.meter.now c.poll.new.meter)
    c.self.view_is (record {
      old = p;
      at = at;
      polled = q;
      sample = st;
      after_it = λ j. record s { pollers = set x.pollers.items i q; stage = stage j };
      setup = same;
      stands = λ issued last h. c.in-Ok.ensures.stands issued last h;
      number = λ issued last h. c.in-Ok.ensures.number issued last h;
      source = c.source-source.ensures;
      tail = c.in-Ok.ensures.tail;
      gave = c.in-Ok.ensures.counters;
      kept = c.in-Ok.ensures.kept;
      apart = c.self.invariant.pollers_distinct;
    })
