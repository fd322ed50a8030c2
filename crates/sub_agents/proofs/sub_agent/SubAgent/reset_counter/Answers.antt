use Rattle.std.proofs.Common.{◌≡◌, sym, subst}
use Rattle.data_format.specs.declared.source.SourceId.{SourceId}
use Rattle.agent_spec.specs.Events.{Reset}
use Rattle.agent_poller.specs.Polling.{PollerState}
use Rattle.sub_agents.specs.Counts.{counter_setup}
use Rattle.sub_agents.specs.Setups.{counter_source}
use Rattle.sub_agents.specs.Fields.{sub_agent_state}
use Rattle.sub_agents.specs.SubAgents.{SubAgentState, StandsFor, with_event}
use Rattle.sub_agents.proofs.Keeping.{source-at, poller-kept}
use Rattle.sub_agents.proofs.Anew.{with_poller, counter-reset}
use Rattle.sub_agents.proofs.sub_agent.SubAgent.reset_counter.Goals as goal

pub invariant_of-self : goal.invariant_of-self
invariant_of-self c =
    let x = c.self.inside in
    let p : PollerState = c.index_mut.result.now in
    let at = source-at (λ (k : PollerState). k.source) x.pollers.items x.counter_ids.items c.deref.result.now c.in-Some.place
    c.args.source p c.self.invariant.counter_ids_are c.deref.ensures.value c.in-Some.ensures.some c.index_mut.ensures.value in
    poller-kept x c.in-Some.place p c.restart.new.self c.self.invariant at.0 c.restart.ensures.source

pub returns-clause-stands : goal.returns-clause-stands
returns-clause-stands c = λ b h.
    let x = c.self.inside in
    let s : SubAgentState = sub_agent_state x in
    let p : PollerState = c.index_mut.result.now in
    let q : PollerState = c.restart.new.self in
    let at = source-at (λ (k : PollerState). k.source) x.pollers.items x.counter_ids.items c.deref.result.now c.in-Some.place
    c.args.source p c.self.invariant.counter_ids_are c.deref.ensures.value c.in-Some.ensures.some c.index_mut.ensures.value in
    let r = c.restart.ensures in
    let same : counter_setup q ≡ counter_setup p =
    λ i. record { source = counter_source (r.source i); every = r.every i; first = r.first i } in
    subst (λ (id : SourceId). StandsFor (with_poller s c.in-Some.place q) (with_event (Reset (counter_source id)) b)) at.1
    (counter-reset s b c.in-Some.place p q (subst (λ (v : SubAgentState). StandsFor v b) (sym c.self.view_is) h)
    c.self.invariant.pollers_distinct at.0 same r.stands)
