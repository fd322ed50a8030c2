use Rattle.std.proofs.Common.{sym, subst}
use Rattle.data_format.specs.declared.source.SourceId.{SourceId}
use Rattle.agent_spec.specs.Events.{Reset}
use Rattle.sub_agents.specs.declared.sources.FlowSource.{FlowSource}
use Rattle.sub_agents.specs.Setups.{flow_source}
use Rattle.sub_agents.specs.Fields.{sub_agent_state}
use Rattle.sub_agents.specs.SubAgents.{SubAgentState, StandsFor, with_event}
use Rattle.sub_agents.proofs.Keeping.{source-at, flow-kept}
use Rattle.sub_agents.proofs.Observed.{with_flow}
use Rattle.sub_agents.proofs.Anew.{flow-reset}
use Rattle.sub_agents.proofs.sub_agent.SubAgent.reset_flow.Goals as goal

pub invariant_of-self : goal.invariant_of-self
invariant_of-self c =
    let x = c.self.inside in
    let f : FlowSource = c.index_mut.result.now in
    let at = source-at (λ (k : FlowSource). k.source) x.flows.items x.flow_ids.items c.deref.result.now c.in-Some.place
    c.args.source f c.self.invariant.flow_ids_are c.deref.ensures.value c.in-Some.ensures.some c.index_mut.ensures.value in
    flow-kept x c.in-Some.place f c.restart.new.self c.self.invariant at.0 c.restart.ensures.source

pub returns-clause-stands : goal.returns-clause-stands
returns-clause-stands c = λ b h.
    let x = c.self.inside in
    let s : SubAgentState = sub_agent_state x in
    let f : FlowSource = c.index_mut.result.now in
    let g : FlowSource = c.restart.new.self in
    let at = source-at (λ (k : FlowSource). k.source) x.flows.items x.flow_ids.items c.deref.result.now c.in-Some.place
    c.args.source f c.self.invariant.flow_ids_are c.deref.ensures.value c.in-Some.ensures.some c.index_mut.ensures.value in
    subst (λ (id : SourceId). StandsFor (with_flow s c.in-Some.place g s.stage) (with_event (Reset (flow_source id)) b)) at.1
    (flow-reset s b c.in-Some.place f g (subst (λ (v : SubAgentState). StandsFor v b) (sym c.self.view_is) h)
    c.self.invariant.flows_distinct at.0 c.restart.ensures.setup c.restart.ensures.counts)
