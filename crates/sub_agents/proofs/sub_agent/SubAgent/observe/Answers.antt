use Rattle.std.proofs.Common.{◌≡◌, ◌∙◌, ◌<◌, ℕ, Bool, true, false, not, cond, List, [], ◌∷◌, length, sym, ap, subst}
use Rattle.std.specs.Prelude.{slice_get}
use Rattle.std.proofs.lemmas.Option.{slice_get_within}
use Rattle.std.specs.declared.option.Option.TheVariants.{Some, None}
use Rattle.data_format.specs.declared.source.SourceId.{SourceId}
use Rattle.agent_spec.specs.Boots.{IsAmong}
use Rattle.agent_spec.specs.Samples.{Setup}
use Rattle.agent_spec.specs.Spelled.{fits_in}
use Rattle.sub_agents.specs.declared.packet.Packet.{Packet}
use Rattle.sub_agents.specs.declared.packet.ObserveRefusal.TheVariants.{NoSource, BadPort, TooLarge}
use Rattle.sub_agents.specs.declared.sources.FlowSource.{FlowSource}
use Rattle.sub_agents.specs.declared.sub_agent.SubAgent.TheInside.{Inside}
use Rattle.sub_agents.specs.Setups.{flow_source}
use Rattle.sub_agents.specs.Packets.{packet_of, ports_fit}
use Rattle.agent_setups.specs.Ids.{is_among}
use Rattle.sub_agents.specs.Counts.{flow_setup, flow_sources}
use Rattle.sub_agents.specs.Answers.{a_sample, refusal}
use Rattle.sub_agents.specs.Fields.{sub_agent_state}
use Rattle.sub_agents.specs.SubAgents.{SubAgentState, sender_of}
use Rattle.sub_agents.proofs.Lists.{among-get}
use Rattle.sub_agents.proofs.Keeping.{some-at}
use Rattle.sub_agents.proofs.sub_agent.SubAgent.observe.Goals as goal

-- the first of the causes that hold
refused-by : (v : SubAgentState) (id : SourceId) (p : Packet) (a q t : Bool) → is_among id (flow_sources v.flows) ≡ a
    → ports_fit v.form p ≡ q → fits_in (sender_of v) (a_sample (flow_source id) (packet_of p) ∷ []) ≡ t
    → cond (not a) (Some NoSource) (cond (not q) (Some BadPort) (cond (not t) (Some TooLarge) None)) ≡ refusal v id p
refused-by v id p a q t among ports fits =
    sym (λ i. cond (not (among i)) (Some NoSource) (cond (not (ports i)) (Some BadPort) (cond (not (fits i)) (Some TooLarge) None)))

among-now : (x : Inside) (v : SubAgentState) (id : SourceId) (shown : List SourceId) → sub_agent_state x ≡ v
    → x.flow_ids.items ≡ flow_sources x.flows.items → shown ≡ x.flow_ids.items → is_among id shown ≡ true
    → is_among id (flow_sources v.flows) ≡ true
among-now x v id shown view are same e =
    subst (λ (k : SubAgentState). is_among id (flow_sources k.flows) ≡ true) view
    (subst (λ (l : List SourceId). is_among id l ≡ true) (same ∙ are) e)

pub returns-then-not-packet_fits-clause-refused : goal.returns-then-not-packet_fits-clause-refused
returns-then-not-packet_fits-clause-refused c =
    let v : SubAgentState = c.args.self.now in
    let p : Packet = c.args.packet.now in
    refused-by v c.args.source p true true false
    (among-now c.self.inside v c.args.source c.deref.result.now c.self.view_is c.self.invariant.flow_ids_are
    c.deref.ensures.value c.in-Some.ensures.here)
    (subst (λ (k : SubAgentState). ports_fit k.form p ≡ true) c.self.view_is
    (sym c.both_fit_form.ensures ∙ c.if-not-both_fit_form.false))
    (sym (c.packet_fits.ensures c.args.source) ∙ c.if-not-packet_fits.true)

pub take_packet-requires-clause-place : goal.take_packet-requires-clause-place
take_packet-requires-clause-place c =
    let x = c.self.inside in
    let f = some-at (λ (k : FlowSource). k.source) x.flows.items x.flow_ids.items c.deref.result.now c.in-Some.place
    c.args.source c.self.invariant.flow_ids_are c.deref.ensures.value c.in-Some.ensures.some in
    subst (λ (k : SubAgentState). c.in-Some.place < length k.flows) c.self.view_is
    (slice_get_within x.flows.items c.in-Some.place f.0 f.1)

pub take_packet-requires-clause-fits : goal.take_packet-requires-clause-fits
take_packet-requires-clause-fits c = λ source. sym (c.packet_fits.ensures source) ∙ c.if-not-packet_fits.false

pub returns-clause-refused : goal.returns-clause-refused
returns-clause-refused c =
    let v : SubAgentState = c.args.self.now in
    let p : Packet = c.args.packet.now in
    refused-by v c.args.source p true true true
    (among-now c.self.inside v c.args.source c.deref.result.now c.self.view_is c.self.invariant.flow_ids_are
    c.deref.ensures.value c.in-Some.ensures.here)
    (subst (λ (k : SubAgentState). ports_fit k.form p ≡ true) c.self.view_is
    (sym c.both_fit_form.ensures ∙ c.if-not-both_fit_form.false))
    (sym (c.packet_fits.ensures c.args.source) ∙ c.if-not-packet_fits.false)

pub returns-clause-stands : goal.returns-clause-stands
returns-clause-stands c = λ b h.
    let x = c.self.inside in
    let i : ℕ = c.in-Some.place in
    let v : SubAgentState = c.args.self.now in
    let some = some-at (λ (k : FlowSource). k.source) x.flows.items x.flow_ids.items c.deref.result.now i
    c.args.source c.self.invariant.flow_ids_are c.deref.ensures.value c.in-Some.ensures.some in
    let f : FlowSource = some.0 in
    let at : slice_get v.flows i ≡ Some f =
    subst (λ (k : SubAgentState). slice_get k.flows i ≡ Some f) c.self.view_is some.1 in (
      flow_setup f,
      subst (λ (k : Setup). IsAmong (flow_setup f) k.flows) h.setup (among-get flow_setup v.flows i f at),
      ap (λ (id : SourceId). flow_source id) some.2,
      c.take_packet.ensures.seen b f h at,
      c.take_packet.ensures.stands b f h at,
    )
