use Rattle.std.proofs.Common.{slice_index_or, ◌≡◌, ◌∙◌, ◌++◌, ◌<◌, ℕ, Bool, true, not, List, [], ◌∷◌, length, sym, ap, subst}
use Rattle.std.specs.Prelude.{slice_get}
use Rattle.std.specs.Vec.{with_item}
use Rattle.std.specs.declared.option.Option.TheVariants.{Some}
use Rattle.circular_buffer.specs.Buffer.{Buffer, buffer}
use Rattle.data_format.specs.declared.heads.FlowHead.{FlowHead}
use Rattle.data_format.specs.declared.source.SourceId.{SourceId}
use Rattle.agent_spec.specs.Events.{Observe}
use Rattle.agent_spec.specs.Spelled.{fits_in}
use Rattle.sub_agents.specs.declared.sources.FlowSource.{FlowSource}
use Rattle.sub_agents.specs.declared.sources.Taken.{Taken}
use Rattle.sub_agents.specs.declared.packet.Packet.{Packet}
use Rattle.sub_agents.specs.declared.packet.Seen.TheVariants as seen
use Rattle.sub_agents.specs.declared.staged.Staged.{Staged}
use Rattle.sub_agents.specs.declared.staged.Staged.TheVariants.{Flow}
use Rattle.sub_agents.specs.declared.staged.StagedFlow.{StagedFlow}
use Rattle.sub_agents.specs.declared.sub_agent.SubAgent.TheInside.{Inside}
use Rattle.sub_agents.specs.Setups.{flow_source, IsSourceIn}
use Rattle.sub_agents.specs.Packets.{packet_of, ports_fit}
use Rattle.sub_agents.specs.Counts.{flow_setup, is_issued}
use Rattle.sub_agents.specs.Answers.{a_sample, seen_by}
use Rattle.sub_agents.specs.Fields.{sub_agent_state, IsKept}
use Rattle.sub_agents.specs.SubAgents.{SubAgentState, StandsFor, with_event, sender_of}
use Rattle.sub_agents.proofs.Lists.{read-get, some-eq}
use Rattle.sub_agents.proofs.Keeping.{flow-kept, push-kept, in-form-at}
use Rattle.sub_agents.proofs.Fits.{packet-kept}
use Rattle.sub_agents.proofs.Observed.{with_flow}
use Rattle.sub_agents.proofs.Places.{pushed, free-place, IsStagedOf, passed-stands, passed-seen, dropped-stands, dropped-seen, issued-stands, issued-seen}
use Rattle.sub_agents.proofs.sub_agent.SubAgent.take_packet.Goals as goal

-- the source at the place, by what was read there
at-place : (x : Inside) (v : SubAgentState) (i : ℕ) (f : FlowSource) → sub_agent_state x ≡ v → i < length v.flows
    → f ≡ slice_index_or x.flows.items i f → slice_get x.flows.items i ≡ Some f
at-place x v i f view within read =
    read-get x.flows.items i f (subst (λ (k : SubAgentState). i < length k.flows) (sym view) within) read

same-flow : (x : Inside) (v : SubAgentState) (i : ℕ) (f g : FlowSource) → sub_agent_state x ≡ v
    → slice_get x.flows.items i ≡ Some f → slice_get v.flows i ≡ Some g → f ≡ g
same-flow x v i f g view at e =
    some-eq f g (sym at ∙ subst (λ (k : SubAgentState). slice_get k.flows i ≡ Some g) (sym view) e)

pub invariant_of-self : goal.invariant_of-self
invariant_of-self c =
    let x = c.self.inside in
    let f : FlowSource = c.index_mut-flow.result.now in
    let at = at-place x c.args.self.now c.args.place f c.self.view_is c.requires.place c.index_mut-flow.ensures.value in
    flow-kept x c.args.place f c.take.new.self c.self.invariant at c.take.ensures.source

pub invariant_of-self-in-Dropped : goal.invariant_of-self-in-Dropped
invariant_of-self-in-Dropped c =
    let x = c.self.inside in
    let f : FlowSource = c.index_mut-flow.result.now in
    let at = at-place x c.args.self.now c.args.place f c.self.view_is c.requires.place c.index_mut-flow.ensures.value in
    flow-kept x c.args.place f c.take.new.self c.self.invariant at c.take.ensures.source

pub invariant_of-self-in-Issued : goal.invariant_of-self-in-Issued
invariant_of-self-in-Issued c =
    let x = c.self.inside in
    let i : ℕ = c.args.place in
    let s : SubAgentState = sub_agent_state x in
    let f : FlowSource = c.index_mut-flow.result.now in
    let g : FlowSource = c.take.new.self in
    let p : Packet = c.args.packet.now in
    let st : StagedFlow = c.stage_packet-staged.result in
    let items : List Staged = x.stage.items in
    let inv = c.self.invariant in
    let at = at-place x c.args.self.now i f c.self.view_is c.requires.place c.index_mut-flow.ensures.value in
    let full : Bool = c.is_full-has_place.result in
    let issued : is_issued c.take.result ≡ true = ap (λ (r : Taken). is_issued r) c.in-Issued.is in
    let free : length items < x.stage.capacity =
    free-place (length items) x.stage.capacity (not full) inv.within (ap not c.is_full-has_place.ensures) (c.take.ensures.place issued) in
    let head = c.stage_packet-staged.ensures.head in
    let source : IsSourceIn s.form st.head.source =
    subst (λ (id : SourceId). IsSourceIn s.form id) (sym (ap (λ (k : FlowHead). k.source) head))
    (in-form-at s.form x.flows.items i f inv.flows_in_form at) in
    let ports : ports_fit s.form p ≡ true =
    subst (λ (k : SubAgentState). ports_fit k.form p ≡ true) (sym c.self.view_is) c.requires.ports in
    let fits : fits_in (sender_of s) (a_sample (flow_source f.source) (packet_of p) ∷ []) ≡ true =
    subst (λ (k : SubAgentState). fits_in (sender_of k) (a_sample (flow_source f.source) (packet_of p) ∷ []) ≡ true)
    (sym c.self.view_is) (c.requires.fits f.source) in
    let kept : IsKept s (Flow st) = packet-kept s f.source p st source ports
    (ap (λ (k : FlowHead). k.input) head) (ap (λ (k : FlowHead). k.output) head)
    c.stage_packet-staged.ensures.header c.stage_packet-staged.ensures.vlan fits in
    push-kept (record x { flows = with_item x.flows i g }) (Flow st) c.push_back.new.self
    (flow-kept x i f g inv at c.take.ensures.source) free
    (c.push_back.ensures.items ∙ pushed items (Flow st) x.stage.capacity free) kept

pub returns-in-Passed-clause-stands : goal.returns-in-Passed-clause-stands
returns-in-Passed-clause-stands c = λ b k h e.
    let x = c.self.inside in
    let i : ℕ = c.args.place in
    let s : SubAgentState = sub_agent_state x in
    let f : FlowSource = c.index_mut-flow.result.now in
    let g : FlowSource = c.take.new.self in
    let p : Packet = c.args.packet.now in
    let at = at-place x c.args.self.now i f c.self.view_is c.requires.place c.index_mut-flow.ensures.value in
    subst (λ (z : FlowSource). StandsFor (with_flow s i g s.stage) (with_event (Observe (flow_setup z) (packet_of p)) b))
    (same-flow x c.args.self.now i f k c.self.view_is at e)
    (passed-stands s b i f g p (not c.is_full-has_place.result) c.take.result
    (subst (λ (v : SubAgentState). StandsFor v b) (sym c.self.view_is) h) c.self.invariant.flows_distinct at
    c.self.invariant.within (ap not c.is_full-has_place.ensures) c.take.ensures.setup c.take.ensures.counts
    c.take.ensures.taken c.in-Passed.is)

pub returns-in-Passed-clause-seen : goal.returns-in-Passed-clause-seen
returns-in-Passed-clause-seen c = λ b k h e.
    let x = c.self.inside in
    let i : ℕ = c.args.place in
    let s : SubAgentState = sub_agent_state x in
    let f : FlowSource = c.index_mut-flow.result.now in
    let g : FlowSource = c.take.new.self in
    let p : Packet = c.args.packet.now in
    let at = at-place x c.args.self.now i f c.self.view_is c.requires.place c.index_mut-flow.ensures.value in
    subst (λ (z : FlowSource). seen.Passed ≡ seen_by (flow_setup z) b)
    (same-flow x c.args.self.now i f k c.self.view_is at e)
    (passed-seen s b i f g p (not c.is_full-has_place.result) c.take.result
    (subst (λ (v : SubAgentState). StandsFor v b) (sym c.self.view_is) h) c.self.invariant.flows_distinct at
    c.self.invariant.within (ap not c.is_full-has_place.ensures) c.take.ensures.setup c.take.ensures.counts
    c.take.ensures.taken c.in-Passed.is)

pub returns-in-Dropped-clause-stands : goal.returns-in-Dropped-clause-stands
returns-in-Dropped-clause-stands c = λ b k h e.
    let x = c.self.inside in
    let i : ℕ = c.args.place in
    let s : SubAgentState = sub_agent_state x in
    let f : FlowSource = c.index_mut-flow.result.now in
    let g : FlowSource = c.take.new.self in
    let p : Packet = c.args.packet.now in
    let at = at-place x c.args.self.now i f c.self.view_is c.requires.place c.index_mut-flow.ensures.value in
    subst (λ (z : FlowSource). StandsFor (with_flow s i g s.stage) (with_event (Observe (flow_setup z) (packet_of p)) b))
    (same-flow x c.args.self.now i f k c.self.view_is at e)
    (dropped-stands s b i f g p (not c.is_full-has_place.result) c.take.result
    (subst (λ (v : SubAgentState). StandsFor v b) (sym c.self.view_is) h) c.self.invariant.flows_distinct at
    c.self.invariant.within (ap not c.is_full-has_place.ensures) c.take.ensures.setup c.take.ensures.counts
    c.take.ensures.taken c.in-Dropped.is)

pub returns-in-Dropped-clause-seen : goal.returns-in-Dropped-clause-seen
returns-in-Dropped-clause-seen c = λ b k h e.
    let x = c.self.inside in
    let i : ℕ = c.args.place in
    let s : SubAgentState = sub_agent_state x in
    let f : FlowSource = c.index_mut-flow.result.now in
    let g : FlowSource = c.take.new.self in
    let p : Packet = c.args.packet.now in
    let at = at-place x c.args.self.now i f c.self.view_is c.requires.place c.index_mut-flow.ensures.value in
    subst (λ (z : FlowSource). seen.Dropped ≡ seen_by (flow_setup z) b)
    (same-flow x c.args.self.now i f k c.self.view_is at e)
    (dropped-seen s b i f g p (not c.is_full-has_place.result) c.take.result
    (subst (λ (v : SubAgentState). StandsFor v b) (sym c.self.view_is) h) c.self.invariant.flows_distinct at
    c.self.invariant.within (ap not c.is_full-has_place.ensures) c.take.ensures.setup c.take.ensures.counts
    c.take.ensures.taken c.in-Dropped.is)

pub returns-in-Issued-clause-stands : goal.returns-in-Issued-clause-stands
returns-in-Issued-clause-stands c = λ b k h e.
    let x = c.self.inside in
    let i : ℕ = c.args.place in
    let s : SubAgentState = sub_agent_state x in
    let f : FlowSource = c.index_mut-flow.result.now in
    let g : FlowSource = c.take.new.self in
    let p : Packet = c.args.packet.now in
    let st : StagedFlow = c.stage_packet-staged.result in
    let items : List Staged = x.stage.items in
    let at = at-place x c.args.self.now i f c.self.view_is c.requires.place c.index_mut-flow.ensures.value in
    let issued : is_issued c.take.result ≡ true = ap (λ (r : Taken). is_issued r) c.in-Issued.is in
    let free : length items < x.stage.capacity =
    free-place (length items) x.stage.capacity (not c.is_full-has_place.result) c.self.invariant.within
    (ap not c.is_full-has_place.ensures) (c.take.ensures.place issued) in
    let stage : c.push_back.new.self ≡ buffer (items ++ Flow st ∷ []) x.stage.capacity =
    c.push_back.ensures.items ∙ pushed items (Flow st) x.stage.capacity free in
    let is : IsStagedOf f c.in-Issued.marks p st = record {
      head = c.stage_packet-staged.ensures.head;
      frame_length = c.stage_packet-staged.ensures.frame_length;
      vlan = c.stage_packet-staged.ensures.vlan;
      header = c.stage_packet-staged.ensures.header;
    } in
    subst (λ (z : FlowSource). StandsFor (with_flow s i g c.push_back.new.self) (with_event (Observe (flow_setup z) (packet_of p)) b))
    (same-flow x c.args.self.now i f k c.self.view_is at e)
    (subst (λ (z : Buffer Staged). StandsFor (with_flow s i g z) (with_event (Observe (flow_setup f) (packet_of p)) b)) (sym stage)
    (issued-stands s b i f g p (not c.is_full-has_place.result) c.take.result
    (subst (λ (v : SubAgentState). StandsFor v b) (sym c.self.view_is) h) c.self.invariant.flows_distinct at
    c.self.invariant.within (ap not c.is_full-has_place.ensures) c.take.ensures.setup c.take.ensures.counts
    c.take.ensures.taken c.in-Issued.marks st c.in-Issued.is is))

pub returns-in-Issued-clause-seen : goal.returns-in-Issued-clause-seen
returns-in-Issued-clause-seen c = λ b k h e.
    let x = c.self.inside in
    let i : ℕ = c.args.place in
    let s : SubAgentState = sub_agent_state x in
    let f : FlowSource = c.index_mut-flow.result.now in
    let g : FlowSource = c.take.new.self in
    let p : Packet = c.args.packet.now in
    let at = at-place x c.args.self.now i f c.self.view_is c.requires.place c.index_mut-flow.ensures.value in
    subst (λ (z : FlowSource). seen.Issued c.in-Issued.marks.next ≡ seen_by (flow_setup z) b)
    (same-flow x c.args.self.now i f k c.self.view_is at e)
    (issued-seen s b i f g p (not c.is_full-has_place.result) c.take.result
    (subst (λ (v : SubAgentState). StandsFor v b) (sym c.self.view_is) h) c.self.invariant.flows_distinct at
    c.self.invariant.within (ap not c.is_full-has_place.ensures) c.take.ensures.setup c.take.ensures.counts
    c.take.ensures.taken c.in-Issued.marks c.in-Issued.is)
