-- What a sub-agent stands for once a packet was observed.
use Rattle.std.proofs.Common.{◌≡◌, ◌≢◌, ℕ, ◌+◌, inl, inr, Bool, true, false, cond, ◌∷◌, length, map, reverse, set, refl, sym, ap, subst, ◌∙◌}
use Rattle.std.specs.Prelude.{slice_get, nat_lt}
use Rattle.std.proofs.lemmas.Bool.{cases_Bool}
use Rattle.std.specs.declared.option.Option.TheVariants.{Some}
use Rattle.circular_buffer.specs.Buffer.{Buffer}
use Rattle.data_format.specs.declared.source.SourceId.{SourceId}
use Rattle.agent_spec.specs.Sources as spec
use Rattle.agent_spec.specs.Samples.{Packet, Setup}
use Rattle.agent_spec.specs.Events.{Event, Observe, turn_after}
use Rattle.agent_spec.specs.Marks.{is_marked}
use Rattle.agent_spec.specs.Boots.{Boot, IsAmong, after_packet, with_seen, with_dropped, issue, flow_sample, seen_in}
use Rattle.agent_spec.proofs.Keys.{source-eq}
use Rattle.agent_sampler.specs.Following as flows
use Rattle.agent_sampler.proofs.Follows as sampled
use Rattle.agent_poller.specs.Following as polls
use Rattle.agent_poller.specs.Polling.{PollerState}
use Rattle.agent_poller.proofs.Follows as polled
use Rattle.sub_agents.specs.declared.sources.FlowSource.{FlowSource}
use Rattle.sub_agents.specs.declared.staged.Staged.{Staged}
use Rattle.sub_agents.specs.Setups.{form_of, flow_source, counter_source}
use Rattle.sub_agents.specs.Staged.{staged_value, sample_value}
use Rattle.sub_agents.specs.Counts.{flow_setup, HasCounts, HasPolls, flow_sources}
use Rattle.agent_setups.specs.Ids.{AreDistinct}
use Rattle.sub_agents.specs.SubAgents.{SubAgentState, setup_of, BootSoFar, with_event, so_far, StandsFor}
use Rattle.sub_agents.proofs.Lists.{each-set, each-map, map-set, among-get}

-- sources of two indexes or classes are two
pub other-flow : (x y : SourceId) → x ≢ y → spec.same_source (flow_source x) (flow_source y) ≡ false
other-flow x y apart = elim (cases_Bool (spec.same_source (flow_source x) (flow_source y))) [
  | inl same ↦
      let e : flow_source x ≡ flow_source y = source-eq (flow_source x) (flow_source y) same in
      absurd (apart (λ i. record { class = (e i).class; index = (e i).index }))
  | inr other ↦ other
]

pub other-counter : (x y : SourceId) → x ≢ y → spec.same_source (counter_source x) (counter_source y) ≡ false
other-counter x y apart = elim (cases_Bool (spec.same_source (counter_source x) (counter_source y))) [
  | inl same ↦
      let e : counter_source x ≡ counter_source y = source-eq (counter_source x) (counter_source y) same in
      absurd (apart (λ i. record { class = (e i).class; index = (e i).index }))
  | inr other ↦ other
]

-- a packet sends nothing
sent-same : (h : Setup) (f : spec.FlowSetup) (t : spec.Turn) (p : Packet) (b : Boot)
    → (after_packet h f t p b).sent ≡ b.sent
sent-same h f t p b = go (is_marked f.skips (1 + seen_in t b)) (nat_lt (length b.staged) h.stage)
  where
    go : (m r : Bool) → (with_seen t (cond m (cond r (issue (flow_sample f t p b) b) (with_dropped t b)) b)).sent ≡ b.sent
    go true true = refl
    go true false = refl
    go false r = refl

-- what is staged after a packet
pub staged-after : (h : Setup) (f : spec.FlowSetup) (t : spec.Turn) (p : Packet) (b : Boot) (m r : Bool)
    → is_marked f.skips (1 + seen_in t b) ≡ m → nat_lt (length b.staged) h.stage ≡ r
    → (after_packet h f t p b).staged ≡ cond m (cond r (flow_sample f t p b ∷ b.staged) b.staged) b.staged
staged-after h f t p b m r marked place = go (is_marked f.skips (1 + seen_in t b)) (nat_lt (length b.staged) h.stage)
    ∙ ap (λ k. cond k (cond (nat_lt (length b.staged) h.stage) (flow_sample f t p b ∷ b.staged) b.staged) b.staged) marked
    ∙ ap (λ k. cond m (cond k (flow_sample f t p b ∷ b.staged) b.staged) b.staged) place
  where
    go : (m r : Bool) → (with_seen t (cond m (cond r (issue (flow_sample f t p b) b) (with_dropped t b)) b)).staged
        ≡ cond m (cond r (flow_sample f t p b ∷ b.staged) b.staged) b.staged
    go true true = refl
    go true false = refl
    go false r = refl

-- the sub-agent with another source at a place, and this stage
abbrev pub with_flow : SubAgentState → ℕ → FlowSource → Buffer Staged → SubAgentState
with_flow s place g stage = record s { flows = set s.flows place g; stage = stage }

pub same-setup : (s : SubAgentState) (place : ℕ) (f g : FlowSource) (stage : Buffer Staged)
    → slice_get s.flows place ≡ Some f → flow_setup g ≡ flow_setup f → stage.capacity ≡ s.stage.capacity
    → setup_of (with_flow s place g stage) ≡ setup_of s
same-setup s place f g stage at same room =
    let e : map flow_setup (set s.flows place g) ≡ map flow_setup s.flows = map-set flow_setup s.flows place f g at same in
    λ i. record (setup_of s) { flows = e i; stage = room i }

-- the counts of all sources after a packet of one of them
pub observed : (s : SubAgentState) (b : BootSoFar) (place : ℕ) (f g : FlowSource) (stage : Buffer Staged) (p : Packet)
    → StandsFor s b → AreDistinct (flow_sources s.flows) → slice_get s.flows place ≡ Some f
    → flow_setup g ≡ flow_setup f → stage.capacity ≡ s.stage.capacity
    → HasCounts (flows.with_packet (is_marked f.sampler.skips (1 + (flows.counts_after b.setup (flow_source f.source) b.events).packets))
    (flows.has_place b.setup b.events) (flows.counts_after b.setup (flow_source f.source) b.events)) g
    → map (staged_value s.form) stage.items
    ≡ map (sample_value (form_of s.form)) (reverse (so_far (with_event (Observe (flow_setup f) p) b)).staged)
    → StandsFor (with_flow s place g stage) (with_event (Observe (flow_setup f) p) b)
observed s b place f g stage p h apart at same room counts staged =
    let e : Event = Observe (flow_setup f) p in
    let own : spec.Source = flow_source f.source in
    let C : FlowSource → Type 0 = λ z. HasCounts (flows.counts_after b.setup (flow_source z.source) b.events) z in
    let D : FlowSource → Type 0 = λ z. HasCounts (flows.counts_after b.setup (flow_source z.source) (e ∷ b.events)) z in
    let to : (z : FlowSource) → z.source ≢ f.source → C z → D z =
    λ z d c. subst (λ (k : flows.FlowCounts). HasCounts k z)
    (sym (sampled.other-packet-counts b.setup (flow_source z.source) (flow_setup f) p b.events (other-flow z.source f.source d))) c in
    let source_same : flow_source g.source ≡ own = ap (λ (k : spec.FlowSetup). k.source) same in
    let mine : D g =
    subst (λ (k : spec.Source). HasCounts (flows.counts_after b.setup k (e ∷ b.events)) g) (sym source_same)
    (subst (λ (k : flows.FlowCounts). HasCounts k g) (sym (sampled.own-packet-counts b.setup (flow_setup f) p b.events)) counts) in
    let Q : PollerState → Type 0 = λ z. HasPolls (polls.counts_after b.setup (counter_source z.source) b.events) z in
    let R : PollerState → Type 0 = λ z. HasPolls (polls.counts_after b.setup (counter_source z.source) (e ∷ b.events)) z in
    let still : (z : PollerState) → Q z → R z =
    λ z c. subst (λ (k : polls.PollCounts). HasPolls k z)
    (sym (polled.packet-counts b.setup (counter_source z.source) (flow_setup f) p b.events refl)) c in
    record {
      sender = h.sender;
      setup = same-setup s place f g stage at same room ∙ h.setup;
      number = h.number;
      lawful = (
        subst (λ (k : Setup). IsAmong (flow_setup f) k.flows) h.setup (among-get flow_setup s.flows place f at),
        h.lawful,
      );
      counts = record {
        flows = each-set (λ (z : FlowSource). z.source) C D s.flows place f g apart h.counts.flows at to mine;
        pollers = each-map Q R s.pollers still h.counts.pollers;
        staged = staged;
        numbered = h.counts.numbered ∙ sym (ap length (sent-same b.setup (flow_setup f) (turn_after own b.events) p (so_far b)));
      };
    }
