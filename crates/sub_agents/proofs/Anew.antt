-- What a sub-agent stands for once a source, or all of it, began anew.
use Rattle.std.proofs.Common.{◌≡◌, ◌≢◌, ℕ, ◌+◌, inl, inr, List, [], ◌∷◌, ◌++◌, map, set, refl, sym, ap, subst, ◌∙◌}
use Rattle.std.specs.Prelude.{slice_get}
use Rattle.std.specs.List.{AllByRecursion}
use Rattle.std.specs.declared.option.Option.TheVariants.{Some}
use Rattle.circular_buffer.specs.Buffer.{buffer}
use Rattle.agent_spec.specs.Sources as spec
use Rattle.agent_spec.specs.Samples.{Setup}
use Rattle.agent_spec.specs.Events.{Event, Reset}
use Rattle.agent_spec.specs.Boots.{IsAmong, HasSource}
use Rattle.agent_sampler.specs.Following as flows
use Rattle.agent_sampler.proofs.Follows as sampled
use Rattle.agent_poller.specs.Following as polls
use Rattle.agent_poller.specs.Polling.{PollerState}
use Rattle.agent_poller.proofs.Follows as polled
use Rattle.sub_agents.specs.declared.sources.FlowSource.{FlowSource}
use Rattle.sub_agents.specs.Setups.{flow_source, counter_source}
use Rattle.sub_agents.specs.Counts.{flow_setup, counter_setup, HasCounts, HasPolls, flow_sources, polled_sources}
use Rattle.agent_setups.specs.Ids.{AreDistinct}
use Rattle.sub_agents.specs.SubAgents.{SubAgentState, setup_of, BootSoFar, with_event, next_boot, StandsFor}
use Rattle.sub_agents.proofs.Lists.{each-set, each-map, map-set, among-get}
use Rattle.sub_agents.proofs.Observed.{other-flow, other-counter, with_flow, same-setup}

among-left : {X : Type 0} (x : X) (xs ys : List X) → IsAmong x xs → IsAmong x (xs ++ ys)
among-left x [] ys h = absurd h
among-left x (z ∷ more) ys (inl e) = inl e
among-left x (z ∷ more) ys (inr h) = inr (among-left x more ys h)

among-right : {X : Type 0} (x : X) (xs ys : List X) → IsAmong x ys → IsAmong x (xs ++ ys)
among-right x [] ys h = h
among-right x (z ∷ more) ys h = inr (among-right x more ys h)

-- a source of flow samples began anew
pub flow-reset : (s : SubAgentState) (b : BootSoFar) (place : ℕ) (f g : FlowSource)
    → StandsFor s b → AreDistinct (flow_sources s.flows) → slice_get s.flows place ≡ Some f
    → flow_setup g ≡ flow_setup f → HasCounts flows.none_yet g
    → StandsFor (with_flow s place g s.stage) (with_event (Reset (flow_source f.source)) b)
flow-reset s b place f g h apart at same counts =
    let e : Event = Reset (flow_source f.source) in
    let C : FlowSource → Type 0 = λ z. HasCounts (flows.counts_after b.setup (flow_source z.source) b.events) z in
    let D : FlowSource → Type 0 = λ z. HasCounts (flows.counts_after b.setup (flow_source z.source) (e ∷ b.events)) z in
    let to : (z : FlowSource) → z.source ≢ f.source → C z → D z =
    λ z d c. subst (λ (k : flows.FlowCounts). HasCounts k z)
    (sym (sampled.other-reset-counts b.setup (flow_source z.source) (flow_source f.source) b.events (other-flow z.source f.source d))) c in
    let source_same : flow_source g.source ≡ flow_source f.source = ap (λ (k : spec.FlowSetup). k.source) same in
    let mine : D g =
    subst (λ (k : spec.Source). HasCounts (flows.counts_after b.setup k (e ∷ b.events)) g) (sym source_same)
    (subst (λ (k : flows.FlowCounts). HasCounts k g) (sym (sampled.reset-counts b.setup (flow_source f.source) b.events)) counts) in
    let Q : PollerState → Type 0 = λ z. HasPolls (polls.counts_after b.setup (counter_source z.source) b.events) z in
    let R : PollerState → Type 0 = λ z. HasPolls (polls.counts_after b.setup (counter_source z.source) (e ∷ b.events)) z in
    let still : (z : PollerState) → Q z → R z =
    λ z c. subst (λ (k : polls.PollCounts). HasPolls k z)
    (sym (polled.other-reset-counts b.setup (counter_source z.source) (flow_source f.source) b.events refl)) c in
    let source : HasSource (setup_of s) (flow_source f.source) =
    among-left (flow_source f.source) (map (λ (k : spec.FlowSetup). k.source) (map flow_setup s.flows))
    (map (λ (k : spec.CounterSetup). k.source) (map counter_setup s.pollers))
    (among-map s.flows (among-get flow_setup s.flows place f at)) in
    record {
      sender = h.sender;
      setup = same-setup s place f g s.stage at same refl ∙ h.setup;
      number = h.number;
      lawful = (subst (λ (k : Setup). HasSource k (flow_source f.source)) h.setup source, h.lawful);
      counts = record {
        flows = each-set (λ (z : FlowSource). z.source) C D s.flows place f g apart h.counts.flows at to mine;
        pollers = each-map Q R s.pollers still h.counts.pollers;
        staged = h.counts.staged;
        numbered = h.counts.numbered;
      };
    }
  where
    among-map : (fs : List FlowSource) → IsAmong (flow_setup f) (map flow_setup fs)
        → IsAmong (flow_source f.source) (map (λ (k : spec.FlowSetup). k.source) (map flow_setup fs))
    among-map [] i = absurd i
    among-map (z ∷ more) (inl e) = inl (ap (λ (k : spec.FlowSetup). k.source) e)
    among-map (z ∷ more) (inr i) = inr (among-map more i)

-- the sub-agent with another poller at a place
abbrev pub with_poller : SubAgentState → ℕ → PollerState → SubAgentState
with_poller s place p = record s { pollers = set s.pollers place p }

-- a source of counters samples began anew
pub counter-reset : (s : SubAgentState) (b : BootSoFar) (place : ℕ) (p q : PollerState)
    → StandsFor s b → AreDistinct (polled_sources s.pollers) → slice_get s.pollers place ≡ Some p
    → counter_setup q ≡ counter_setup p → HasPolls polls.none_yet q
    → StandsFor (with_poller s place q) (with_event (Reset (counter_source p.source)) b)
counter-reset s b place p q h apart at same counts =
    let e : Event = Reset (counter_source p.source) in
    let C : FlowSource → Type 0 = λ z. HasCounts (flows.counts_after b.setup (flow_source z.source) b.events) z in
    let D : FlowSource → Type 0 = λ z. HasCounts (flows.counts_after b.setup (flow_source z.source) (e ∷ b.events)) z in
    let still : (z : FlowSource) → C z → D z =
    λ z c. subst (λ (k : flows.FlowCounts). HasCounts k z)
    (sym (sampled.other-reset-counts b.setup (flow_source z.source) (counter_source p.source) b.events refl)) c in
    let Q : PollerState → Type 0 = λ z. HasPolls (polls.counts_after b.setup (counter_source z.source) b.events) z in
    let R : PollerState → Type 0 = λ z. HasPolls (polls.counts_after b.setup (counter_source z.source) (e ∷ b.events)) z in
    let to : (z : PollerState) → z.source ≢ p.source → Q z → R z =
    λ z d c. subst (λ (k : polls.PollCounts). HasPolls k z)
    (sym (polled.other-reset-counts b.setup (counter_source z.source) (counter_source p.source) b.events (other-counter z.source p.source d))) c in
    let source_same : counter_source q.source ≡ counter_source p.source = ap (λ (k : spec.CounterSetup). k.source) same in
    let mine : R q =
    subst (λ (k : spec.Source). HasPolls (polls.counts_after b.setup k (e ∷ b.events)) q) (sym source_same)
    (subst (λ (k : polls.PollCounts). HasPolls k q) (sym (polled.reset-counts b.setup (counter_source p.source) b.events)) counts) in
    let setups : map counter_setup (set s.pollers place q) ≡ map counter_setup s.pollers =
    map-set counter_setup s.pollers place p q at same in
    let source : HasSource (setup_of s) (counter_source p.source) =
    among-right (counter_source p.source) (map (λ (k : spec.FlowSetup). k.source) (map flow_setup s.flows))
    (map (λ (k : spec.CounterSetup). k.source) (map counter_setup s.pollers))
    (among-map s.pollers (among-get counter_setup s.pollers place p at)) in
    record {
      sender = h.sender;
      setup = (λ i. record (setup_of s) { counters = setups i }) ∙ h.setup;
      number = h.number;
      lawful = (subst (λ (k : Setup). HasSource k (counter_source p.source)) h.setup source, h.lawful);
      counts = record {
        flows = each-map C D s.flows still h.counts.flows;
        pollers = each-set (λ (z : PollerState). z.source) Q R s.pollers place p q apart h.counts.pollers at to mine;
        staged = h.counts.staged;
        numbered = h.counts.numbered;
      };
    }
  where
    among-map : (ps : List PollerState) → IsAmong (counter_setup p) (map counter_setup ps)
        → IsAmong (counter_source p.source) (map (λ (k : spec.CounterSetup). k.source) (map counter_setup ps))
    among-map [] i = absurd i
    among-map (z ∷ more) (inl e) = inl (ap (λ (k : spec.CounterSetup). k.source) e)
    among-map (z ∷ more) (inr i) = inr (among-map more i)

-- all of it began anew
pub restarted : (s : SubAgentState) (b : BootSoFar) (fs : List FlowSource) (ps : List PollerState) → StandsFor s b
    → map flow_setup fs ≡ map flow_setup s.flows → map counter_setup ps ≡ map counter_setup s.pollers
    → AllByRecursion (HasCounts flows.none_yet) fs → AllByRecursion (HasPolls polls.none_yet) ps
    → StandsFor (record s { flows = fs; pollers = ps; stage = buffer [] s.stage.capacity; boot = 1 + s.boot; numbered = 0 })
    (next_boot b)
restarted s b fs ps h setups counters no_counts no_polls = record {
  sender = h.sender;
  setup = (λ i. record (setup_of s) { flows = setups i; counters = counters i }) ∙ h.setup;
  number = ap (λ (n : ℕ). 1 + n) h.number;
  lawful = tt;
  counts = record {
    flows = each-map (HasCounts flows.none_yet)
        (λ z. HasCounts (flows.counts_after b.setup (flow_source z.source) []) z) fs (λ z c. c) no_counts;
    pollers = each-map (HasPolls polls.none_yet)
        (λ z. HasPolls (polls.counts_after b.setup (counter_source z.source) []) z) ps (λ z c. c) no_polls;
    staged = refl;
    numbered = refl;
  };
}
