use Rattle.std.proofs.Common.{◌≡◌, List, [], ◌∷◌, map, filter, refl, ap, ◌∙◌}
use Rattle.agent_spec.specs.Sources as spec
use Rattle.agent_spec.specs.Samples.{Setup}
use Rattle.agent_spec.specs.Boots.{is_due}
use Rattle.agent_poller.specs.Polling.{PollerState}
use Rattle.sub_agents.specs.declared.sources.FlowSource.{FlowSource}
use Rattle.sub_agents.specs.Counts.{flow_setup, counter_setup, flow_sources, polled_sources}
use Rattle.sub_agents.specs.Polls.{is_due_at}
use Rattle.sub_agents.specs.Setups.{flow_source, counter_source}
use Rattle.sub_agents.specs.SubAgents.{so_far}
use Rattle.sub_agents.proofs.PollSteps.{due-are}
use Rattle.sub_agents.proofs.laws.sources_are_known.Goals as goal

flows-are : (fs : List FlowSource)
    → map flow_source (flow_sources fs) ≡ map (λ (f : spec.FlowSetup). f.source) (map flow_setup fs)
flows-are [] = refl
flows-are (f ∷ more) = ap (λ (l : List spec.Source). flow_source f.source ∷ l) (flows-are more)

polled-are : (ps : List PollerState)
    → map counter_source (polled_sources ps) ≡ map (λ (c : spec.CounterSetup). c.source) (map counter_setup ps)
polled-are [] = refl
polled-are (p ∷ more) = ap (λ (l : List spec.Source). counter_source p.source ∷ l) (polled-are more)

pub returns-clause-flows : goal.returns-clause-flows
returns-clause-flows c = λ s b h.
    flows-are s.flows ∙ ap (λ (k : Setup). map (λ (f : spec.FlowSetup). f.source) k.flows) h.setup

pub returns-clause-counters : goal.returns-clause-counters
returns-clause-counters c = λ s b h.
    polled-are s.pollers ∙ ap (λ (k : Setup). map (λ (p : spec.CounterSetup). p.source) k.counters) h.setup

pub returns-clause-due : goal.returns-clause-due
returns-clause-due c = λ s b now h.
    polled-are (filter (is_due_at now) s.pollers)
    ∙ ap (map (λ (p : spec.CounterSetup). p.source)) (due-are now b.events (so_far b) s.pollers h.counts.pollers
    ∙ ap (λ (k : Setup). filter (is_due now b.events (so_far b)) k.counters) h.setup)
