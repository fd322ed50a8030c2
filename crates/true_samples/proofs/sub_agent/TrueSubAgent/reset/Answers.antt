use Rattle.std.proofs.Common.{Bool, ◌++◌, ◌∷◌, List, sym, subst}
use Rattle.agent_spec.specs.Samples.{Setup}
use Rattle.agent_spec.specs.Events.{Event, Reset}
use Rattle.agent_spec.specs.Boots.{IsAmong}
use Rattle.agent_spec.specs.Spelled.{Sender}
use Rattle.account_spec.specs.Histories.{flow_sources, counter_sources}
use Rattle.true_samples.specs.Counts.{source_as, IsShort}
use Rattle.true_samples.specs.Standing.{StandsFor}
use Rattle.true_samples.specs.States.{TrueState}
use Rattle.data_format.specs.declared.source.SourceId.{SourceId}
use Rattle.true_samples.proofs.sub_agent.TrueSubAgent.reset.Goals as goal

abbrev Resets : TrueState → TrueState → SourceId → Bool → Type 0
Resets old new id flow = (sender : Sender) (s : Setup) (events : List Event) (earlier : List (List Event))
    → IsAmong (source_as flow id) (flow_sources s ++ counter_sources s) → IsShort s (Reset (source_as flow id) ∷ events)
    → StandsFor sender s old events earlier → StandsFor sender s new (Reset (source_as flow id) ∷ events) earlier

pub returns-then-flow : goal.returns-then-flow
returns-then-flow c = subst (Resets c.args.self.now c.reset_flow.new.self c.args.source) (sym c.if-flow.true) c.reset_flow.ensures

pub returns-else-flow : goal.returns-else-flow
returns-else-flow c =
    subst (Resets c.args.self.now c.reset_counter.new.self c.args.source) (sym c.if-flow.false) c.reset_counter.ensures
