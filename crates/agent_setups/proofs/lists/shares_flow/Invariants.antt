-- Those so far stand in one alone: those that are left decide.
use Rattle.std.proofs.Common.{◌≡◌, drop}
use Rattle.std.specs.List.{list_any}
use Rattle.agent_setups.specs.Lists.{has_source}
use Rattle.agent_setups.specs.declared.setup.FlowSetup.{FlowSetup}
use Rattle.agent_setups.proofs.lists.shares_flow.Given as goal

abbrev pub invariant-loop-flow : goal.invariant-loop-flow
invariant-loop-flow l = list_any (λ (f : FlowSetup). has_source f.source l.setup) (drop l.flow-index l.flows)
    ≡ list_any (λ (f : FlowSetup). has_source f.source l.setup) l.flows
