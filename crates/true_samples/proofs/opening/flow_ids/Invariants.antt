use Rattle.std.proofs.Common.{◌≡◌, map, take}
use Rattle.agent_setups.specs.declared.setup.FlowSetup.{FlowSetup}
use Rattle.true_samples.proofs.opening.flow_ids.Given as goal

abbrev pub invariant-loop-flow : goal.invariant-loop-flow
invariant-loop-flow l = l.ids.items ≡ map (λ (k : FlowSetup). k.source) (take l.flow-index l.flows)
