-- The sources so far.
use Rattle.std.proofs.Common.{◌≡◌, take}
use Rattle.agent_setups.specs.Faults.{sampled_ids}
use Rattle.sub_agents.proofs.opening.ids_of_flows.Given as goal

abbrev pub invariant-loop-flow : goal.invariant-loop-flow
invariant-loop-flow l = l.ids.items ≡ sampled_ids (take l.flow-index l.flows)
