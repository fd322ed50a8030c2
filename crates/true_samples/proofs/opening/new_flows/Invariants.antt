use Rattle.std.proofs.Common.{◌≡◌, map, take}
use Rattle.true_samples.specs.Opening.{flow_begun}
use Rattle.true_samples.proofs.opening.new_flows.Given as goal

abbrev pub invariant-loop-flow : goal.invariant-loop-flow
invariant-loop-flow l = l.counts.items ≡ map flow_begun (take l.flow-index l.flows)
