use Rattle.std.proofs.Common.{◌≡◌, ◌++◌, map, take, drop}
use Rattle.true_samples.specs.Moves.{flow_anew}
use Rattle.true_samples.proofs.calls.begin_flows.Given as goal

abbrev pub invariant-loop-place : goal.invariant-loop-place
invariant-loop-place l =
    l.flows ≡ map (flow_anew 1) (take l.place l.initial.flows) ++ drop l.place l.initial.flows
