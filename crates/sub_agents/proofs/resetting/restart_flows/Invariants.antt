-- Those so far began anew.
use Rattle.std.proofs.Common.{◌≡◌, map, take}
use Rattle.std.specs.List.{AllByRecursion}
use Rattle.agent_sampler.specs.Following.{none_yet}
use Rattle.sub_agents.specs.Counts.{flow_setup, flow_sources, HasCounts}
use Rattle.sub_agents.proofs.resetting.restart_flows.Given as goal

abbrev pub invariant-loop-place : goal.invariant-loop-place
invariant-loop-place l = record {
  setups : map flow_setup l.flows ≡ map flow_setup l.initial.flows;
  sources : flow_sources l.flows ≡ flow_sources l.initial.flows;
  counts : AllByRecursion (HasCounts none_yet) (take l.place l.flows);
}
