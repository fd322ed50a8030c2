-- The sources so far are those of the set-ups so far.
use Rattle.std.proofs.Common.{◌≡◌, map}
use Rattle.std.specs.List.{AllByRecursion}
use Rattle.agent_sampler.specs.Following.{none_yet}
use Rattle.sub_agents.specs.Counts.{flow_setup, flow_sources, HasCounts}
use Rattle.agent_setups.specs.Faults.{sampled_ids}
use Rattle.sub_agents.specs.Opening.{sampled_as}
use Rattle.sub_agents.proofs.opening.sources_of.Given as goal

abbrev pub invariant-loop-flow : goal.invariant-loop-flow
invariant-loop-flow l = record {
  setups : map flow_setup l.sources.items ≡ map sampled_as l.yielded;
  sources : flow_sources l.sources.items ≡ sampled_ids l.yielded;
  counts : AllByRecursion (HasCounts none_yet) l.sources.items;
}
