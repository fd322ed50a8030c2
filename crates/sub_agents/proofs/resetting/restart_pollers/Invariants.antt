-- Those so far began anew.
use Rattle.std.proofs.Common.{◌≡◌, map, take}
use Rattle.std.specs.List.{AllByRecursion}
use Rattle.agent_poller.specs.Following.{none_yet}
use Rattle.sub_agents.specs.Counts.{counter_setup, polled_sources, HasPolls}
use Rattle.sub_agents.proofs.resetting.restart_pollers.Given as goal

abbrev pub invariant-loop-place : goal.invariant-loop-place
invariant-loop-place l = record {
  setups : map counter_setup l.pollers ≡ map counter_setup l.initial.pollers;
  sources : polled_sources l.pollers ≡ polled_sources l.initial.pollers;
  counts : AllByRecursion (HasPolls none_yet) (take l.place l.pollers);
}
