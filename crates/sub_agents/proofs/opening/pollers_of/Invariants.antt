-- The pollers so far are those of the set-ups so far.
use Rattle.std.proofs.Common.{◌≡◌, map, take}
use Rattle.std.specs.List.{AllByRecursion}
use Rattle.agent_poller.specs.Following.{none_yet}
use Rattle.sub_agents.specs.Counts.{counter_setup, polled_sources, HasPolls}
use Rattle.agent_setups.specs.Faults.{polled_ids}
use Rattle.sub_agents.specs.Opening.{polled_as}
use Rattle.sub_agents.proofs.opening.pollers_of.Given as goal

abbrev pub invariant-loop-counter : goal.invariant-loop-counter
invariant-loop-counter l = record {
  setups : map counter_setup l.pollers.items ≡ map polled_as (take l.counter-index l.counters);
  sources : polled_sources l.pollers.items ≡ polled_ids (take l.counter-index l.counters);
  counts : AllByRecursion (HasPolls none_yet) l.pollers.items;
}
