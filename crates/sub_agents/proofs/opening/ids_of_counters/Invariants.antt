-- The sources so far.
use Rattle.std.proofs.Common.{◌≡◌, take}
use Rattle.agent_setups.specs.Faults.{polled_ids}
use Rattle.sub_agents.proofs.opening.ids_of_counters.Given as goal

abbrev pub invariant-loop-counter : goal.invariant-loop-counter
invariant-loop-counter l = l.ids.items ≡ polled_ids (take l.counter-index l.counters)
