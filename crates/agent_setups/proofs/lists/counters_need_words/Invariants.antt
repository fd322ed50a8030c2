-- Those so far are small enough: those that are left decide.
use Rattle.std.proofs.Common.{◌≡◌, drop}
use Rattle.agent_setups.specs.Ids.{has_great_index}
use Rattle.agent_setups.specs.Faults.{polled_ids}
use Rattle.agent_setups.proofs.lists.counters_need_words.Given as goal

abbrev pub invariant-loop-counter : goal.invariant-loop-counter
invariant-loop-counter l = has_great_index (polled_ids (drop l.counter-index l.counters)) ≡ has_great_index (polled_ids l.counters)
