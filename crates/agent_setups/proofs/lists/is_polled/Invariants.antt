-- Those so far are others: those that are left decide.
use Rattle.std.proofs.Common.{◌≡◌, drop}
use Rattle.agent_setups.specs.Ids.{is_among}
use Rattle.agent_setups.specs.Faults.{polled_ids}
use Rattle.agent_setups.proofs.lists.is_polled.Given as goal

abbrev pub invariant-loop-counter : goal.invariant-loop-counter
invariant-loop-counter l = is_among l.source (polled_ids (drop l.counter-index l.counters)) ≡ is_among l.source (polled_ids l.counters)
