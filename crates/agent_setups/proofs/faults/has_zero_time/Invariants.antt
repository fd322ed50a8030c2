-- Those so far aren't 0: those that are left decide.
use Rattle.std.proofs.Common.{◌≡◌, drop}
use Rattle.agent_setups.specs.Faults.{has_zero_time}
use Rattle.agent_setups.proofs.faults.has_zero_time.Given as goal

abbrev pub invariant-loop-counter : goal.invariant-loop-counter
invariant-loop-counter l = has_zero_time (drop l.counter-index l.counters) ≡ has_zero_time l.counters
