-- Those so far aren't 0: those that are left decide.
use Rattle.std.proofs.Common.{◌≡◌, drop}
use Rattle.agent_setups.specs.Faults.{has_zero_rate}
use Rattle.agent_setups.proofs.faults.has_zero_rate.Given as goal

abbrev pub invariant-loop-flow : goal.invariant-loop-flow
invariant-loop-flow l = has_zero_rate (drop l.flow-index l.flows) ≡ has_zero_rate l.flows
