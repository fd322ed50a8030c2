-- None of those so far stands twice: those that are left decide.
use Rattle.std.proofs.Common.{◌≡◌, drop}
use Rattle.agent_setups.specs.Ids.{has_twice}
use Rattle.agent_setups.proofs.ids.has_twice.Given as goal

abbrev pub invariant-loop-place : goal.invariant-loop-place
invariant-loop-place l = has_twice (drop l.place l.ids) ≡ has_twice l.ids
