-- None of those so far shares a source: those that are left decide.
use Rattle.std.proofs.Common.{◌≡◌, drop}
use Rattle.agent_setups.specs.Lists.{shares_source, some_two}
use Rattle.agent_setups.proofs.lists.has_source_twice.Given as goal

abbrev pub invariant-loop-place : goal.invariant-loop-place
invariant-loop-place l = some_two shares_source (drop l.place l.setups) ≡ some_two shares_source l.setups
