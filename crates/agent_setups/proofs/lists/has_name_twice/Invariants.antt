-- None of those so far has the name of another: those that are left decide.
use Rattle.std.proofs.Common.{◌≡◌, drop}
use Rattle.agent_setups.specs.Lists.{has_same_name, some_two}
use Rattle.agent_setups.proofs.lists.has_name_twice.Given as goal

abbrev pub invariant-loop-place : goal.invariant-loop-place
invariant-loop-place l = some_two has_same_name (drop l.place l.setups) ≡ some_two has_same_name l.setups
