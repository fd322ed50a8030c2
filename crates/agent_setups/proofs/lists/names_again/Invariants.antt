-- Those so far have others: those that are left decide.
use Rattle.std.proofs.Common.{◌≡◌, drop}
use Rattle.std.specs.List.{list_any}
use Rattle.agent_setups.specs.Lists.{has_same_name}
use Rattle.agent_setups.proofs.lists.names_again.Given as goal

abbrev pub invariant-loop-other : goal.invariant-loop-other
invariant-loop-other l = list_any (has_same_name l.setup) (drop l.other-index l.others) ≡ list_any (has_same_name l.setup) l.others
