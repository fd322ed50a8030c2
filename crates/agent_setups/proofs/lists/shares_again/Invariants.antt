-- Those so far have others: those that are left decide.
use Rattle.std.proofs.Common.{◌≡◌, drop}
use Rattle.std.specs.List.{list_any}
use Rattle.agent_setups.specs.Lists.{shares_source}
use Rattle.agent_setups.proofs.lists.shares_again.Given as goal

abbrev pub invariant-loop-other : goal.invariant-loop-other
invariant-loop-other l = list_any (shares_source l.setup) (drop l.other-index l.others) ≡ list_any (shares_source l.setup) l.others
