-- Those so far are small enough: those that are left decide.
use Rattle.std.proofs.Common.{◌≡◌, drop}
use Rattle.agent_setups.specs.Ids.{has_great_class}
use Rattle.agent_setups.proofs.ids.has_great_class.Given as goal

abbrev pub invariant-loop-id : goal.invariant-loop-id
invariant-loop-id l = has_great_class (drop l.id-index l.ids) ≡ has_great_class l.ids
