-- Those so far are small enough: those that are left decide.
use Rattle.std.proofs.Common.{◌≡◌, drop}
use Rattle.agent_setups.specs.Lists.{form_for}
use Rattle.agent_setups.proofs.lists.form_for.Given as goal

abbrev pub invariant-loop-setup : goal.invariant-loop-setup
invariant-loop-setup l = form_for (drop l.setup-index l.setups) ≡ form_for l.setups
