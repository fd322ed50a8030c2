-- The sub-agents of the set-ups so far are opened.
use Rattle.std.proofs.Common.{◌≡◌, ◌++◌}
use Rattle.std.specs.Vec.Iter.{into_iter_items}
use Rattle.sub_agents.proofs.OpenRuns.{AreOpened}
use Rattle.sub_agents.proofs.device.open_each.Given as goal

abbrev pub invariant-loop-setup : goal.invariant-loop-setup
invariant-loop-setup l = record {
  opened : AreOpened l.form l.subs.items l.yielded;
  all : l.yielded ++ into_iter_items l.setup-iterator ≡ l.fn.setups.items;
}
