-- The sub-agents of the set-ups so far are opened.
use Rattle.std.proofs.Common.{take}
use Rattle.true_samples.specs.Pairs.{Each}
use Rattle.sflow_tool.proofs.TrueSteps.{IsOpened}
use Rattle.sflow_tool.proofs.trues.Trues.open.Given as goal

abbrev pub invariant-loop-setup : goal.invariant-loop-setup
invariant-loop-setup l = Each IsOpened l.subs.items (take l.setup-index l.setups)
