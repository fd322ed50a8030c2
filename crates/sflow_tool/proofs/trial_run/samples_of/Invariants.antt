use Rattle.std.proofs.Common.{◌≡◌, map, take}
use Rattle.sflow_tool.specs.Trials.{true_sample}
use Rattle.sflow_tool.proofs.trial_run.samples_of.Given as goal

abbrev pub invariant-loop-sample : goal.invariant-loop-sample
invariant-loop-sample l = l.taken.items ≡ map true_sample (take l.sample-index l.samples)
