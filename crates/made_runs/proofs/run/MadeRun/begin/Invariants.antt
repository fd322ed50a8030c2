use Rattle.std.proofs.Common.{◌≡◌}
use Rattle.trial_spec.specs.Made.{state_after}
use Rattle.made_runs.proofs.run.MadeRun.begin.Given as goal

abbrev pub invariant-loop-place : goal.invariant-loop-place
invariant-loop-place l = l.draws.state ≡ state_after l.place l.fn.seed
