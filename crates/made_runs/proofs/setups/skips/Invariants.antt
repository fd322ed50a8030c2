use Rattle.std.proofs.Common.{◌≡◌, ◌+◌, map}
use Rattle.trial_spec.specs.Made.{all_drawn, state_after}
use Rattle.made_runs.proofs.setups.skips.Given as goal

abbrev pub invariant-loop-place : goal.invariant-loop-place
invariant-loop-place l = record {
  state : l.draws.state ≡ state_after l.place l.fn.seed;
  numbers : l.numbers.items ≡ map (λ k. 1 + k) (all_drawn l.place 19 l.fn.seed);
}
