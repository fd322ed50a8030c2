use Rattle.std.proofs.Common.{◌≡◌, take}
use Rattle.trial_spec.specs.Made.{all_drawn, state_after}
use Rattle.made_runs.proofs.draws.Draws.fill.Given as goal

abbrev pub invariant-loop-place : goal.invariant-loop-place
invariant-loop-place l = record {
  state : l.self.state ≡ state_after l.place l.initial.self.state;
  bytes : take l.place l.bytes ≡ all_drawn l.place 256 l.initial.self.state;
}
