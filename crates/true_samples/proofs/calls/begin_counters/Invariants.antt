use Rattle.std.proofs.Common.{◌≡◌, ◌++◌, map, take, drop}
use Rattle.true_samples.specs.Moves.{counter_anew}
use Rattle.true_samples.proofs.calls.begin_counters.Given as goal

abbrev pub invariant-loop-place : goal.invariant-loop-place
invariant-loop-place l =
    l.counters ≡ map (counter_anew 1) (take l.place l.initial.counters) ++ drop l.place l.initial.counters
