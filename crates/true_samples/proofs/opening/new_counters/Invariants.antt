use Rattle.std.proofs.Common.{◌≡◌, map, take}
use Rattle.true_samples.specs.Opening.{counter_begun}
use Rattle.true_samples.proofs.opening.new_counters.Given as goal

abbrev pub invariant-loop-counter : goal.invariant-loop-counter
invariant-loop-counter l = l.counts.items ≡ map counter_begun (take l.counter-index l.counters)
