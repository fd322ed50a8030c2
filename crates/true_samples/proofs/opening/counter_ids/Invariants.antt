use Rattle.std.proofs.Common.{◌≡◌, map, take}
use Rattle.agent_setups.specs.declared.setup.CounterSetup.{CounterSetup}
use Rattle.true_samples.proofs.opening.counter_ids.Given as goal

abbrev pub invariant-loop-counter : goal.invariant-loop-counter
invariant-loop-counter l = l.ids.items ≡ map (λ (k : CounterSetup). k.source) (take l.counter-index l.counters)
