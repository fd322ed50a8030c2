-- Those so far stand in one alone: those that are left decide.
use Rattle.std.proofs.Common.{◌≡◌, drop}
use Rattle.std.specs.List.{list_any}
use Rattle.agent_setups.specs.Lists.{has_source}
use Rattle.agent_setups.specs.declared.setup.CounterSetup.{CounterSetup}
use Rattle.agent_setups.proofs.lists.shares_counter.Given as goal

abbrev pub invariant-loop-counter : goal.invariant-loop-counter
invariant-loop-counter l = list_any (λ (c : CounterSetup). has_source c.source l.setup) (drop l.counter-index l.counters)
    ≡ list_any (λ (c : CounterSetup). has_source c.source l.setup) l.counters
