use Rattle.std.proofs.Common.{◌≤◌, ◌-◌, ℕ, [], length}
use Rattle.std.specs.List.{AllByRecursion}
use Rattle.trial_premises.specs.Samples.{SourceState}
use Rattle.trial_premises.specs.Sources.{StandsFor}
use Rattle.trial_premises.proofs.streams.new_sources.Given as goal

abbrev pub invariant-loop-alloc : goal.invariant-loop-alloc
invariant-loop-alloc l =
    AllByRecursion (λ (s : SourceState). (width : ℕ) → StandsFor width 0 s []) l.sources.items
    × (length l.sources.items ≤ l.count)

abbrev pub decreases-loop-alloc : goal.decreases-loop-alloc
decreases-loop-alloc l = l.count - length l.sources.items
