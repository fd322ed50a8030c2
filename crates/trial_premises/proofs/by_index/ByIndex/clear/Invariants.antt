use Rattle.std.proofs.Common.{◌≡◌, ◌<◌, ℕ, None, length}
use Rattle.trial_premises.specs.ByIndex.{kept}
use Rattle.trial_premises.proofs.by_index.ByIndex.clear.Given as goal

abbrev pub invariant-loop-index : goal.invariant-loop-index
invariant-loop-index g l = (length l.self.slots.items ≡ length l.initial.self.slots.items)
    × ((k : ℕ) → k < l.index → kept l.self.slots.items k ≡ None)
