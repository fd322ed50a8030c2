use Rattle.std.proofs.Common.{◌≡◌, ◌≤◌, ◌+◌, ◌-◌, ℕ, length}
use Rattle.trial_premises.specs.ByIndex.{kept}
use Rattle.trial_premises.proofs.by_index.ByIndex.reserve.Given as goal

abbrev pub invariant-loop-self : goal.invariant-loop-self
invariant-loop-self g l =
    ((i : ℕ) → kept l.self.slots.items i ≡ kept l.initial.self.slots.items i)
    × (length l.initial.self.slots.items ≤ length l.self.slots.items)

abbrev pub decreases-loop-self : goal.decreases-loop-self
decreases-loop-self g l = l.index + 1 - length l.self.slots.items
