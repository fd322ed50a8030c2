use Rattle.std.proofs.Common.{◌≡◌, ℕ, ◌-◌, ◌<◌, ◌≤◌, ◌&&◌}
use Rattle.std.specs.Prelude.{nat_le}
use Rattle.late_window.specs.Ring.{bit_below}
use Rattle.late_window.proofs.ring.Ring.advance.Given as goal

abbrev pub invariant-loop-left : goal.invariant-loop-left
invariant-loop-left l = (l.left ≤ l.step) × (l.self.slots ≡ l.fn.self.slots)
    × ((k : ℕ) → k < l.fn.self.slots → bit_below l.self.words l.self.slots l.self.head k
    ≡ (nat_le (l.step - l.left) k && bit_below l.fn.self.words l.fn.self.slots l.fn.self.head (k - (l.step - l.left))))

abbrev pub decreases-loop-left : goal.decreases-loop-left
decreases-loop-left l = l.left
