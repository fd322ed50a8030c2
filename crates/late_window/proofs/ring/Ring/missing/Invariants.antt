use Rattle.std.proofs.Common.{◌≡◌, ◌+◌, ◌-◌, ◌≤◌, not}
use Rattle.late_window.specs.Distances.{count_below}
use Rattle.late_window.specs.Ring.{bit_below}
use Rattle.late_window.proofs.ring.Ring.missing.Given as goal

abbrev pub invariant-loop-back : goal.invariant-loop-back
invariant-loop-back l = (l.from ≤ l.back) × (l.back ≤ l.to)
    × (l.missing ≡ count_below (λ k. not (bit_below l.self.words l.self.slots l.self.head (l.from + k))) (l.back - l.from))

abbrev pub decreases-loop-back : goal.decreases-loop-back
decreases-loop-back l = l.to - l.back
