use Rattle.std.proofs.Common.{◌≡◌}
use Rattle.late_window.proofs.RingBits.{Zeroed}
use Rattle.late_window.proofs.ring.Ring.clear_words.Given as goal

abbrev pub invariant-loop-word : goal.invariant-loop-word
invariant-loop-word l = (l.self.slots ≡ l.fn.self.slots) × (l.self.head ≡ l.fn.self.head)
    × Zeroed l.fn.self.words l.self.words l.first l.word
