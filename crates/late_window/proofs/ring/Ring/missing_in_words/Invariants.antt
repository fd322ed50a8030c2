use Rattle.std.proofs.Common.{◌≡◌, ◌+◌, ◌-◌, ◌*◌, not}
use Rattle.late_window.specs.Distances.{count_below}
use Rattle.late_window.specs.Ring.{bit_of_slot}
use Rattle.late_window.proofs.ring.Ring.missing_in_words.Given as goal

abbrev pub invariant-loop-word : goal.invariant-loop-word
invariant-loop-word l =
    l.missing ≡ count_below (λ s. not (bit_of_slot l.self.words (l.first * 64 + s))) ((l.word - l.first) * 64)
