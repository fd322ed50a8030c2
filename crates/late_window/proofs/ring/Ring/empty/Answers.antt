use Rattle.late_window.specs.Ring.{slot_below}
use Rattle.late_window.specs.declared.ring.TheConstants.{WORDS}
use Rattle.late_window.proofs.RingBits.{zero-bits}
use Rattle.late_window.proofs.ring.Ring.empty.Goals as goal

pub returns-clause-none : goal.returns-clause-none
returns-clause-none c = λ k within. zero-bits WORDS (slot_below _ 0 k)
