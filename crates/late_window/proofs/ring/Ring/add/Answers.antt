use Rattle.std.proofs.Common.{rules}
use Rattle.late_window.proofs.RingBits.{below-added}
use Rattle.late_window.proofs.ring.Ring.add.Goals as goal

pub returns-clause-added : goal.returns-clause-added
returns-clause-added c = λ k within. below-added c.args.self.now.words c.args.self.now.slots c.args.self.now.head
    c.args.back c.slot-slot.result k (search rules) c.args.self.now.in_words c.args.self.now.in_ring c.requires within
    c.slot-slot.ensures.value
