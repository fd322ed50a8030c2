use Rattle.std.proofs.Common.{arith, inl, inr, ◌<◌}
use Rattle.late_window.proofs.RingBits.{IsNext, below-moved}
use Rattle.late_window.proofs.ring.Ring.advance_some.Goals as goal
use Rattle.late_window.proofs.ring.Ring.advance_some.Goals.{then-next-self, else-next-self}

pub returns-clause-moved : goal.returns-clause-moved
returns-clause-moved c = λ k within.
    let inside : c.args.self.now.head < c.args.self.now.slots = c.args.self.now.in_ring in
    let next : IsNext c.args.self.now.slots c.args.self.now.head c.if-next-self.slot = elim c.if-next-self.branch [
      | then-next-self w ↦ inr (w.if-next-self.true, w.slot-is)
      | else-next-self w ↦ inl (omega arith, w.slot-is)
    ] in
    rw c.clear_some-step.ensures.slots
    (below-moved c.args.self.now.words c.clear_some-step.new.self.words c.args.self.now.slots c.args.self.now.head
    c.if-next-self.slot c.clear_some-step.result k inside next c.clear_some-step.ensures.from
    c.clear_some-step.ensures.cleared c.clear_some-step.ensures.others within)
