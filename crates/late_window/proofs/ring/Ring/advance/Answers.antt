use Rattle.std.proofs.Common.{◌≡◌, ◌+◌, ◌-◌, ◌≤◌, refl, ◌∙◌, arith}
use Rattle.late_window.specs.Ring.{bit_below}
use Rattle.late_window.proofs.RingBits.{moved-more, moved-none}
use Rattle.late_window.proofs.ring.Ring.advance.Goals as goal

pub loop-left-init : goal.loop-left-init
loop-left-init c =
    let none : c.args.step - c.args.step ≡ 0 = omega arith in (
      omega arith,
      refl,
      λ k within. rw none
          (moved-none (bit_below c.args.self.now.words c.args.self.now.slots c.args.self.now.head) k),
    )

pub loop-left-preserved : goal.loop-left-preserved
loop-left-preserved c =
    let order : c.loop-left.left ≤ c.args.step = c.loop-left.invariant.0 in
    let same : c.loop-left.self.slots ≡ c.args.self.now.slots = c.loop-left.invariant.1 in
    let to : c.advance_some-left.result ≤ c.loop-left.left = c.advance_some-left.ensures.to in
    let far : c.args.step - (c.loop-left.left - c.advance_some-left.result)
    ≡ (c.args.step - c.loop-left.left) + c.advance_some-left.result = omega arith in (
      omega arith,
      c.advance_some-left.ensures.slots ∙ same,
      λ k within. rw far
          (moved-more (bit_below c.args.self.now.words c.args.self.now.slots c.args.self.now.head)
          (bit_below c.loop-left.self.words c.loop-left.self.slots c.loop-left.self.head)
          (bit_below c.advance_some-left.new.self.words c.advance_some-left.new.self.slots
          c.advance_some-left.new.self.head)
          c.args.self.now.slots (c.args.step - c.loop-left.left) c.advance_some-left.result k within c.loop-left.invariant.2
          (λ k b. c.advance_some-left.ensures.moved k (omega arith))),
    )

pub returns-clause-moved : goal.returns-clause-moved
returns-clause-moved c = λ k within.
    let all : c.args.step - c.loop-left.left ≡ c.args.step = omega arith in
    rw all at c.loop-left.invariant.2 k within

pub returns-clause-slots : goal.returns-clause-slots
returns-clause-slots c = c.loop-left.invariant.1
