use Rattle.std.proofs.Common.{◌≡◌, ◌+◌, ◌/◌, arith}
use Rattle.late_window.proofs.RingBits.{zeroed-cleared, zeroed-others}
use Rattle.late_window.proofs.ring.Ring.clear_words.Goals as goal

pub returns-clause-cleared : goal.returns-clause-cleared
returns-clause-cleared c = λ s from to.
    let end : c.loop-word.word ≡ c.args.slot / 64 + c.min-count.result =
    omega (arith, c.loop-word.auto.word-end, c.loop-word-test.false) in
    zeroed-cleared c.args.self.now.words c.loop-word.self.words c.args.slot c.min-count.result s c.requires.whole
    (rw end at c.loop-word.invariant.2) from to

pub returns-clause-others : goal.returns-clause-others
returns-clause-others c = λ s out.
    let end : c.loop-word.word ≡ c.args.slot / 64 + c.min-count.result =
    omega (arith, c.loop-word.auto.word-end, c.loop-word-test.false) in
    zeroed-others c.args.self.now.words c.loop-word.self.words c.args.slot c.min-count.result s c.requires.whole
    (rw end at c.loop-word.invariant.2) out
