use Rattle.std.proofs.Common.{rules, ◌≡◌, ◌+◌, ◌-◌, ◌*◌, not, refl, sym, ◌∙◌, ap, arith}
use Rattle.late_window.specs.Distances.{count_below}
use Rattle.late_window.specs.Ring.{bit_of_slot}
use Rattle.late_window.proofs.Tallies.{count-bound, count-zero}
use Rattle.late_window.proofs.RingBits.{missing-word, missing-words}
use Rattle.late_window.proofs.ring.Ring.missing_in_words.Goals as goal

pub loop-word-init : goal.loop-word-init
loop-word-init c =
    let none : (c.args.first - c.args.first) * 64 ≡ 0 = omega arith in
    rw none (sym (count-zero (λ s. not (bit_of_slot c.args.self.now.words (c.args.first * 64 + s)))))

pub overflow_add-missing : goal.overflow_add-missing
overflow_add-missing c =
    let more = missing-word c.args.self.now.words c.args.first c.loop-word.word c.loop-word.missing _ c.loop-word.auto.word
    (search rules) c.loop-word.invariant refl in
    let few = count-bound (λ s. not (bit_of_slot c.args.self.now.words (c.args.first * 64 + s)))
    ((c.loop-word.word + 1 - c.args.first) * 64) in
    omega (arith, more, few, c.requires, c.loop-word-test.true)

pub loop-word-preserved : goal.loop-word-preserved
loop-word-preserved c = missing-word c.args.self.now.words c.args.first c.loop-word.word c.loop-word.missing _
    c.loop-word.auto.word (search rules) c.loop-word.invariant refl

pub returns : goal.returns
returns c =
    let end : (c.loop-word.word - c.args.first) * 64 ≡ c.args.count * 64 =
    omega (arith, c.loop-word.auto.word-end, c.loop-word-test.false) in
    c.loop-word.invariant ∙ ap (count_below (λ s. not (bit_of_slot c.args.self.now.words (c.args.first * 64 + s)))) end
    ∙ missing-words c.args.self.now.words c.args.first c.args.count
