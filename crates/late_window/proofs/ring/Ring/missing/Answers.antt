use Rattle.std.proofs.Common.{◌≡◌, ◌+◌, ◌-◌, ◌*◌, ◌/◌, ◌<◌, ◌≤◌, not, cond, Bool, ℕ, ap, sym, ◌∙◌, arith}
use Rattle.late_window.specs.Ring.{bit_below, bit_of_slot}
use Rattle.late_window.proofs.Tallies.{count-bound, count-zero}
use Rattle.late_window.proofs.RingBits.{missing-one, missing-more, missing-down}
use Rattle.late_window.proofs.ring.Ring.missing.Goals as goal

pub loop-back-init : goal.loop-back-init
loop-back-init c =
    let none : c.args.from - c.args.from ≡ 0 = omega arith in (
      omega arith,
      c.requires.order,
      rw none (sym (count-zero
          (λ k. not (bit_below c.args.self.now.words c.args.self.now.slots c.args.self.now.head (c.args.from + k))))),
    )

pub overflow_add-missing : goal.overflow_add-missing
overflow_add-missing c =
    let before = count-bound (λ k. not (bit_below c.args.self.now.words c.args.self.now.slots c.args.self.now.head
    (c.args.from + k))) (c.loop-back.back - c.args.from) in
    let here = count-bound (λ k. not (bit_of_slot c.args.self.now.words
    ((c.slot-slot.result / 64 + 1 - c.min-words.result + c.min-words.result) * 64 - 1 - k))) (c.min-words.result * 64) in
    let is = c.loop-back.invariant.2 in
    let to : c.args.to ≤ c.args.self.now.slots = c.requires.in_ring in
    let room = c.args.self.now.in_words in
    let more = c.missing_in_words-missing.ensures in
    omega (arith, before, here, is, more, to, room)

pub loop-back-preserved-then-left-ge64 : goal.loop-back-preserved-then-left-ge64
loop-back-preserved-then-left-ge64 c =
    let from : c.args.from ≤ c.loop-back.back = c.loop-back.invariant.0 in
    let to : c.args.to ≤ c.args.self.now.slots = c.requires.in_ring in
    let here : c.loop-back.back < c.args.to = c.loop-back-test.true in (
      omega arith,
      omega arith,
      missing-more c.args.self.now.words c.args.self.now.slots c.args.self.now.head c.args.from
          c.loop-back.back c.slot-slot.result (c.min-words.result * 64) c.loop-back.missing c.missing_in_words-missing.result
          from (omega arith) c.slot-slot.ensures.value (omega (arith, c.if-slot-eq63.true)) c.loop-back.invariant.2
          (c.missing_in_words-missing.ensures
          ∙ missing-down c.args.self.now.words c.slot-slot.result c.min-words.result c.if-slot-eq63.true (omega arith)),
    )

pub overflow_add-missing-else-slot-eq63 : goal.overflow_add-missing-else-slot-eq63
overflow_add-missing-else-slot-eq63 c =
    let before = count-bound (λ k. not (bit_below c.args.self.now.words c.args.self.now.slots c.args.self.now.head
    (c.args.from + k))) (c.loop-back.back - c.args.from) in
    let here = count-bound (λ k. not (bit_of_slot c.args.self.now.words (c.slot-slot.result - k))) c.min-count.result in
    let is = c.loop-back.invariant.2 in
    let to : c.args.to ≤ c.args.self.now.slots = c.requires.in_ring in
    let room = c.args.self.now.in_words in
    let more = c.missing_in_word-missing.ensures in
    omega (arith, before, here, is, more, to, room)

pub loop-back-preserved : goal.loop-back-preserved
loop-back-preserved c =
    let from : c.args.from ≤ c.loop-back.back = c.loop-back.invariant.0 in
    let to : c.args.to ≤ c.args.self.now.slots = c.requires.in_ring in
    let here : c.loop-back.back < c.args.to = c.loop-back-test.true in (
      omega arith,
      omega arith,
      missing-more c.args.self.now.words c.args.self.now.slots c.args.self.now.head c.args.from
          c.loop-back.back c.slot-slot.result c.min-count.result c.loop-back.missing c.missing_in_word-missing.result from
          (omega arith) c.slot-slot.ensures.value (omega arith) c.loop-back.invariant.2 c.missing_in_word-missing.ensures,
    )

pub returns-then-has : goal.returns-then-has
returns-then-has c = missing-one (bit_below c.args.self.now.words c.args.self.now.slots c.args.self.now.head) c.args.from
    c.args.to 0 c.if-to-from-eq1.true
    (sym (ap (λ (b : Bool). cond {A = ℕ} b 0 1) (sym c.has.ensures ∙ c.if-has.true)))

pub returns-else-has : goal.returns-else-has
returns-else-has c = missing-one (bit_below c.args.self.now.words c.args.self.now.slots c.args.self.now.head) c.args.from
    c.args.to 1 c.if-to-from-eq1.true
    (sym (ap (λ (b : Bool). cond {A = ℕ} b 0 1) (sym c.has.ensures ∙ c.if-has.false)))
