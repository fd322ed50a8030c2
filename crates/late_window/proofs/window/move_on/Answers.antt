use Rattle.std.proofs.Common.{ℕ, ◌≡◌, not, Bool, ap, ◌∙◌, arith}
use Rattle.std.specs.Prelude.{min}
use Rattle.late_window.specs.Distances.{count_below}
use Rattle.late_window.specs.Ring.{bit_below}
use Rattle.late_window.proofs.Tallies.{count-bound}
use Rattle.late_window.proofs.Pending.{pending-far, pending-near, moved-far, moved-near}
use Rattle.late_window.proofs.window.move_on.Goals as goal

pub returns-then-step-width-clause-pending : goal.returns-then-step-width-clause-pending
returns-then-step-width-clause-pending c =
    let old : ℕ → Bool = bit_below c.args.recent.now.words c.args.recent.now.slots c.args.recent.now.head in
    let new : ℕ → Bool = bit_below c.add.new.self.words c.add.new.self.slots c.add.new.self.head in
    pending-far old new c.args.width c.args.span c.args.step
    (moved-far old (bit_below c.advance.new.self.words c.advance.new.self.slots c.advance.new.self.head) new
    c.args.recent.now.slots c.args.width c.args.step c.if-step-width.true c.requires.room c.advance.ensures.moved
    (λ k b. c.add.ensures.added k (omega (arith, c.advance.ensures.slots))))
    c.requires.width_from c.if-step-width.true

pub overflow_add-result : goal.overflow_add-result
overflow_add-result c =
    let few = count-bound (λ k. not (bit_below c.args.recent.now.words c.args.recent.now.slots c.args.recent.now.head k))
    (min c.args.span c.args.width) in
    let is = c.requires.settled.missing in
    let to = c.requires.width_to in
    omega (arith, few, is, to)

pub overflow_sub-result-3 : goal.overflow_sub-result-3
overflow_sub-result-3 c =
    let old : ℕ → Bool = bit_below c.args.recent.now.words c.args.recent.now.slots c.args.recent.now.head in
    let new : ℕ → Bool = bit_below c.add-2.new.self.words c.add-2.new.self.slots c.add-2.new.self.head in
    let sum = pending-near old new c.args.width c.args.span c.args.step c.min-reach.result c.min-kept.result
    (moved-near old (bit_below c.advance-2.new.self.words c.advance-2.new.self.slots c.advance-2.new.self.head) new
    c.args.recent.now.slots c.args.width c.args.step c.requires.room c.advance-2.ensures.moved
    (λ k b. c.add-2.ensures.added k (omega (arith, c.advance-2.ensures.slots))))
    c.requires.ahead c.if-step-width.false c.min-reach.ensures c.min-kept.ensures in
    let was : c.args.pending ≡ count_below (λ k. not (old k)) c.min-reach.result =
    c.requires.settled.missing ∙ ap (count_below (λ k. not (old k))) (omega arith) in
    let lost = c.missing-lost.ensures in
    omega (arith, sum, was, lost)

pub returns-clause-pending : goal.returns-clause-pending
returns-clause-pending c =
    let old : ℕ → Bool = bit_below c.args.recent.now.words c.args.recent.now.slots c.args.recent.now.head in
    let new : ℕ → Bool = bit_below c.add-2.new.self.words c.add-2.new.self.slots c.add-2.new.self.head in
    let sum = pending-near old new c.args.width c.args.span c.args.step c.min-reach.result c.min-kept.result
    (moved-near old (bit_below c.advance-2.new.self.words c.advance-2.new.self.slots c.advance-2.new.self.head) new
    c.args.recent.now.slots c.args.width c.args.step c.requires.room c.advance-2.ensures.moved
    (λ k b. c.add-2.ensures.added k (omega (arith, c.advance-2.ensures.slots))))
    c.requires.ahead c.if-step-width.false c.min-reach.ensures c.min-kept.ensures in
    let was : c.args.pending ≡ count_below (λ k. not (old k)) c.min-reach.result =
    c.requires.settled.missing ∙ ap (count_below (λ k. not (old k))) (omega arith) in
    let lost = c.missing-lost.ensures in
    omega (arith, sum, was, lost)
