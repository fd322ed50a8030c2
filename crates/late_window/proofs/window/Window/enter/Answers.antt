use Rattle.std.proofs.Common.{◌≡◌, ◌<◌, ℤ, to_z, of_z, arith, sym, ℕ, ◌∙◌, ap, subst}
use Rattle.std.specs.Int.{w128}
use Rattle.std.proofs.lemmas.Int.{ints}
use Rattle.count_spec.specs.Windows.{near}
use Rattle.late_window.specs.States.{WindowState, is_recent}
use Rattle.late_window.specs.Steps.{IsBeside}
use Rattle.late_window.specs.declared.side.Side.{Side}
use Rattle.late_window.specs.declared.side.Side.TheVariants.{Above, Below}
use Rattle.late_window.proofs.Recent.{recent-held}
use Rattle.late_window.proofs.Standing.{enters-advanced, enters-late, enters-repeat, enters-extended, enters-filled}
use Rattle.late_window.proofs.window.Window.enter.Goals as goal

-- the side of the mark's number, of the newest number as the fields have it
beside : (side found : Side) (newest : ℤ) (mark : ℕ) → to_z w128 (of_z w128 newest) ≡ newest
    → IsBeside side (to_z w128 (of_z w128 newest)) (near mark (to_z w128 (of_z w128 newest))) → side ≡ found
    → IsBeside found newest (near mark newest)
beside side found newest mark same h e =
    subst (λ (s : Side). IsBeside s newest (near mark newest)) e
    (subst (λ (n : ℤ). IsBeside side n (near mark n)) same h)

pub fill-requires-clause-new : goal.fill-requires-clause-new
fill-requires-clause-new c =
    ap (λ (s : WindowState). is_recent s c.in-Below.back) (sym c.self.view_is)
    ∙ recent-held c.self.inside c.in-Below.back c.if-back-self.false ∙ sym c.has.ensures ∙ c.if-has.false

pub returns-in-Above-clause-stands : goal.returns-in-Above-clause-stands
returns-in-Above-clause-stands c =
    let same : to_z w128 (of_z w128 c.self.inside.newest) ≡ c.self.inside.newest = omega (arith, ints) in
    let some : 0 < c.self.inside.received = omega arith in
    let at = beside c.side_of.result (Above c.in-Above.step) c.self.inside.newest c.args.mark same c.side_of.ensures
    c.in-Above.is in
    (enters-advanced c.self.inside c.args.self.now c.advance.new.self c.args.mark c.in-Above.step c.self.view_is some at
    c.advance.ensures.advances).stands

pub returns-in-Above-clause-answer : goal.returns-in-Above-clause-answer
returns-in-Above-clause-answer c = λ marks st.
    let same : to_z w128 (of_z w128 c.self.inside.newest) ≡ c.self.inside.newest = omega (arith, ints) in
    let some : 0 < c.self.inside.received = omega arith in
    let at = beside c.side_of.result (Above c.in-Above.step) c.self.inside.newest c.args.mark same c.side_of.ensures
    c.in-Above.is in
    c.advance.ensures.answer
    ∙ (enters-advanced c.self.inside c.args.self.now c.advance.new.self c.args.mark c.in-Above.step c.self.view_is some at
    c.advance.ensures.advances).answers marks st

pub returns-in-Below-clause-stands : goal.returns-in-Below-clause-stands
returns-in-Below-clause-stands c =
    let same : to_z w128 (of_z w128 c.self.inside.newest) ≡ c.self.inside.newest = omega (arith, ints) in
    let some : 0 < c.self.inside.received = omega arith in
    let at = beside c.side_of.result (Below c.in-Below.back) c.self.inside.newest c.args.mark same c.side_of.ensures
    c.in-Below.is in
    (enters-late c.self.inside c.args.self.now c.pass.new.self c.args.mark c.in-Below.back c.self.view_is some at c.if-back-self.true
    c.pass.ensures.passes).stands

pub returns-in-Below-clause-answer : goal.returns-in-Below-clause-answer
returns-in-Below-clause-answer c = λ marks st.
    let same : to_z w128 (of_z w128 c.self.inside.newest) ≡ c.self.inside.newest = omega (arith, ints) in
    let some : 0 < c.self.inside.received = omega arith in
    let at = beside c.side_of.result (Below c.in-Below.back) c.self.inside.newest c.args.mark same c.side_of.ensures
    c.in-Below.is in
    c.pass.ensures.answer
    ∙ (enters-late c.self.inside c.args.self.now c.pass.new.self c.args.mark c.in-Below.back c.self.view_is some at c.if-back-self.true
    c.pass.ensures.passes).answers marks st

pub returns-in-Below-2-clause-stands : goal.returns-in-Below-2-clause-stands
returns-in-Below-2-clause-stands c =
    let same : to_z w128 (of_z w128 c.self.inside.newest) ≡ c.self.inside.newest = omega (arith, ints) in
    let some : 0 < c.self.inside.received = omega arith in
    let at = beside c.side_of.result (Below c.in-Below.back) c.self.inside.newest c.args.mark same c.side_of.ensures
    c.in-Below.is in
    (enters-repeat c.self.inside c.args.self.now c.pass-in-Below-2.new.self c.args.mark c.in-Below.back c.self.view_is some at c.if-back-self.false (sym c.has.ensures ∙ c.if-has.true)
    c.pass-in-Below-2.ensures.passes).stands

pub returns-in-Below-2-clause-answer : goal.returns-in-Below-2-clause-answer
returns-in-Below-2-clause-answer c = λ marks st.
    let same : to_z w128 (of_z w128 c.self.inside.newest) ≡ c.self.inside.newest = omega (arith, ints) in
    let some : 0 < c.self.inside.received = omega arith in
    let at = beside c.side_of.result (Below c.in-Below.back) c.self.inside.newest c.args.mark same c.side_of.ensures
    c.in-Below.is in
    c.pass-in-Below-2.ensures.answer
    ∙ (enters-repeat c.self.inside c.args.self.now c.pass-in-Below-2.new.self c.args.mark c.in-Below.back c.self.view_is some at c.if-back-self.false (sym c.has.ensures ∙ c.if-has.true)
    c.pass-in-Below-2.ensures.passes).answers marks st

pub returns-in-Below-3-clause-stands : goal.returns-in-Below-3-clause-stands
returns-in-Below-3-clause-stands c =
    let same : to_z w128 (of_z w128 c.self.inside.newest) ≡ c.self.inside.newest = omega (arith, ints) in
    let some : 0 < c.self.inside.received = omega arith in
    let at = beside c.side_of.result (Below c.in-Below.back) c.self.inside.newest c.args.mark same c.side_of.ensures
    c.in-Below.is in
    (enters-extended c.self.inside c.args.self.now c.extend.new.self c.args.mark c.in-Below.back c.self.view_is some at c.if-back-self.false (sym c.has.ensures ∙ c.if-has.false) c.if-back-self-2.true
    c.extend.ensures.fills).stands

pub returns-in-Below-3-clause-answer : goal.returns-in-Below-3-clause-answer
returns-in-Below-3-clause-answer c = λ marks st.
    let same : to_z w128 (of_z w128 c.self.inside.newest) ≡ c.self.inside.newest = omega (arith, ints) in
    let some : 0 < c.self.inside.received = omega arith in
    let at = beside c.side_of.result (Below c.in-Below.back) c.self.inside.newest c.args.mark same c.side_of.ensures
    c.in-Below.is in
    c.extend.ensures.answer
    ∙ (enters-extended c.self.inside c.args.self.now c.extend.new.self c.args.mark c.in-Below.back c.self.view_is some at c.if-back-self.false (sym c.has.ensures ∙ c.if-has.false) c.if-back-self-2.true
    c.extend.ensures.fills).answers marks st

pub returns-in-Below-4-clause-stands : goal.returns-in-Below-4-clause-stands
returns-in-Below-4-clause-stands c =
    let same : to_z w128 (of_z w128 c.self.inside.newest) ≡ c.self.inside.newest = omega (arith, ints) in
    let some : 0 < c.self.inside.received = omega arith in
    let at = beside c.side_of.result (Below c.in-Below.back) c.self.inside.newest c.args.mark same c.side_of.ensures
    c.in-Below.is in
    (enters-filled c.self.inside c.args.self.now c.fill.new.self c.args.mark c.in-Below.back c.self.view_is some at c.if-back-self.false (sym c.has.ensures ∙ c.if-has.false) c.if-back-self-2.false
    c.fill.ensures.fills).stands

pub returns-in-Below-4-clause-answer : goal.returns-in-Below-4-clause-answer
returns-in-Below-4-clause-answer c = λ marks st.
    let same : to_z w128 (of_z w128 c.self.inside.newest) ≡ c.self.inside.newest = omega (arith, ints) in
    let some : 0 < c.self.inside.received = omega arith in
    let at = beside c.side_of.result (Below c.in-Below.back) c.self.inside.newest c.args.mark same c.side_of.ensures
    c.in-Below.is in
    c.fill.ensures.answer
    ∙ (enters-filled c.self.inside c.args.self.now c.fill.new.self c.args.mark c.in-Below.back c.self.view_is some at c.if-back-self.false (sym c.has.ensures ∙ c.if-has.false) c.if-back-self-2.false
    c.fill.ensures.fills).answers marks st
