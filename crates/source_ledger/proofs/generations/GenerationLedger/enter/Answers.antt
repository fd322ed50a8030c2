use Rattle.std.proofs.Common.{◌+◌, ◌<◌, ◌≤◌, length, subst, arith}
use Rattle.source_ledger.specs.Numbers.{NumbersState}
use Rattle.source_ledger.proofs.NumberSteps.{first-of-boot, next-generation, same-generation, earlier-generation}
use Rattle.source_ledger.proofs.generations.GenerationLedger.enter.Goals as goal

pub returns-then-boot-self-clause-stands : goal.returns-then-boot-self-clause-stands
returns-then-boot-self-clause-stands c = λ x current closed is_at is_mark number st.
    let B : NumbersState → Type 0 = λ s. s.boot < c.args.boot in
    let later : c.self.inside.boot < c.args.boot = omega (arith, c.if-boot-self.true) in
    (first-of-boot c.args.self.now c.begin.new.self c.args.boot c.args.at c.args.mark x current closed
    c.begin.result is_at is_mark number (subst B c.self.view_is later) st c.begin.ensures.opens).stands

pub returns-in-Next-clause-stands : goal.returns-in-Next-clause-stands
returns-in-Next-clause-stands c = λ x current closed is_at is_mark number st.
    let last : length closed + 1 ≤ c.self.inside.boot = omega (arith, number, c.if-boot-self.false) in
    let B : NumbersState → Type 0 = λ s. length closed + 1 ≤ s.boot in
    (next-generation c.args.self.now c.begin_next.new.self c.args.at c.args.mark x current closed c.begin_next.result
    is_at is_mark (subst B c.self.view_is last) st c.in-Next.ensures c.begin_next.ensures.opens).stands

pub returns-in-Current-clause-stands : goal.returns-in-Current-clause-stands
returns-in-Current-clause-stands c = λ x current closed is_at is_mark number st.
    let last : length closed + 1 ≤ c.self.inside.boot = omega (arith, number, c.if-boot-self.false) in
    let B : NumbersState → Type 0 = λ s. length closed + 1 ≤ s.boot in
    (same-generation c.args.self.now c.go_on.new.self c.args.at c.args.mark x current closed c.go_on.result
    is_at is_mark (subst B c.self.view_is last) st c.in-Current.ensures c.go_on.ensures.goes_on).stands

pub returns-in-Stale-clause-stands : goal.returns-in-Stale-clause-stands
returns-in-Stale-clause-stands c = λ x current closed is_at is_mark number st.
    let last : length closed + 1 ≤ c.self.inside.boot = omega (arith, number, c.if-boot-self.false) in
    let B : NumbersState → Type 0 = λ s. length closed + 1 ≤ s.boot in
    (earlier-generation c.args.self.now c.pass.new.self c.args.at c.args.mark x current closed c.pass.result
    is_at is_mark (subst B c.self.view_is last) st c.in-Stale.ensures c.pass.ensures.passes c.pass.ensures.answer).stands

pub returns-then-boot-self-clause-answer : goal.returns-then-boot-self-clause-answer
returns-then-boot-self-clause-answer c = λ x current closed is_at is_mark number st.
    let B : NumbersState → Type 0 = λ s. s.boot < c.args.boot in
    let later : c.self.inside.boot < c.args.boot = omega (arith, c.if-boot-self.true) in
    (first-of-boot c.args.self.now c.begin.new.self c.args.boot c.args.at c.args.mark x current closed
    c.begin.result is_at is_mark number (subst B c.self.view_is later) st c.begin.ensures.opens).answered

pub returns-in-Next-clause-answer : goal.returns-in-Next-clause-answer
returns-in-Next-clause-answer c = λ x current closed is_at is_mark number st.
    let last : length closed + 1 ≤ c.self.inside.boot = omega (arith, number, c.if-boot-self.false) in
    let B : NumbersState → Type 0 = λ s. length closed + 1 ≤ s.boot in
    (next-generation c.args.self.now c.begin_next.new.self c.args.at c.args.mark x current closed c.begin_next.result
    is_at is_mark (subst B c.self.view_is last) st c.in-Next.ensures c.begin_next.ensures.opens).answered

pub returns-in-Current-clause-answer : goal.returns-in-Current-clause-answer
returns-in-Current-clause-answer c = λ x current closed is_at is_mark number st.
    let last : length closed + 1 ≤ c.self.inside.boot = omega (arith, number, c.if-boot-self.false) in
    let B : NumbersState → Type 0 = λ s. length closed + 1 ≤ s.boot in
    (same-generation c.args.self.now c.go_on.new.self c.args.at c.args.mark x current closed c.go_on.result
    is_at is_mark (subst B c.self.view_is last) st c.in-Current.ensures c.go_on.ensures.goes_on).answered

pub returns-in-Stale-clause-answer : goal.returns-in-Stale-clause-answer
returns-in-Stale-clause-answer c = λ x current closed is_at is_mark number st.
    let last : length closed + 1 ≤ c.self.inside.boot = omega (arith, number, c.if-boot-self.false) in
    let B : NumbersState → Type 0 = λ s. length closed + 1 ≤ s.boot in
    (earlier-generation c.args.self.now c.pass.new.self c.args.at c.args.mark x current closed c.pass.result
    is_at is_mark (subst B c.self.view_is last) st c.in-Stale.ensures c.pass.ensures.passes c.pass.ensures.answer).answered
