use Rattle.std.proofs.Common.{◌≡◌, ℕ, List, ◌∷◌, length, set, Some, ap, arith, subst, sym, slice_get}
use Rattle.true_samples.specs.States.{TrueState}
use Rattle.sflow_tool.specs.Trues.{TrueOf}
use Rattle.sflow_tool.proofs.TrueSteps.{past, read_at, was_reset}
use Rattle.sflow_tool.proofs.trues.Trues.reset.Goals as goal

pub returns-then-place-len : goal.returns-then-place-len
returns-then-place-len c = λ lines line lawful few x h.
    let old : List TrueState = c.args.self.now in
    let subs : List TrueState = c.self.inside.subs.items in
    let k : ℕ = c.args.place in
    let t : TrueState = c.index_mut.result.now in
    let t' : TrueState = c.reset.new.self in
    let there : slice_get old k ≡ Some t =
    read_at subs old k t c.self.view_is (omega (arith, c.if-place-len.true, c.len.ensures)) c.index_mut.ensures.value in
    subst (λ (l : List TrueState). TrueOf (set l k t') (line ∷ lines)) (sym c.self.view_is)
    (was_reset old k t t' there lines line lawful few h c.args.flow c.args.source c.reset.ensures x)

pub returns-else-place-len : goal.returns-else-place-len
returns-else-place-len c = λ lines line lawful few x h.
    absurd (past c.args.self.now lines c.args.place x.boot h x.happens.there
    (omega (arith, c.if-place-len.false, c.len.ensures, ap length c.self.view_is)))
