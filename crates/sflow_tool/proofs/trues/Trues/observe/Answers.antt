use Rattle.std.proofs.Common.{◌≡◌, ℕ, List, ◌∷◌, length, set, Some, ap, arith, subst, sym, slice_get}
use Rattle.true_samples.specs.States.{TrueState}
use Rattle.sflow_tool.specs.Trues.{TrueOf}
use Rattle.sflow_tool.proofs.TrueSteps.{on_ok, past, read_at, observed}
use Rattle.sflow_tool.proofs.trues.Trues.observe.Goals as goal

pub returns-then-place-len : goal.returns-then-place-len
returns-then-place-len c =
    let old : List TrueState = c.args.self.now in
    let subs : List TrueState = c.self.inside.subs.items in
    let k : ℕ = c.args.place in
    let t : TrueState = c.index_mut.result.now in
    let t' : TrueState = c.observe.new.self in
    let there : slice_get old k ≡ Some t =
    read_at subs old k t c.self.view_is (omega (arith, c.if-place-len.true, c.len.ensures)) c.index_mut.ensures.value in
    on_ok c.observe.result c.observe.ensures (λ does lines line lawful few x h.
    subst (λ (l : List TrueState). TrueOf (set l k t') (line ∷ lines)) (sym c.self.view_is)
    (observed old k t t' there lines line lawful few h c.args.source c.args.seen does x))

pub returns : goal.returns
returns c = λ lines line lawful few x h.
    absurd (past c.args.self.now lines c.args.place x.boot h x.happens.there
    (omega (arith, c.if-place-len.false, c.len.ensures, ap length c.self.view_is)))
