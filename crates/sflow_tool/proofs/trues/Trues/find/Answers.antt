use Rattle.std.proofs.Common.{◌≡◌, Some, length, ap, arith, slice_get}
use Rattle.std.proofs.lemmas.Option.{slice_get_within}
use Rattle.true_samples.specs.States.{TrueState}
use Rattle.sflow_tool.proofs.TrueSteps.{read_at}
use Rattle.sflow_tool.proofs.TrueFinds.{finds, finds_it, if_none, if_some, stands, stands_so}
use Rattle.sflow_tool.proofs.trues.Trues.find.Goals as goal

pub returns-then-place-len-clause-some : goal.returns-then-place-len-clause-some
returns-then-place-len-clause-some c = λ lines line at lawful x h.
    let t : TrueState = c.index.result.now in
    let there : slice_get c.args.self.now c.args.place ≡ Some t =
    read_at c.self.inside.subs.items c.args.self.now c.args.place t c.self.view_is
    (omega (arith, c.if-place-len.true, c.len.ensures)) c.index.ensures in
    let st = stands_so lines line c.args.place c.args.boot c.args.number at lawful x c.args.self.now t h there in
    if_some c.find.result (λ d same. finds lines line c.args.place c.args.boot c.args.number at lawful x d.now same)
    (c.find.ensures.some _ _ _ _ st)

pub returns-then-place-len-clause-none : goal.returns-then-place-len-clause-none
returns-then-place-len-clause-none c = λ lines line at lawful x h.
    let t : TrueState = c.index.result.now in
    let there : slice_get c.args.self.now c.args.place ≡ Some t =
    read_at c.self.inside.subs.items c.args.self.now c.args.place t c.self.view_is
    (omega (arith, c.if-place-len.true, c.len.ensures)) c.index.ensures in
    let st = stands_so lines line c.args.place c.args.boot c.args.number at lawful x c.args.self.now t h there in
    if_none c.find.result (finds_it lines line c.args.place c.args.boot c.args.number at lawful x)
    (c.find.ensures.none _ _ _ _ st)

pub returns-clause-none : goal.returns-clause-none
returns-clause-none c = λ lines line at lawful x h.
    let s = stands lines line c.args.place c.args.boot c.args.number at lawful x c.args.self.now h in
    omega (
      arith,
      slice_get_within c.args.self.now c.args.place s.0 s.1,
      c.if-place-len.false,
      c.len.ensures,
      ap length c.self.view_is,
    )
