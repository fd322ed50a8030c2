use Rattle.std.proofs.Common.{◌≡◌, ◌∙◌, ℕ, List, Some, length, reverse, ap, arith, refl, slice_get}
use Rattle.std.proofs.lemmas.List.{take_all}
use Rattle.script_spec.specs.Agents.{subs_in}
use Rattle.true_samples.specs.States.{TrueState}
use Rattle.sflow_tool.proofs.TrueSteps.{read_at}
use Rattle.sflow_tool.proofs.TrueStands.{same_many, sub_of_true}
use Rattle.sflow_tool.proofs.TrueTotals.{all_counted, counted, did, within}
use Rattle.sflow_tool.proofs.trues.Trues.totals.Goals as goal

pub loop-sub-preserved : goal.loop-sub-preserved
loop-sub-preserved c = λ lines lawful many h.
    let k : ℕ = c.loop-sub.sub-index in
    let t : TrueState = c.sub-item.result in
    let items : List TrueState = c.deref-sub-items.result.now in
    let same : items ≡ c.args.self.now = c.deref-sub-items.ensures.value ∙ c.self.view_is in
    let there : slice_get c.args.self.now k ≡ Some t =
    read_at items c.args.self.now k t same c.loop-sub-test.true c.sub-item.is in
    let s = sub_of_true lines c.args.self.now (reverse (subs_in lines)) k t h there in
    let few = within c.args.self.now lines k h many (omega (arith, c.loop-sub-test.true, ap length same)) in
    counted c.loop-sub.totals c.totals-sub.result _ lines k s.0 few s.1 (c.loop-sub.invariant lines lawful many h)
    (did c.totals-sub.result lines t s.0 many s.2 c.totals-sub.ensures.most (c.totals-sub.ensures.datagrams _ _ _ _ s.2)
    (c.totals-sub.ensures.issued _ _ _ _ s.2) (c.totals-sub.ensures.dropped _ _ _ _ s.2)) refl refl refl

pub returns : goal.returns
returns c = λ lines lawful many h.
    let items : List TrueState = c.deref-sub-items.result.now in
    let same : items ≡ c.args.self.now = c.deref-sub-items.ensures.value ∙ c.self.view_is in
    all_counted c.loop-sub.totals lines c.loop-sub.sub-index
    (take_all c.loop-sub.sub-index (reverse (subs_in lines))
    (omega (arith, c.loop-sub-test.false, ap length same, same_many lines c.args.self.now (reverse (subs_in lines)) h)))
    (c.loop-sub.invariant lines lawful many h)
