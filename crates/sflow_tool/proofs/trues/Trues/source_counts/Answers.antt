use Rattle.std.proofs.Common.{◌≡◌, ◌∙◌, ◌++◌, ℕ, List, Some, length, map, reverse, ap, arith, slice_get}
use Rattle.std.proofs.lemmas.List.{take_all}
use Rattle.account_spec.specs.Histories.{counter_sources, flow_sources}
use Rattle.script_spec.specs.Agents.{subs_in}
use Rattle.sub_agents.specs.SubAgents.{BootSoFar}
use Rattle.true_samples.specs.States.{TrueState}
use Rattle.sflow_tool.specs.ScriptBoots.{boot_now, boots_now}
use Rattle.sflow_tool.proofs.ScriptBoots.{at_boot}
use Rattle.sflow_tool.proofs.TrueSteps.{read_at}
use Rattle.sflow_tool.proofs.TrueStands.{sub_of_true}
use Rattle.sflow_tool.proofs.TrueTotals.{as_places, boots_long}
use Rattle.sflow_tool.proofs.trues.Trues.source_counts.Goals as goal

abbrev count_in : BootSoFar → ℕ
count_in b = length (flow_sources b.setup ++ counter_sources b.setup)

pub loop-sub-preserved : goal.loop-sub-preserved
loop-sub-preserved c = λ lines h.
    let k : ℕ = c.loop-sub.sub-index in
    let t : TrueState = c.sub-item.result in
    let items : List TrueState = c.deref-sub-items.result.now in
    let same : items ≡ c.args.self.now = c.deref-sub-items.ensures.value ∙ c.self.view_is in
    let there : slice_get c.args.self.now k ≡ Some t =
    read_at items c.args.self.now k t same c.loop-sub-test.true c.sub-item.is in
    let s = sub_of_true lines c.args.self.now (reverse (subs_in lines)) k t h there in
    as_places (boots_now lines) c.loop-sub.counts.items c.push.new.self.items count_in k (boot_now lines s.0)
    c.source_count.result (at_boot lines k s.0 s.1) (c.source_count.ensures _ _ _ _ s.2) (c.loop-sub.invariant lines h) c.in_ok-push.ensures.items

pub returns : goal.returns
returns c = λ lines h.
    let items : List TrueState = c.deref-sub-items.result.now in
    let same : items ≡ c.args.self.now = c.deref-sub-items.ensures.value ∙ c.self.view_is in
    c.loop-sub.invariant lines h
    ∙ ap (map count_in) (take_all c.loop-sub.sub-index (boots_now lines)
    (omega (arith, c.loop-sub-test.false, ap length same, boots_long c.args.self.now lines h)))
