use Rattle.std.proofs.Common.{◌≡◌, ◌+◌, ℕ, List, Some, take, arith, subst, slice_get}
use Rattle.std.proofs.lemmas.List.{take_all}
use Rattle.agent_setups.specs.declared.setup.Setup.{Setup}
use Rattle.true_samples.specs.Pairs.{Each}
use Rattle.sub_agents.proofs.Lists.{read-get}
use Rattle.sflow_tool.proofs.TrueSteps.{IsOpened, next_open, opened}
use Rattle.sflow_tool.proofs.TrueTotals.{take_next}
use Rattle.sflow_tool.proofs.trues.Trues.open.Goals as goal

pub loop-setup-preserved : goal.loop-setup-preserved
loop-setup-preserved c =
    let setups : List Setup = c.args.setups.now in
    let k : ℕ = c.loop-setup.setup-index in
    let u : Setup = c.setup-item.result in
    let there : slice_get setups k ≡ Some u = read-get setups k u c.loop-setup-test.true c.setup-item.is in
    next_open c.loop-setup.subs.items c.push.new.self.items (take k setups) (take (k + 1) setups) c.in_ok-open.field-0 u
    c.loop-setup.invariant c.in_ok-open.ensures c.in_ok-push.ensures.items (take_next setups k u there)

pub returns : goal.returns
returns c = λ lines lawful all said.
    let setups : List Setup = c.args.setups.now in
    opened lines c.loop-setup.subs.items setups lawful all said
    (subst (Each IsOpened c.loop-setup.subs.items)
    (take_all c.loop-setup.setup-index setups (omega (arith, c.loop-setup-test.false))) c.loop-setup.invariant)
