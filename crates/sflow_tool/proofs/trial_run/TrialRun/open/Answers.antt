use Rattle.std.proofs.Common.{sym, ◌∙◌}
use Rattle.sflow_tool.proofs.TriedLines.{open_now, still_open}
use Rattle.sflow_tool.proofs.trial_run.TrialRun.open.Goals as goal

pub returns-then-is_some-clause-open : goal.returns-then-is_some-clause-open
returns-then-is_some-clause-open c = λ lines stands.
    still_open c.args.self.now lines (sym c.is_some.ensures ∙ c.if-is_some.true) stands

pub returns-clause-open : goal.returns-clause-open
returns-clause-open c = λ lines stands.
    open_now c.args.self.now _ _ c.deref.result.now lines (sym c.is_some.ensures ∙ c.if-is_some.false) stands c.setups.ensures
    c.in_ok-trues.ensures (λ ls trues. c.deref.ensures.value ∙ c.in_ok-sources.ensures ls trues)
    c.in_ok-premises.ensures.stands c.in_ok-premises.ensures.limits
