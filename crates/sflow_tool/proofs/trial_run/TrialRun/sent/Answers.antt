use Rattle.std.proofs.Common.{None, sym}
use Rattle.sflow_tool.proofs.SentCounts.{at_first, none_sent, not_setting, tried_as}
use Rattle.sflow_tool.proofs.trial_run.TrialRun.sent.Goals as goal

pub returns-in-Some-clause-of_first : goal.returns-in-Some-clause-of_first
returns-in-Some-clause-of_first c = λ lines s stands only.
    c.sent_count.ensures.some lines s (at_first lines s only) (tried_as c.args.self.now _ lines c.in-Some.is stands).0.trues

pub returns-in-Some-clause-setting_up : goal.returns-in-Some-clause-setting_up
returns-in-Some-clause-setting_up c = λ lines stands all.
    absurd (not_setting c.args.self.now.limits _ lines (tried_as c.args.self.now _ lines c.in-Some.is stands) all)

pub returns-in-None-clause-of_first : goal.returns-in-None-clause-of_first
returns-in-None-clause-of_first c = λ lines s stands only.
    sym (none_sent lines s (tried_as c.args.self.now None lines c.in-None.is stands))
