use Rattle.std.proofs.Common.{◌∙◌, [], sym, subst}
use Rattle.books_spec.specs.declared.limits.Limits.{Limits}
use Rattle.flow_collector.specs.Collectors.{StandsFor}
use Rattle.sflow_tool.proofs.Arrived.{none_held, none_tried}
use Rattle.sflow_tool.proofs.Performed.{lacks_between}
use Rattle.sflow_tool.proofs.TrialRuns.{all_fed, fed_under, finished, lacking, lacking_fed, refused, runs_under, some_fed}
use Rattle.sflow_tool.proofs.trial.trial.Goals as goal

pub take_lines-requires-clause-stands : goal.take_lines-requires-clause-stands
take_lines-requires-clause-stands g c =
    subst (λ (l : Limits). StandsFor c.in-Ok.collector.books l []) (sym c.in-Ok.ensures.stands.limits_are) c.in-Ok.ensures.stands

pub returns-in_default-clause-runs : goal.returns-in_default-clause-runs
returns-in_default-clause-runs g c = lacks_between _ _ _

pub returns-in_default-clause-fed : goal.returns-in_default-clause-fed
returns-in_default-clause-fed g c = none_tried _ _ (none_held _ _ _ _)

pub returns-in_default-open-clause-runs : goal.returns-in_default-open-clause-runs
returns-in_default-open-clause-runs g c = lacks_between _ _ _

pub returns-in_default-open-clause-fed : goal.returns-in_default-open-clause-fed
returns-in_default-open-clause-fed g c = none_tried _ _ (none_held _ _ _ _)

pub returns-in-Ok-take_lines-clause-runs : goal.returns-in-Ok-take_lines-clause-runs
returns-in-Ok-take_lines-clause-runs g c =
    runs_under _ _ _ _ _ _ _ c.in-Ok.ensures.stands.limits_are
    (finished _ _ _ _ _ _ _ _ _ _ _ _ _ c.take_lines.new.run
    (c.take_lines.ensures.limits ∙ c.new-run.ensures.limits ∙ sym c.in-Ok.ensures.stands.limits_are) _ _
    c.in-Ok-take_lines.ensures.ends c.finish.ensures c.in-Ok-take_lines.ensures.at_end _ c.in-Ok-take_lines.ensures.cause)

pub returns-in-Ok-take_lines-clause-fed : goal.returns-in-Ok-take_lines-clause-fed
returns-in-Ok-take_lines-clause-fed g c =
    fed_under _ _ _ _ _ _ _ _ _ c.in-Ok.ensures.stands.limits_are
    (all_fed _ _ _ _ _ _ _ _ _ _ _ _ _ c.take_lines.new.run
    (c.take_lines.ensures.limits ∙ c.new-run.ensures.limits ∙ sym c.in-Ok.ensures.stands.limits_are) _ _
    c.in-Ok-take_lines.ensures.ends c.finish.ensures)

pub returns-in-Err-Read-clause-runs : goal.returns-in-Err-Read-clause-runs
returns-in-Err-Read-clause-runs g c =
    let seen = rw c.in-Err-Read.field-0-is at c.in-Err-Read.ensures.ends in
    let cause = rw c.in-Err-Read.field-0-is at c.in-Err-Read.ensures.cause in
    runs_under _ _ _ _ _ _ _ c.in-Ok.ensures.stands.limits_are
    (refused _ _ _ _ _ _ _ _ _ _ _ _ _ _ _ c.status_of.ensures seen cause)

pub returns-in-Err-Read-clause-fed : goal.returns-in-Err-Read-clause-fed
returns-in-Err-Read-clause-fed g c =
    let seen = rw c.in-Err-Read.field-0-is at c.in-Err-Read.ensures.ends in
    fed_under _ _ _ _ _ _ _ _ _ c.in-Ok.ensures.stands.limits_are (some_fed _ _ _ _ _ _ _ _ _ _ _ _ c.status_of.ensures seen)

pub returns-clause-runs : goal.returns-clause-runs
returns-clause-runs g c =
    let seen = rw c.in-Err-Memory.field-0-is at c.in-Err-Memory.ensures.ends in
    let cause = rw c.in-Err-Memory.field-0-is at c.in-Err-Memory.ensures.cause in
    runs_under _ _ _ _ _ _ _ c.in-Ok.ensures.stands.limits_are (lacking _ _ _ _ _ _ _ _ _ _ _ _ _ seen cause)

pub returns-clause-fed : goal.returns-clause-fed
returns-clause-fed g c =
    let seen = rw c.in-Err-Memory.field-0-is at c.in-Err-Memory.ensures.ends in
    fed_under _ _ _ _ _ _ _ _ _ c.in-Ok.ensures.stands.limits_are (lacking_fed _ _ _ _ _ _ _ _ _ _ seen)
