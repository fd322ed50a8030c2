use Rattle.std.proofs.Common.{◌∙◌, [], refl, sym, subst}
use Rattle.books_spec.specs.declared.limits.Limits.{Limits}
use Rattle.flow_collector.specs.Collectors.{StandsFor}
use Rattle.sflow_tool.specs.MadeLines.{TookRun, TookSome}
use Rattle.sflow_tool.specs.MadeTrials.{lacks_memory}
use Rattle.sflow_tool.proofs.MadeRuns.{none_made}
use Rattle.sflow_tool.proofs.MadeWalk.{all_fed, as_asked, fed_under, made_so, makes_under, some_fed}
use Rattle.sflow_tool.proofs.made_trial.made_trial.Goals as goal

pub take_lines-requires-clause-gave : goal.take_lines-requires-clause-gave
take_lines-requires-clause-gave g c = c.begin-script.ensures.gave c.requires.some c.requires.most

pub take_lines-requires-clause-stands : goal.take_lines-requires-clause-stands
take_lines-requires-clause-stands g c =
    subst (λ (l : Limits). StandsFor c.in-Ok.collector.books l []) (sym c.in-Ok.ensures.stands.limits_are) c.in-Ok.ensures.stands

pub returns-in_default-clause-runs : goal.returns-in_default-clause-runs
returns-in_default-clause-runs g c = λ source link. lacks_memory refl refl refl

pub returns-in_default-clause-fed : goal.returns-in_default-clause-fed
returns-in_default-clause-fed g c = none_made _ _ _ refl

pub returns-in-Ok-take_lines-clause-runs : goal.returns-in-Ok-take_lines-clause-runs
returns-in-Ok-take_lines-clause-runs g c = λ source link.
    makes_under _ _ c.args.interfaces c.args.seed c.args.packets _ _ _ c.in-Ok.ensures.stands.limits_are
    (made_so _ _ _ _ _ _ _ _ c.args.seed c.args.packets c.scripts_are_histories.ensures.entries c.args.interfaces _ c.take_lines.new.run
    (c.take_lines.ensures.limits ∙ c.new-run.ensures.limits ∙ sym c.in-Ok.ensures.stands.limits_are) _ _ _
    (as_asked (TookRun _ _) _ _ _ _ c.begin-script.ensures.seed c.begin-script.ensures.total c.in-Ok-take_lines.ensures.ends)
    c.finish.ensures source link _)

pub returns-in-Ok-take_lines-clause-fed : goal.returns-in-Ok-take_lines-clause-fed
returns-in-Ok-take_lines-clause-fed g c =
    fed_under _ _ _ _ _ _ _ _ _ c.in-Ok.ensures.stands.limits_are
    (all_fed _ _ _ _ _ _ _ _ _ _ c.scripts_are_histories.ensures.entries _ _ c.take_lines.new.run
    (c.take_lines.ensures.limits ∙ c.new-run.ensures.limits ∙ sym c.in-Ok.ensures.stands.limits_are) _ _ _
    (as_asked (TookRun _ _) _ _ _ _ c.begin-script.ensures.seed c.begin-script.ensures.total c.in-Ok-take_lines.ensures.ends)
    c.finish.ensures)

pub returns-clause-runs : goal.returns-clause-runs
returns-clause-runs g c = λ source link. lacks_memory refl refl refl

pub returns-clause-fed : goal.returns-clause-fed
returns-clause-fed g c =
    fed_under _ _ _ _ _ _ _ _ _ c.in-Ok.ensures.stands.limits_are
    (some_fed _ _ _ _ _ _ _ _ _ _ c.scripts_are_histories.ensures.entries
    (as_asked (TookSome _ _) _ _ _ _ c.begin-script.ensures.seed c.begin-script.ensures.total c.in-Err.ensures.ends))
