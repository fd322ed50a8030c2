use Rattle.std.proofs.Common.{[], refl, sym, subst}
use Rattle.books_spec.specs.declared.limits.Limits.{Limits}
use Rattle.flow_collector.specs.Collectors.{StandsFor}
use Rattle.command_runs.proofs.Visited.{none_visited}
use Rattle.sflow_tool.proofs.Items.{stands_so}
use Rattle.sflow_tool.proofs.Performed.{lacks_between}
use Rattle.sflow_tool.proofs.ReplayRuns.{all_fed, fed_under, finished, refused, runs_under, some_fed}
use Rattle.sflow_tool.proofs.replay.replay.Goals as goal

pub take_entries-requires-clause-stands : goal.take_entries-requires-clause-stands
take_entries-requires-clause-stands g c =
    subst (λ (l : Limits). StandsFor c.in-Ok.collector.books l []) (sym c.in-Ok.ensures.stands.limits_are) c.in-Ok.ensures.stands

pub returns-in_default-clause-runs : goal.returns-in_default-clause-runs
returns-in_default-clause-runs g c = lacks_between _ _ _

pub returns-in_default-clause-fed : goal.returns-in_default-clause-fed
returns-in_default-clause-fed g c = none_visited _ _ _ refl

pub returns-in_default-open-clause-runs : goal.returns-in_default-open-clause-runs
returns-in_default-open-clause-runs g c = lacks_between _ _ _

pub returns-in_default-open-clause-fed : goal.returns-in_default-open-clause-fed
returns-in_default-open-clause-fed g c = none_visited _ _ _ refl

pub returns-in_default-new_room-clause-runs : goal.returns-in_default-new_room-clause-runs
returns-in_default-new_room-clause-runs g c = lacks_between _ _ _

pub returns-in_default-new_room-clause-fed : goal.returns-in_default-new_room-clause-fed
returns-in_default-new_room-clause-fed g c = none_visited _ _ _ refl

pub returns-in-Ok-take_entries-clause-runs : goal.returns-in-Ok-take_entries-clause-runs
returns-in-Ok-take_entries-clause-runs g c =
    runs_under _ _ _ _ _ _ _ c.in-Ok.ensures.stands.limits_are
    (finished _ _ _ _ _ _ _ _ _ _ _ _ _ _ _ c.new-page.ensures _ c.in-Ok-take_entries.ensures.took
    c.in-Ok-take_entries.ensures.at_end _ c.in-Ok-take_entries.ensures.cause c.finish.ensures)

pub returns-in-Ok-take_entries-clause-fed : goal.returns-in-Ok-take_entries-clause-fed
returns-in-Ok-take_entries-clause-fed g c =
    fed_under _ _ _ _ _ _ _ _ _ c.in-Ok.ensures.stands.limits_are
    (all_fed _ _ _ _ _ _ _ _ _ _ _ _ _ _ c.in-Ok-take_entries.ensures.took
    (c.finish.ensures _ _ (stands_so _ _ _ _ _ _ _ _ _ c.in-Ok-take_entries.ensures.took.were)))

pub returns-clause-runs : goal.returns-clause-runs
returns-clause-runs g c =
    runs_under _ _ _ _ _ _ _ c.in-Ok.ensures.stands.limits_are
    (refused _ _ _ _ _ _ _ _ _ _ _ _ _ _ _ c.status_of.ensures c.in-Err.ensures.took
    c.in-Err.ensures.cause)

pub returns-clause-fed : goal.returns-clause-fed
returns-clause-fed g c =
    fed_under _ _ _ _ _ _ _ _ _ c.in-Ok.ensures.stands.limits_are
    (some_fed _ _ _ _ _ _ _ _ _ _ _ _ c.status_of.ensures c.in-Err.ensures.took)
