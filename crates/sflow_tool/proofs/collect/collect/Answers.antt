use Rattle.std.proofs.Common.{[], refl, ap, sym, subst, ◌∙◌}
use Rattle.books_spec.specs.declared.limits.Limits.{Limits}
use Rattle.datagram_links.specs.Links.{listening}
use Rattle.flow_collector.specs.Collectors.{StandsFor}
use Rattle.sflow_tool.proofs.CollectRuns.{failed_fed, failed_run, none_at_listen, none_at_memory, not_heard, reported_fed, reported_run}
use Rattle.sflow_tool.proofs.LinkRuns.{collect_lacks}
use Rattle.sflow_tool.proofs.collect.collect.Goals as goal

pub receive_turns-requires-clause-stands : goal.receive_turns-requires-clause-stands
receive_turns-requires-clause-stands g c =
    subst (λ (l : Limits). StandsFor c.in-Ok.collector.books l []) (sym c.in-Ok.ensures.stands.limits_are) c.in-Ok.ensures.stands

pub returns-in_default-clause-runs : goal.returns-in_default-clause-runs
returns-in_default-clause-runs g c = λ source. collect_lacks _ _ _

pub returns-in_default-clause-fed : goal.returns-in_default-clause-fed
returns-in_default-clause-fed g c = none_at_memory _ _ _ refl

pub returns-in_default-new_room-clause-runs : goal.returns-in_default-new_room-clause-runs
returns-in_default-new_room-clause-runs g c = λ source. collect_lacks _ _ _

pub returns-in_default-new_room-clause-fed : goal.returns-in_default-new_room-clause-fed
returns-in_default-new_room-clause-fed g c = none_at_memory _ _ _ refl

pub returns-in_default-listen-clause-runs : goal.returns-in_default-listen-clause-runs
returns-in_default-listen-clause-runs g c = λ source. not_heard _ _ _ _ _ _ _ c.in_default-listen.ensures

pub returns-in_default-listen-clause-fed : goal.returns-in_default-listen-clause-fed
returns-in_default-listen-clause-fed g c = none_at_listen _ _ _ _ refl c.in_default-listen.ensures

pub returns-in-Ok-receive_turns-clause-runs : goal.returns-in-Ok-receive_turns-clause-runs
returns-in-Ok-receive_turns-clause-runs g c = λ source.
    reported_run _ _ _ _ _ _ _ _ c.args.asked.now c.in-Ok.ensures.stands.limits_are _ _ _
    (c.in-Ok-listen.ensures ∙ ap (λ place. listening place (g.L.Link.seen c.args.link.now)) c.text.ensures)
    (λ text. text) source _ _ _ _ _ c.new-page.ensures _ c.in-Ok-receive_turns.ensures.took c.finish.ensures

pub returns-in-Ok-receive_turns-clause-fed : goal.returns-in-Ok-receive_turns-clause-fed
returns-in-Ok-receive_turns-clause-fed g c =
    reported_fed _ _ _ _ _ _ _ _ c.args.asked.now c.in-Ok.ensures.stands.limits_are _ _ _
    (c.in-Ok-listen.ensures ∙ ap (λ place. listening place (g.L.Link.seen c.args.link.now)) c.text.ensures)
    (λ text. text) _ _ _ _ _ c.in-Ok-receive_turns.ensures.took c.finish.ensures

pub returns-clause-runs : goal.returns-clause-runs
returns-clause-runs g c = λ source.
    failed_run _ _ _ _ _ _ _ _ c.args.asked.now c.in-Ok.ensures.stands.limits_are _ _ _
    (c.in-Ok-listen.ensures ∙ ap (λ place. listening place (g.L.Link.seen c.args.link.now)) c.text.ensures)
    _ source _ _ _ c.in-Err.ensures.took

pub returns-clause-fed : goal.returns-clause-fed
returns-clause-fed g c =
    failed_fed _ _ _ _ _ _ _ _ c.args.asked.now c.in-Ok.ensures.stands.limits_are _ _ _
    (c.in-Ok-listen.ensures ∙ ap (λ place. listening place (g.L.Link.seen c.args.link.now)) c.text.ensures)
    c.in-Err.ensures.took
