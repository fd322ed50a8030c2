use Rattle.std.proofs.Common.{[], refl, ap, sym, subst, ◌∙◌, ◌++◌}
use Rattle.books_spec.specs.declared.limits.Limits.{Limits}
use Rattle.datagram_links.specs.Links.{listening}
use Rattle.flow_collector.specs.Collectors.{StandsFor}
use Rattle.relay_out.specs.Lines.{relay_text}
use Rattle.sflow_tool.specs.Relays.{lacks_memory, not_listening}
use Rattle.sflow_tool.proofs.CollectRuns.{failed_fed, failed_run, none_at_listen, none_at_memory, not_heard, reported_fed, reported_run}
use Rattle.sflow_tool.proofs.Items.{stands_so}
use Rattle.sflow_tool.proofs.LinkRuns.{collect_lacks}
use Rattle.sflow_tool.proofs.RelayRuns.{served_all, served_some}
use Rattle.sflow_tool.proofs.relay.relay.Goals as goal

pub relay_turns-requires-clause-stands : goal.relay_turns-requires-clause-stands
relay_turns-requires-clause-stands g c =
    subst (λ (l : Limits). StandsFor c.in-Ok.collector.books l []) (sym c.in-Ok.ensures.stands.limits_are) c.in-Ok.ensures.stands

pub returns-in_default-clause-runs : goal.returns-in_default-clause-runs
returns-in_default-clause-runs g c = λ source. collect_lacks _ _ _

pub returns-in_default-clause-fed : goal.returns-in_default-clause-fed
returns-in_default-clause-fed g c = none_at_memory _ _ _ refl

pub returns-in_default-clause-relayed : goal.returns-in_default-clause-relayed
returns-in_default-clause-relayed g c = lacks_memory refl refl refl

pub returns-in_default-new_room-clause-runs : goal.returns-in_default-new_room-clause-runs
returns-in_default-new_room-clause-runs g c = λ source. collect_lacks _ _ _

pub returns-in_default-new_room-clause-fed : goal.returns-in_default-new_room-clause-fed
returns-in_default-new_room-clause-fed g c = none_at_memory _ _ _ refl

pub returns-in_default-new_room-clause-relayed : goal.returns-in_default-new_room-clause-relayed
returns-in_default-new_room-clause-relayed g c = lacks_memory refl refl refl

pub returns-in_default-listen-clause-runs : goal.returns-in_default-listen-clause-runs
returns-in_default-listen-clause-runs g c = λ source. not_heard _ _ _ _ _ _ _ c.in_default-listen.ensures

pub returns-in_default-listen-clause-fed : goal.returns-in_default-listen-clause-fed
returns-in_default-listen-clause-fed g c = none_at_listen _ _ _ _ refl c.in_default-listen.ensures

pub returns-in_default-listen-clause-relayed : goal.returns-in_default-listen-clause-relayed
returns-in_default-listen-clause-relayed g c = not_listening refl c.in_default-listen.ensures refl refl

pub returns-in-Ok-relay_turns-clause-runs : goal.returns-in-Ok-relay_turns-clause-runs
returns-in-Ok-relay_turns-clause-runs g c = λ source.
    let took = c.in-Ok-relay_turns.ensures.took in
    reported_run _ _ _ _ _ _ _ _ c.args.asked.now c.in-Ok.ensures.stands.limits_are _ _ _
    (c.in-Ok-listen.ensures ∙ ap (λ place. listening place (g.L.Link.seen c.args.link.now)) c.text.ensures)
    (λ text. text ++ relay_text c.args.routes.now c.relay_turns.new.receivers.progress) source _ _ _ _ _ c.new-page.ensures _
    (record { entries = took.entries; came = took.came; were = took.were.0; link_is = took.link_is }) c.finish.ensures

pub returns-in-Ok-relay_turns-clause-fed : goal.returns-in-Ok-relay_turns-clause-fed
returns-in-Ok-relay_turns-clause-fed g c =
    let took = c.in-Ok-relay_turns.ensures.took in
    reported_fed _ _ _ _ _ _ _ _ c.args.asked.now c.in-Ok.ensures.stands.limits_are _ _ _
    (c.in-Ok-listen.ensures ∙ ap (λ place. listening place (g.L.Link.seen c.args.link.now)) c.text.ensures)
    (λ text. text ++ relay_text c.args.routes.now c.relay_turns.new.receivers.progress) _ _ _ _ _
    (record { entries = took.entries; came = took.came; were = took.were.0; link_is = took.link_is }) c.finish.ensures

pub returns-in-Ok-relay_turns-clause-relayed : goal.returns-in-Ok-relay_turns-clause-relayed
returns-in-Ok-relay_turns-clause-relayed g c =
    let took = c.in-Ok-relay_turns.ensures.took in
    served_all _ c.args.routes.now _ _ _ _ _ c.args.asked.now c.in-Ok.ensures.stands.limits_are _ _ _
    (c.in-Ok-listen.ensures ∙ ap (λ place. listening place (g.L.Link.seen c.args.link.now)) c.text.ensures)
    _ _ _ _ (record { entries = took.entries; came = took.came; were = took.were.1; link_is = took.link_is })
    (c.finish.ensures _ _ (stands_so _ _ _ _ _ _ _ _ _ took.were.0))

pub returns-clause-runs : goal.returns-clause-runs
returns-clause-runs g c = λ source.
    let took = c.in-Err.ensures.took in
    failed_run _ _ _ _ _ _ _ _ c.args.asked.now c.in-Ok.ensures.stands.limits_are _ _ _
    (c.in-Ok-listen.ensures ∙ ap (λ place. listening place (g.L.Link.seen c.args.link.now)) c.text.ensures)
    _ source _ _ _ (record { count = took.count; fewer = took.fewer; entries = took.entries; came = took.came; were = took.were.0; link_is = took.link_is })

pub returns-clause-fed : goal.returns-clause-fed
returns-clause-fed g c =
    let took = c.in-Err.ensures.took in
    failed_fed _ _ _ _ _ _ _ _ c.args.asked.now c.in-Ok.ensures.stands.limits_are _ _ _
    (c.in-Ok-listen.ensures ∙ ap (λ place. listening place (g.L.Link.seen c.args.link.now)) c.text.ensures)
    (record { count = took.count; fewer = took.fewer; entries = took.entries; came = took.came; were = took.were.0; link_is = took.link_is })

pub returns-clause-relayed : goal.returns-clause-relayed
returns-clause-relayed g c =
    let took = c.in-Err.ensures.took in
    served_some _ c.args.routes.now _ _ _ _ _ c.args.asked.now c.in-Ok.ensures.stands.limits_are _ _ _
    (c.in-Ok-listen.ensures ∙ ap (λ place. listening place (g.L.Link.seen c.args.link.now)) c.text.ensures)
    (record { count = took.count; fewer = took.fewer; entries = took.entries; came = took.came; were = took.were.1; link_is = took.link_is })
