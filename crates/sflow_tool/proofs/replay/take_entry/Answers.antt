use Rattle.std.proofs.Common.{◌<◌, length, arith}
use Rattle.std.proofs.lemmas.List.{length-map}
use Rattle.books_spec.specs.Books.{most_entries}
use Rattle.books_spec.specs.SampledHeaders.{item_within, items_within}
use Rattle.flow_collector.proofs.Gathering.{gathered-more, gathered-rejected}
use Rattle.sflow_tool.proofs.Items.{gathered_at}
use Rattle.sflow_tool.proofs.Passes.{agent_answered, no_agent}
use Rattle.sflow_tool.proofs.replay.take_entry.Goals as goal

pub returns-in-Ok-clause-gathers : goal.returns-in-Ok-clause-gathers
returns-in-Ok-clause-gathers g c = λ l items xs few so_far.
    let fewer : length (items_within items) < most_entries = omega (arith, few, length-map items item_within) in
    gathered_at _ _ _ l c.args.at _ _ items xs _ c.in-Ok.ensures.exact
    (gathered-more _ _ _ _ _ items _ xs _ _
    (c.take.ensures.stands l (items_within items) fewer so_far.stands)
    (c.take.ensures.classes l (items_within items) fewer so_far.stands)
    (c.take.ensures.fed l (items_within items) fewer so_far.stands) so_far)

pub returns-in-Err-clause-gathers : goal.returns-in-Err-clause-gathers
returns-in-Err-clause-gathers g c = λ l items xs few so_far.
    let fewer : length (items_within items) < most_entries = omega (arith, few, length-map items item_within) in
    gathered_at _ _ _ l c.args.at _ _ items xs _ c.in-Err.ensures.exact
    (gathered-rejected _ _ _ _ _ items _ xs _ (c.reject.ensures.stands l (items_within items) fewer so_far.stands)
    c.reject.ensures.classes so_far)

pub returns-in-Ok-clause-first : goal.returns-in-Ok-clause-first
returns-in-Ok-clause-first g c = λ l items stands.
    agent_answered l items c.args.at _ c.in-Ok.datagram _ _ c.in-Ok.ensures.exact (c.take.ensures.answer l items stands) c.agent_of.ensures

pub returns-in-Err-clause-first : goal.returns-in-Err-clause-first
returns-in-Err-clause-first g c = λ l items stands. no_agent l items c.args.at _ _ c.in-Err.ensures.exact
