use Rattle.std.proofs.Common.{◌≡◌, ◌∙◌, true, false, Some, List, length, sym, ap, arith}
use Rattle.std.specs.Prelude.{slice_get}
use Rattle.std.proofs.lemmas.Bool.{true≢false}
use Rattle.data_format.specs.declared.source.SourceId.{SourceId}
use Rattle.agent_setups.specs.Ids.{is_among}
use Rattle.true_samples.specs.declared.counts.FlowCounts.{FlowCounts}
use Rattle.true_samples.specs.States.{TrueState}
use Rattle.true_samples.specs.Moves.{with_packet_at}
use Rattle.true_samples.proofs.Answers.{on-ok, on-ok-each}
use Rattle.true_samples.proofs.Packets.{observed, flow-within, flow-there}
use Rattle.true_samples.proofs.sub_agent.TrueSubAgent.observe.Goals as goal

pub returns-in_default : goal.returns-in_default
returns-in_default c = λ sender s events earlier f packet among id is short st.
    let there : is_among c.args.source c.args.self.now.flow_ids ≡ true =
    flow-there s c.args.self.now c.args.source f st.set_up among id in
    let none : is_among c.args.source c.args.self.now.flow_ids ≡ false =
    ap (λ (t : TrueState). is_among c.args.source t.flow_ids) (sym c.self.view_is)
    ∙ ap (is_among c.args.source) (sym c.deref.ensures.value) ∙ c.in_default.ensures.none in
    absurd (true≢false (sym there ∙ none))

pub returns-then-place-len : goal.returns-then-place-len
returns-then-place-len c =
    let t : TrueState = c.args.self.now in
    let new : TrueState = c.observe_at.new.self in
    let at : slice_get t.flow_ids c.in-Some.place ≡ Some c.args.source =
    ap (λ (k : TrueState). slice_get k.flow_ids c.in-Some.place) (sym c.self.view_is)
    ∙ ap (λ (ids : List SourceId). slice_get ids c.in-Some.place) (sym c.deref.ensures.value) ∙ c.in-Some.ensures.some in
    on-ok c.observe_at.result
    (on-ok-each (λ (k : FlowCounts). slice_get t.flows c.in-Some.place ≡ Some k)
    (λ (k : FlowCounts). new ≡ with_packet_at c.in-Some.place k c.args.seen t) c.observe_at.result c.observe_at.ensures)
    (λ moves sender s events earlier f packet among id is short st.
    observed sender s t new events earlier f packet c.args.source c.args.seen c.in-Some.place at moves among id is short st)

pub returns : goal.returns
returns c = λ sender s events earlier f packet among id is short st.
    let t : TrueState = c.args.self.now in
    let at : slice_get t.flow_ids c.in-Some.place ≡ Some c.args.source =
    ap (λ (k : TrueState). slice_get k.flow_ids c.in-Some.place) (sym c.self.view_is)
    ∙ ap (λ (ids : List SourceId). slice_get ids c.in-Some.place) (sym c.deref.ensures.value) ∙ c.in-Some.ensures.some in
    let within = flow-within sender s t events earlier c.args.source c.in-Some.place st at in
    let many : length t.flows ≡ length c.self.inside.flows.items = ap (λ (k : TrueState). length k.flows) (sym c.self.view_is) in
    absurd (omega (arith, within, many, c.if-place-len.false, c.len.ensures))
