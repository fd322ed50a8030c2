use Rattle.std.proofs.Common.{◌≡◌, ◌∙◌, ◌<◌, true, false, Some, List, length, sym, ap, arith}
use Rattle.std.specs.Prelude.{slice_get}
use Rattle.std.proofs.lemmas.Bool.{true≢false}
use Rattle.data_format.specs.declared.source.SourceId.{SourceId}
use Rattle.agent_setups.specs.Ids.{is_among}
use Rattle.true_samples.specs.States.{TrueState}
use Rattle.true_samples.specs.Counts.{id_in}
use Rattle.true_samples.proofs.Packets.{flow-within, flow-there}
use Rattle.true_samples.proofs.Resets.{reset-flow, flow-of}
use Rattle.true_samples.proofs.sub_agent.TrueSubAgent.reset_flow.Goals as goal

pub returns-in_default : goal.returns-in_default
returns-in_default c = λ sender s events earlier among short st.
    let t : TrueState = c.args.self.now in
    let there : is_among c.args.source t.flow_ids ≡ true = (let f = flow-of s st.set_up.lawful c.args.source among in flow-there s t c.args.source f.0 st.set_up f.1 (ap id_in f.2)) in
    let none : is_among c.args.source t.flow_ids ≡ false =
    ap (λ (k : TrueState). is_among c.args.source k.flow_ids) (sym c.self.view_is)
    ∙ ap (is_among c.args.source) (sym c.deref.ensures.value) ∙ c.in_default.ensures.none in
    absurd (true≢false (sym there ∙ none))

pub returns-then-place-len : goal.returns-then-place-len
returns-then-place-len c = λ sender s events earlier among short st.
    let t : TrueState = c.args.self.now in
    let at : slice_get t.flow_ids c.in-Some.place ≡ Some c.args.source =
    ap (λ (k : TrueState). slice_get k.flow_ids c.in-Some.place) (sym c.self.view_is)
    ∙ ap (λ (ids : List SourceId). slice_get ids c.in-Some.place) (sym c.deref.ensures.value) ∙ c.in-Some.ensures.some in
    reset-flow sender s t c.begin_flow.new.self events earlier c.args.source c.in-Some.place at c.begin_flow.ensures short st

pub returns-else-place-len : goal.returns-else-place-len
returns-else-place-len c = λ sender s events earlier among short st.
    let t : TrueState = c.args.self.now in
    let at : slice_get t.flow_ids c.in-Some.place ≡ Some c.args.source =
    ap (λ (k : TrueState). slice_get k.flow_ids c.in-Some.place) (sym c.self.view_is)
    ∙ ap (λ (ids : List SourceId). slice_get ids c.in-Some.place) (sym c.deref.ensures.value) ∙ c.in-Some.ensures.some in
    let within : c.in-Some.place < length t.flows = flow-within sender s t events earlier c.args.source c.in-Some.place st at in
    let many : length t.flows ≡ length c.self.inside.flows.items = ap (λ (k : TrueState). length k.flows) (sym c.self.view_is) in
    absurd (omega (arith, within, many, c.if-place-len.false, c.len.ensures))
