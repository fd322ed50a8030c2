use Rattle.std.proofs.Common.{◌≡◌, ◌∙◌, ◌<◌, true, false, Some, List, length, sym, ap, arith}
use Rattle.std.specs.Prelude.{slice_get}
use Rattle.std.proofs.lemmas.Bool.{true≢false}
use Rattle.data_format.specs.declared.source.SourceId.{SourceId}
use Rattle.agent_setups.specs.Ids.{is_among}
use Rattle.true_samples.specs.States.{TrueState}
use Rattle.true_samples.proofs.Resets.{reset-counter, counter-within, counter-there}
use Rattle.true_samples.proofs.sub_agent.TrueSubAgent.reset_counter.Goals as goal

pub returns-in_default : goal.returns-in_default
returns-in_default c = λ sender s events earlier among short st.
    let t : TrueState = c.args.self.now in
    let there : is_among c.args.source t.counter_ids ≡ true = counter-there s t c.args.source st.set_up among in
    let none : is_among c.args.source t.counter_ids ≡ false =
    ap (λ (k : TrueState). is_among c.args.source k.counter_ids) (sym c.self.view_is)
    ∙ ap (is_among c.args.source) (sym c.deref.ensures.value) ∙ c.in_default.ensures.none in
    absurd (true≢false (sym there ∙ none))

pub returns-then-place-len : goal.returns-then-place-len
returns-then-place-len c = λ sender s events earlier among short st.
    let t : TrueState = c.args.self.now in
    let at : slice_get t.counter_ids c.in-Some.place ≡ Some c.args.source =
    ap (λ (k : TrueState). slice_get k.counter_ids c.in-Some.place) (sym c.self.view_is)
    ∙ ap (λ (ids : List SourceId). slice_get ids c.in-Some.place) (sym c.deref.ensures.value) ∙ c.in-Some.ensures.some in
    reset-counter sender s t c.begin_counter.new.self events earlier c.args.source c.in-Some.place at c.begin_counter.ensures short st

pub returns-else-place-len : goal.returns-else-place-len
returns-else-place-len c = λ sender s events earlier among short st.
    let t : TrueState = c.args.self.now in
    let at : slice_get t.counter_ids c.in-Some.place ≡ Some c.args.source =
    ap (λ (k : TrueState). slice_get k.counter_ids c.in-Some.place) (sym c.self.view_is)
    ∙ ap (λ (ids : List SourceId). slice_get ids c.in-Some.place) (sym c.deref.ensures.value) ∙ c.in-Some.ensures.some in
    let within : c.in-Some.place < length t.counters = counter-within sender s t events earlier c.args.source c.in-Some.place st at in
    let many : length t.counters ≡ length c.self.inside.counters.items = ap (λ (k : TrueState). length k.counters) (sym c.self.view_is) in
    absurd (omega (arith, within, many, c.if-place-len.false, c.len.ensures))
