use Rattle.std.proofs.Common.{◌∙◌, ◌∷◌, subst}
use Rattle.books_spec.specs.declared.sample_place.SamplePlace.{SamplePlace}
use Rattle.books_spec.specs.Items.{Sample, Got}
use Rattle.flow_collector.specs.Collectors.{StandsFor}
use Rattle.flow_collector.specs.Shown.{id_shown}
use Rattle.flow_collector.specs.Steps.{with_sample}
use Rattle.flow_collector.proofs.Firsts.{shown-first, fed-some, fed-none}
use Rattle.flow_collector.proofs.books.Books.enter_flow.Goals as goal

pub stream_number-number-requires : goal.stream_number-number-requires
stream_number-number-requires c = (c.args.index, c.requires.midway)

pub returns-then-is_first_at : goal.returns-then-is_first_at
returns-then-is_first_at c = record {
  stands = λ l items d enters same st.
      let P : Sample → Type 0 = λ x. StandsFor c.enter-entered.new.self l (Got (with_sample d x) ∷ items) in
      subst P c.flow_shown.ensures.sample (c.enter-entered.ensures.stands l items d enters same st);
  fed = λ l items d enters same st.
      let place : SamplePlace = record { datagram = c.args.found.now.receipt.number; index = c.args.index } in
      fed-some l items d place c.args.head.now c.stream_number-number.result c.is_first_at.result c.if-is_first_at.true
      (shown-first l items d place c.args.head.now (id_shown c.flow_shown.result) c.flow_shown.result.reading c.is_first_at.result
      c.flow_shown.ensures.id c.flow_shown.ensures.reading
      (c.is_first_at.ensures ∙ c.enter-entered.ensures.first l items d enters same st))
      (c.stream_number-number.ensures l items d enters);
}

pub returns-else-is_first_at : goal.returns-else-is_first_at
returns-else-is_first_at c = record {
  stands = λ l items d enters same st.
      let P : Sample → Type 0 = λ x. StandsFor c.enter-entered.new.self l (Got (with_sample d x) ∷ items) in
      subst P c.flow_shown.ensures.sample (c.enter-entered.ensures.stands l items d enters same st);
  fed = λ l items d enters same st.
      let place : SamplePlace = record { datagram = c.args.found.now.receipt.number; index = c.args.index } in
      fed-none l items d place c.args.head.now c.is_first_at.result c.if-is_first_at.false
      (shown-first l items d place c.args.head.now (id_shown c.flow_shown.result) c.flow_shown.result.reading c.is_first_at.result
      c.flow_shown.ensures.id c.flow_shown.ensures.reading
      (c.is_first_at.ensures ∙ c.enter-entered.ensures.first l items d enters same st));
}
