use Rattle.std.proofs.Common.{◌∙◌, ◌∷◌, subst}
use Rattle.books_spec.specs.Items.{Sample, Got}
use Rattle.flow_collector.specs.Collectors.{StandsFor}
use Rattle.flow_collector.specs.Steps.{with_sample}
use Rattle.flow_collector.proofs.books.Books.enter_counters.Goals as goal

pub returns : goal.returns
returns c = record {
  stands = λ l items d form f rest enters same ahead these st.
      let P : Sample → Type 0 = λ x. StandsFor c.enter.new.self l (Got (with_sample d x) ∷ items) in
      subst P (c.counters_shown.ensures _ ∙ c.carried_by-carried.ensures form f rest c.args.head.now ahead these)
      (c.enter.ensures.stands l items d enters same st);
}
