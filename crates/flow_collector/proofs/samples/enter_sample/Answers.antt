use Rattle.std.proofs.Common.{◌≡◌, ◌∙◌, ◌∷◌, ap, map, subst}
use Rattle.data_format.specs.Trees.{frame_tree}
use Rattle.datagram_core.specs.Tables.{samples_read}
use Rattle.books_spec.specs.declared.sample_place.SamplePlace.{SamplePlace}
use Rattle.books_spec.specs.Items.{Sample, Got}
use Rattle.books_spec.specs.SampledHeaders.{headers_at}
use Rattle.sample_taps.specs.BookBriefs.{brief_in}
use Rattle.sample_taps.proofs.Passings.{passes_none}
use Rattle.flow_collector.specs.Collectors.{StandsFor}
use Rattle.flow_collector.specs.Headers.{headers_of}
use Rattle.flow_collector.specs.Steps.{with_sample}
use Rattle.flow_collector.proofs.Fed.{flow-briefs, counters-briefs}
use Rattle.flow_collector.proofs.HeaderRecords.{passes-as}
use Rattle.flow_collector.proofs.Readings.{flow-shown, counters-head, counters-form, interface_behind, other-shown}
use Rattle.flow_collector.proofs.samples.enter_sample.Goals as goal

pub returns-in-Flow : goal.returns-in-Flow
returns-in-Flow g c = record {
  stands = λ l items d f rest enters same ahead head st.
      let P : Sample → Type 0 = λ x. StandsFor c.enter_flow.new.books l (Got (with_sample d x) ∷ items) in
      subst P (flow-shown _ f _ c.in-Flow.is head) (c.enter_flow.ensures.stands l items d enters same st);
  passes = λ l items d f rest enters same ahead head st.
      let place : SamplePlace = record { datagram = c.args.found.now.receipt.number; index = c.args.index } in
      let own = headers_of (frame_tree samples_read f) in
      passes-as (λ x b y. (v : _) × (y ≡ record x { value = v }) × (goal.Tap-dyn g (x.vtable, x.value)).step x.value b v) (λ x. (goal.Tap-dyn g (x.vtable, x.value)).ended x.value)
      c.args.briefing.now c.enter_flow.new.briefing c.args.taps.now.held.items c.enter_flow.new.taps.held.items _ _
      (flow-briefs l items d place c.in-Flow.flow own
      ∙ ap (λ x. map brief_in (headers_at l items d place x own)) (flow-shown _ f _ c.in-Flow.is head))
      (c.enter_flow.ensures.passes l items d f rest enters same ahead st);
  ended = c.enter_flow.ensures.ended;
}

pub returns-in-Counters-clause-stands : goal.returns-in-Counters-clause-stands
returns-in-Counters-clause-stands g c = λ l items d f rest enters same ahead head st.
    let this = counters-head _ f _ c.in-Counters.is head in
    c.enter_counters.ensures.stands l items d this.0 f rest enters same ahead this.1 st

pub returns-in-Counters-clause-passes : goal.returns-in-Counters-clause-passes
returns-in-Counters-clause-passes g c = λ l items d f rest enters same ahead head st.
    let place : SamplePlace = record { datagram = c.args.found.now.receipt.number; index = c.args.index } in
    let own = headers_of (frame_tree samples_read f) in
    let this = counters-head _ f _ c.in-Counters.is head in
    let h = c.in-Counters.counters in
    passes-as (λ x b y. (v : _) × (y ≡ record x { value = v }) × (goal.Tap-dyn g (x.vtable, x.value)).step x.value b v) (λ x. (goal.Tap-dyn g (x.vtable, x.value)).ended x.value)
    c.args.briefing.now c.args.briefing.now c.args.taps.now.held.items c.args.taps.now.held.items _ _
    (counters-briefs l items d place h.source.class h.source.index h.sequence (interface_behind this.1.frames) own
    ∙ ap (λ x. map brief_in (headers_at l items d place x own)) (counters-form this.0 f h this.1))
    (passes_none (λ x b y. (v : _) × (y ≡ record x { value = v }) × (goal.Tap-dyn g (x.vtable, x.value)).step x.value b v) (λ x. (goal.Tap-dyn g (x.vtable, x.value)).ended x.value)
    c.args.briefing.now c.args.taps.now.held.items)

pub returns-in-Other-clause-stands : goal.returns-in-Other-clause-stands
returns-in-Other-clause-stands g c = λ l items d f rest enters same ahead head st.
    let P : Sample → Type 0 = λ x. StandsFor c.enter_other.new.self l (Got (with_sample d x) ∷ items) in
    subst P (other-shown _ f c.in-Other.is head) (c.enter_other.ensures.stands l items d enters same st)

pub returns-in-Other-clause-passes : goal.returns-in-Other-clause-passes
returns-in-Other-clause-passes g c = λ l items d f rest enters same ahead head st.
    let place : SamplePlace = record { datagram = c.args.found.now.receipt.number; index = c.args.index } in
    let own = headers_of (frame_tree samples_read f) in
    passes-as (λ x b y. (v : _) × (y ≡ record x { value = v }) × (goal.Tap-dyn g (x.vtable, x.value)).step x.value b v) (λ x. (goal.Tap-dyn g (x.vtable, x.value)).ended x.value)
    c.args.briefing.now c.args.briefing.now c.args.taps.now.held.items c.args.taps.now.held.items _ _
    (ap (λ x. map brief_in (headers_at l items d place x own)) (other-shown _ f c.in-Other.is head))
    (passes_none (λ x b y. (v : _) × (y ≡ record x { value = v }) × (goal.Tap-dyn g (x.vtable, x.value)).step x.value b v) (λ x. (goal.Tap-dyn g (x.vtable, x.value)).ended x.value)
    c.args.briefing.now c.args.taps.now.held.items)
