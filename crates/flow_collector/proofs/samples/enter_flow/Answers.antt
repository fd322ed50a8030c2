use Rattle.std.proofs.Common.{◌≡◌, ◌∙◌, ap, sym}
use Rattle.data_format.specs.Trees.{frame_tree}
use Rattle.datagram_core.specs.Tables.{samples_read}
use Rattle.flow_collector.specs.Headers.{briefs_if, headers_of}
use Rattle.flow_collector.proofs.HeaderRecords.{passes-as}
use Rattle.sample_taps.proofs.Passings.{passes_none}
use Rattle.flow_collector.proofs.samples.enter_flow.Goals as goal

pub returns-in-Some : goal.returns-in-Some
returns-in-Some g c = record {
  stands = c.enter_flow.ensures.stands;
  passes = λ l items d f rest enters same all st.
      passes-as (λ x b y. (v : _) × (y ≡ record x { value = v }) × (goal.Tap-dyn g (x.vtable, x.value)).step x.value b v) (λ x. (goal.Tap-dyn g (x.vtable, x.value)).ended x.value)
      c.args.briefing.now c.push_headers.new.briefing c.args.taps.now.held.items c.push_headers.new.taps.held.items _ _
      (ap (λ o. briefs_if o c.args.head.now (headers_of (frame_tree samples_read f)))
      (sym c.in-Some.is ∙ c.enter_flow.ensures.fed l items d enters same st))
      (c.push_headers.ensures.passes f rest all);
  ended = c.push_headers.ensures.ended;
}

pub returns-in_default-clause-passes : goal.returns-in_default-clause-passes
returns-in_default-clause-passes g c = λ l items d f rest enters same all st.
    passes-as (λ x b y. (v : _) × (y ≡ record x { value = v }) × (goal.Tap-dyn g (x.vtable, x.value)).step x.value b v) (λ x. (goal.Tap-dyn g (x.vtable, x.value)).ended x.value)
    c.args.briefing.now c.args.briefing.now c.args.taps.now.held.items c.args.taps.now.held.items _ _
    (ap (λ o. briefs_if o c.args.head.now (headers_of (frame_tree samples_read f)))
    (sym c.in_default.is ∙ c.enter_flow.ensures.fed l items d enters same st))
    (passes_none (λ x b y. (v : _) × (y ≡ record x { value = v }) × (goal.Tap-dyn g (x.vtable, x.value)).step x.value b v) (λ x. (goal.Tap-dyn g (x.vtable, x.value)).ended x.value)
    c.args.briefing.now c.args.taps.now.held.items)
