use Rattle.std.proofs.Common.{◌≡◌, ◌∙◌, ap, sym, map}
use Rattle.datagram_core.specs.Records.{RecordsView}
use Rattle.datagram_core.specs.Tables.{flow_records_read}
use Rattle.data_format.specs.Trees.{frame_trees}
use Rattle.flow_collector.specs.Headers.{brief_from, headers_among}
use Rattle.flow_collector.proofs.HeaderRecords.{records-kind, same-headers, no-headers, passes-as}
use Rattle.sample_taps.proofs.Passings.{passes_none}
use Rattle.flow_collector.proofs.headers.push_sample.Goals as goal

pub push_records-requires-clause-kind : goal.push_records-requires-clause-kind
push_records-requires-clause-kind g c =
    ap (λ (v : RecordsView). v.kind) c.records.ensures ∙ records-kind c.args.sample.now (sym c.has_headers.ensures ∙ c.if-has_headers.true)

pub returns-then-has_headers-clause-passes : goal.returns-then-has_headers-clause-passes
returns-then-has_headers-clause-passes g c =
    passes-as (λ x b y. (v : _) × (y ≡ record x { value = v }) × (goal.Tap-dyn g (x.vtable, x.value)).step x.value b v) (λ x. (goal.Tap-dyn g (x.vtable, x.value)).ended x.value)
    c.args.briefing.now c.push_records.new.briefing c.args.taps.now.held.items c.push_records.new.taps.held.items _ _
    (ap (map (brief_from c.args.stream c.args.head.now))
    (ap (λ (v : RecordsView). headers_among (frame_trees flow_records_read v.frames)) c.records.ensures
    ∙ same-headers c.args.sample.now (sym c.has_headers.ensures ∙ c.if-has_headers.true)))
    c.push_records.ensures.passes

pub returns-else-has_headers-clause-passes : goal.returns-else-has_headers-clause-passes
returns-else-has_headers-clause-passes g c =
    passes-as (λ x b y. (v : _) × (y ≡ record x { value = v }) × (goal.Tap-dyn g (x.vtable, x.value)).step x.value b v) (λ x. (goal.Tap-dyn g (x.vtable, x.value)).ended x.value)
    c.args.briefing.now c.args.briefing.now c.args.taps.now.held.items c.args.taps.now.held.items _ _
    (ap (map (brief_from c.args.stream c.args.head.now)) (no-headers c.args.sample.now (sym c.has_headers.ensures ∙ c.if-has_headers.false)))
    (passes_none (λ x b y. (v : _) × (y ≡ record x { value = v }) × (goal.Tap-dyn g (x.vtable, x.value)).step x.value b v) (λ x. (goal.Tap-dyn g (x.vtable, x.value)).ended x.value)
    c.args.briefing.now c.args.taps.now.held.items)
