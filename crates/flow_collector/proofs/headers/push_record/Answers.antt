use Rattle.std.proofs.Common.{◌≡◌, ap, sym, map}
use Rattle.datagram_core.specs.Records.{record_tree}
use Rattle.flow_collector.specs.Headers.{brief_from, header_in}
use Rattle.flow_collector.proofs.HeaderRecords.{passes-as}
use Rattle.flow_collector.proofs.headers.push_record.Goals as goal

pub returns-in-RawHeader : goal.returns-in-RawHeader
returns-in-RawHeader g c = record {
  passes = passes-as (λ x b y. (v : _) × (y ≡ record x { value = v }) × (goal.Tap-dyn g (x.vtable, x.value)).step x.value b v) (λ x. (goal.Tap-dyn g (x.vtable, x.value)).ended x.value)
      c.args.briefing.now c.push_header.new.briefing c.args.taps.now.held.items c.push_header.new.taps.held.items _ _
      (ap (λ r. map (brief_from c.args.stream c.args.head.now) (header_in (record_tree r))) (sym c.in-RawHeader.is))
      c.push_header.ensures.passes;
  ended = c.push_header.ensures.ended;
}
