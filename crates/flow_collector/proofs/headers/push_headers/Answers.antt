use Rattle.std.proofs.Common.{◌≡◌, ap, map}
use Rattle.datagram_core.specs.Tables.{samples_read}
use Rattle.data_format.specs.Trees.{frame_tree}
use Rattle.flow_collector.specs.Headers.{brief_from, headers_of}
use Rattle.flow_collector.proofs.HeaderRecords.{headers-of-frame, no-frame, passes-as}
use Rattle.flow_collector.proofs.headers.push_headers.Goals as goal

pub returns-in-Some : goal.returns-in-Some
returns-in-Some g c = record {
  passes = λ f rest all.
      let some = c.in-Some.ensures.some in
      passes-as (λ x b y. (v : _) × (y ≡ record x { value = v }) × (goal.Tap-dyn g (x.vtable, x.value)).step x.value b v) (λ x. (goal.Tap-dyn g (x.vtable, x.value)).ended x.value)
      c.args.briefing.now c.push_sample.new.briefing c.args.taps.now.held.items c.push_sample.new.taps.held.items _
      (map (brief_from c.args.stream c.args.head.now) (headers_of (frame_tree samples_read f)))
      (ap (map (brief_from c.args.stream c.args.head.now))
      (headers-of-frame c.in-Some.sample c.args.ahead c.next.new.self rest f some.0 some.1 some.2 all))
      c.push_sample.ensures.passes;
  ended = c.push_sample.ensures.ended;
}

pub returns-in_default-clause-passes : goal.returns-in_default-clause-passes
returns-in_default-clause-passes g c = λ f rest all. no-frame _ c.args.ahead rest f c.in_default.ensures.none.0 all
