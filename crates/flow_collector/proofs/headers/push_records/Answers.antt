use Rattle.std.proofs.Common.{◌≡◌, ◌∙◌, refl, subst, rules}
use Rattle.datagram_core.specs.declared.records.RecordKind.{RecordKind}
use Rattle.datagram_core.specs.Kinds.{HasKind}
use Rattle.datagram_core.specs.Records.{IsRecordOf}
use Rattle.flow_collector.specs.Headers.{brief_from}
use Rattle.flow_collector.proofs.HeaderRecords.{pushed-none, pushed-more, pushed-all}
use Rattle.flow_collector.proofs.headers.push_records.Goals as goal

pub loop-item-init : goal.loop-item-init
loop-item-init g c = record {
  kind = c.requires.kind;
  ended = refl;
  pushed = pushed-none (λ x b y. (v : _) × (y ≡ record x { value = v }) × (goal.Tap-dyn g (x.vtable, x.value)).step x.value b v) (λ x. (goal.Tap-dyn g (x.vtable, x.value)).ended x.value)
      c.args.briefing.now c.args.taps.now.held.items (brief_from c.args.stream c.args.head.now) c.args.records.frames;
}

pub push_record-requires : goal.push_record-requires
push_record-requires g c = record {
  few = search rules;
  kind = let K : RecordKind → Type 0 = λ kind. HasKind kind c.in-Some.item in
      subst K c.loop-item.invariant.kind c.in-Some.ensures.of_kind;
}

pub loop-item-preserved : goal.loop-item-preserved
loop-item-preserved g c =
    let some = c.in-Some.ensures.some in
    let K : RecordKind → Type 0 = λ kind. IsRecordOf kind some.0 c.in-Some.item in
    record {
      kind = c.next.ensures.kind ∙ c.loop-item.invariant.kind;
      ended = c.push_record.ensures.ended ∙ c.loop-item.invariant.ended;
      pushed = pushed-more (λ x b y. (v : _) × (y ≡ record x { value = v }) × (goal.Tap-dyn g (x.vtable, x.value)).step x.value b v) (λ x. (goal.Tap-dyn g (x.vtable, x.value)).ended x.value)
          c.args.briefing.now c.loop-item.briefing c.push_record.new.briefing c.args.taps.now.held.items c.loop-item.taps.held.items
          c.push_record.new.taps.held.items (brief_from c.args.stream c.args.head.now) c.args.records.frames c.loop-item.records.frames
          c.next.new.self.frames some.0 c.in-Some.item some.1 (subst K c.loop-item.invariant.kind some.2) c.loop-item.invariant.pushed
          c.push_record.ensures.passes;
    }

pub returns : goal.returns
returns g c = record {
  passes = pushed-all (λ x b y. (v : _) × (y ≡ record x { value = v }) × (goal.Tap-dyn g (x.vtable, x.value)).step x.value b v) (λ x. (goal.Tap-dyn g (x.vtable, x.value)).ended x.value)
      c.args.briefing.now c.loop-item.briefing c.args.taps.now.held.items c.loop-item.taps.held.items
      (brief_from c.args.stream c.args.head.now) c.args.records.frames c.loop-item.records.frames c.in_default.ensures.none.0
      c.loop-item.invariant.pushed;
  ended = c.loop-item.invariant.ended;
}
