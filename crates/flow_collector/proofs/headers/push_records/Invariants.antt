-- The headers of the records that were passed went to the consumers.
use Rattle.std.proofs.Common.{◌≡◌, ◌+◌, vec_len, length}
use Rattle.datagram_core.specs.declared.records.RecordKind.TheVariants.{Flow}
use Rattle.flow_collector.specs.Headers.{brief_from}
use Rattle.flow_collector.proofs.HeaderRecords.{Pushed}
use Rattle.flow_collector.proofs.headers.push_records.Given as goal

abbrev pub invariant-loop-item : goal.invariant-loop-item
invariant-loop-item g l = record {
  kind : l.records.kind ≡ Flow;
  ended : l.taps.ended + vec_len l.taps.held ≡ l.initial.taps.ended + vec_len l.initial.taps.held;
  pushed : Pushed (λ x b y. (v : _) × (y ≡ record x { value = v }) × (goal.Tap-dyn g (x.vtable, x.value)).step x.value b v) (λ x. (goal.Tap-dyn g (x.vtable, x.value)).ended x.value)
      l.initial.briefing l.briefing l.initial.taps.held.items l.taps.held.items (brief_from l.stream l.head)
      l.initial.records.frames l.records.frames;
}

abbrev pub decreases-loop-item : goal.decreases-loop-item
decreases-loop-item g l = length l.records.frames
