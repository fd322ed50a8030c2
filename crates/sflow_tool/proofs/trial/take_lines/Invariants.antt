-- Some lines were read and tried, and no call has failed.
use Rattle.std.proofs.Common.{◌≡◌, ◌≤◌, ◌+◌, None}
use Rattle.std.specs.Prelude.{vec_len}
use Rattle.sflow_tool.specs.Replays.{Collects}
use Rattle.sflow_tool.specs.Trials.{TrialStands, received_in}
use Rattle.sflow_tool.proofs.TrialWalk.{Tracked}
use Rattle.sflow_tool.proofs.trial.take_lines.Given as goal

abbrev pub invariant-loop : goal.invariant-loop
invariant-loop g l = record {
  far : Tracked (λ lines. TrialStands l.run lines × Collects
      (λ x b y. (v : _) × (y ≡ record x { value = v }) × (goal.Tap-dyn g (x.vtable, x.value)).step x.value b v)
      (λ x. (goal.Tap-dyn g (x.vtable, x.value)).ended x.value)
      l.initial.collector.books.limits l.collector l.initial.taps.held.items l.taps.held.items
      (l.initial.taps.ended + vec_len l.initial.taps.held) (l.taps.ended + vec_len l.taps.held) (received_in lines))
      (g.S.Source.seen l.initial.source) (g.S.Source.seen l.source) l.reader;
  limits : l.run.limits ≡ l.initial.run.limits;
  few : l.taps.ended + vec_len l.taps.held ≡ l.initial.taps.ended + vec_len l.initial.taps.held;
  going : l.reader.ended ≡ None;
  above : l.counter ≤ l.reader.place.count;
  numbered : l.reader.place.count ≤ 4294967295;
  kept : (g.S.Source.seen l.source).faults ≡ (g.S.Source.seen l.initial.source).faults;
}
