-- Some entries were read and taken, and no call has failed.
use Rattle.std.proofs.Common.{◌≡◌, ◌≤◌, ◌+◌, ◌^◌, length}
use Rattle.std.specs.Prelude.{vec_len}
use Rattle.sflow_io.specs.CaptureAnswers.{HasEnded, entries_given}
use Rattle.sflow_tool.specs.Replays.{Collects}
use Rattle.command_runs.proofs.Walked.{SoFar}
use Rattle.sflow_tool.proofs.Silent.{silent, still}
use Rattle.sflow_tool.proofs.replay.take_entries.Given as goal

abbrev pub invariant-loop-count : goal.invariant-loop-count
invariant-loop-count g l = record {
  far : SoFar silent (λ entries. Collects
      (λ x b y. (v : _) × (y ≡ record x { value = v }) × (goal.Tap-dyn g (x.vtable, x.value)).step x.value b v)
      (λ x. (goal.Tap-dyn g (x.vtable, x.value)).ended x.value)
      l.initial.collector.books.limits l.collector l.initial.taps.held.items l.taps.held.items
      (l.initial.taps.ended + vec_len l.initial.taps.held) (l.taps.ended + vec_len l.taps.held) entries)
      (g.S.Source.seen l.initial.source) (g.S.Source.seen l.source) (still (g.S.Source.seen l.initial.source))
      l.reader l.count 0;
  few : l.taps.ended + vec_len l.taps.held ≡ l.initial.taps.ended + vec_len l.initial.taps.held;
  going : ¬ (HasEnded l.reader.stage);
  given : entries_given l.reader.stage ≡ l.count;
  fewer : l.count ≤ 2 ^ 48;
  room : 65535 ≤ length l.room;
  kept : (g.S.Source.seen l.source).faults ≡ (g.S.Source.seen l.initial.source).faults;
}
