-- Some entries were read and visited, their lines were put, and no call has failed.
use Rattle.std.proofs.Common.{◌≡◌, ◌≤◌, ◌^◌, true, length}
use Rattle.sflow_io.specs.CaptureAnswers.{HasEnded, entries_given}
use Rattle.command_runs.proofs.Walked.{SoFar}
use Rattle.command_runs.proofs.walk.visit_entries.Given as goal

abbrev pub invariant-loop-count : goal.invariant-loop-count
invariant-loop-count g l = record {
  far : SoFar (g.V.EntryVisitor.does l.initial.visitor) (g.V.EntryVisitor.visited l.visitor)
      (g.S.Source.seen l.initial.source) (g.S.Source.seen l.source)
      (record { sink = g.K.Sink.seen l.initial.sink; sink' = g.K.Sink.seen l.sink; page = l.initial.page; page' = l.page })
      l.reader l.count l.marked;
  same : g.V.EntryVisitor.does l.visitor ≡ g.V.EntryVisitor.does l.initial.visitor;
  waits : (g.V.EntryVisitor.does l.initial.visitor).waits ≡ true → (l.sink ≡ l.initial.sink) × (l.page ≡ l.initial.page);
  going : ¬ (HasEnded l.reader.stage);
  given : entries_given l.reader.stage ≡ l.count;
  few : l.count ≤ 2 ^ 48;
  fewer : l.marked ≤ l.count;
  room : 65535 ≤ length l.room;
  kept : (g.S.Source.seen l.source).faults ≡ (g.S.Source.seen l.initial.source).faults;
}
