-- Some entries were read and sent, and no call has failed.
use Rattle.std.proofs.Common.{◌≡◌, ◌≤◌, ◌^◌, length}
use Rattle.sflow_io.specs.CaptureAnswers.{HasEnded, entries_given}
use Rattle.command_runs.proofs.Walked.{SoFar}
use Rattle.sflow_tool.specs.Sends.{HasSent}
use Rattle.sflow_tool.proofs.Silent.{silent, still}
use Rattle.sflow_tool.proofs.send.send_entries.Given as goal

abbrev pub invariant-loop-count : goal.invariant-loop-count
invariant-loop-count g l = record {
  far : SoFar silent (HasSent (g.L.Link.seen l.initial.link) (g.L.Link.seen l.link))
      (g.S.Source.seen l.initial.source) (g.S.Source.seen l.source) (still (g.S.Source.seen l.initial.source))
      l.reader l.count 0;
  going : ¬ (HasEnded l.reader.stage);
  given : entries_given l.reader.stage ≡ l.count;
  fewer : l.count ≤ 2 ^ 48;
  room : 65535 ≤ length l.room;
  kept : (g.S.Source.seen l.source).faults ≡ (g.S.Source.seen l.initial.source).faults;
}
