-- The lines of the records so far were put, and no call has failed.
use Rattle.std.proofs.Common.{◌≡◌, length}
use Rattle.data_format.specs.Trees.{frame_tree}
use Rattle.datagram_core.specs.Records.{table_of}
use Rattle.show_lines.specs.Shown.{record_text}
use Rattle.show_lines.proofs.Series.{SoFar}
use Rattle.show_lines.proofs.record.put_records.Given as goal

abbrev pub invariant-loop-record : goal.invariant-loop-record
invariant-loop-record g l = record {
  far : SoFar (record_text l.initial.records.kind) (frame_tree (table_of l.initial.records.kind))
      l.initial.records.frames l.records.frames (g.K.Sink.seen l.initial.sink) (g.K.Sink.seen l.sink) l.initial.page l.page;
  kind : l.records.kind ≡ l.initial.records.kind;
}

abbrev pub decreases-loop-record : goal.decreases-loop-record
decreases-loop-record g l = length l.records.frames
