-- The records so far are pushed, and those that are left make up all of them.
use Rattle.std.proofs.Common.{◌≡◌, length}
use Rattle.data_format.specs.Trees.{frame_trees}
use Rattle.datagram_core.specs.Records.{table_of}
use Rattle.datagram_core.proofs.Filling.{IsFilling}
use Rattle.datagram_core.proofs.rewriting.fill.Given as goal

abbrev pub invariant-loop-record : goal.invariant-loop-record
invariant-loop-record l =
    let first = l.initial.records.kind in
    record {
      kind : l.records.kind ≡ first;
      filling : IsFilling l.initial.writer l.writer first (frame_trees (table_of first) l.initial.records.frames)
          (frame_trees (table_of first) l.records.frames);
    }

abbrev pub decreases-loop-record : goal.decreases-loop-record
decreases-loop-record l = length l.records.frames
