-- None of the records that were passed is one of interface counters.
use Rattle.std.proofs.Common.{◌≡◌, length}
use Rattle.data_format.specs.Trees.{frame_trees}
use Rattle.datagram_core.specs.declared.records.RecordKind.TheVariants.{Counters}
use Rattle.datagram_core.specs.Tables.{counter_records_read}
use Rattle.flow_collector.specs.Items.{first_interface}
use Rattle.flow_collector.proofs.interfaces.first_carried.Given as goal

abbrev pub invariant-loop-item : goal.invariant-loop-item
invariant-loop-item l = record {
  kind : l.records.kind ≡ Counters;
  left : first_interface (frame_trees counter_records_read l.records.frames)
      ≡ first_interface (frame_trees counter_records_read l.initial.records.frames);
}

abbrev pub decreases-loop-item : goal.decreases-loop-item
decreases-loop-item l = length l.records.frames
