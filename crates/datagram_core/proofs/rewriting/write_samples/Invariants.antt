-- The samples so far are written, and those that are left make up all of them.
use Rattle.std.proofs.Common.{length}
use Rattle.data_format.specs.Trees.{frame_trees}
use Rattle.datagram_core.specs.Tables.{samples_read}
use Rattle.datagram_core.proofs.Anew.{IsWriting}
use Rattle.datagram_core.proofs.rewriting.write_samples.Given as goal

abbrev pub invariant-loop-sample : goal.invariant-loop-sample
invariant-loop-sample l = IsWriting l.initial.writer l.writer (frame_trees samples_read l.initial.samples)
    (frame_trees samples_read l.samples)

abbrev pub decreases-loop-sample : goal.decreases-loop-sample
decreases-loop-sample l = length l.samples
