-- The lines of the samples so far were put, and no call has failed.
use Rattle.std.proofs.Common.{length}
use Rattle.data_format.specs.Trees.{frame_tree}
use Rattle.datagram_core.specs.Tables.{samples_read}
use Rattle.show_lines.specs.Shown.{sample_text}
use Rattle.show_lines.proofs.Series.{SoFar}
use Rattle.show_lines.proofs.sample.put_samples.Given as goal

abbrev pub invariant-loop-sample : goal.invariant-loop-sample
invariant-loop-sample g l = record {
  far : SoFar sample_text (frame_tree samples_read) l.initial.samples l.samples
      (g.K.Sink.seen l.initial.sink) (g.K.Sink.seen l.sink) l.initial.page l.page;
}

abbrev pub decreases-loop-sample : goal.decreases-loop-sample
decreases-loop-sample g l = length l.samples
