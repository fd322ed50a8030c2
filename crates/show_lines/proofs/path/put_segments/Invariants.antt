-- The segments so far were put, and no call has failed.
use Rattle.std.proofs.Common.{codes, ◌++◌, length}
use Rattle.as_paths.specs.Paths.{segment_tree}
use Rattle.show_lines.specs.Joined.{segment_text}
use Rattle.show_lines.proofs.Series.{SoFar}
use Rattle.show_lines.proofs.path.put_segments.Given as goal

abbrev pub invariant-loop-segment : goal.invariant-loop-segment
invariant-loop-segment g l = record {
  far : SoFar (λ s. codes ";" ++ segment_text s) segment_tree l.initial.rest l.rest
      (g.K.Sink.seen l.initial.sink) (g.K.Sink.seen l.sink) l.initial.page l.page;
}

abbrev pub decreases-loop-segment : goal.decreases-loop-segment
decreases-loop-segment g l = length l.rest
