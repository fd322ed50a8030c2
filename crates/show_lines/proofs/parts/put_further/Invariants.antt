-- The numbers so far were put, and no call has failed.
use Rattle.std.proofs.Common.{codes, ◌++◌, drop}
use Rattle.wire_spec.specs.Shapes.{Tree}
use Rattle.show_lines.specs.Joined.{number_text}
use Rattle.show_lines.proofs.Series.{SoFar}
use Rattle.show_lines.proofs.parts.put_further.Given as goal

abbrev pub invariant-loop-place : goal.invariant-loop-place
invariant-loop-place g l = record {
  far : SoFar (λ n. codes "," ++ number_text n) (λ n. Tree.word n) (drop 1 l.numbers) (drop l.place l.numbers)
      (g.K.Sink.seen l.initial.sink) (g.K.Sink.seen l.sink) l.initial.page l.page;
}
