-- The segments so far are read, and those that are left make up what is read in all.
use Rattle.std.proofs.Common.{◌≡◌, ◌-◌}
use Rattle.wire_spec.specs.Bodies.{items_at}
use Rattle.wire_spec.proofs.Runs.{IsUnderWay}
use Rattle.xdr_words.specs.Readers.{remaining}
use Rattle.as_paths.specs.Paths.{segment_at}
use Rattle.as_paths.proofs.path.pass_segments.Given as goal

abbrev pub invariant-loop : goal.invariant-loop
invariant-loop l = record {
  same_pad : l.cursor.pad ≡ l.initial.cursor.pad;
  under_way : IsUnderWay segment_at (l.count - l.counter) (remaining l.cursor)
      (items_at segment_at l.count (remaining l.initial.cursor));
}
