-- The front of the room is what left the source so far, and no call has failed.
use Rattle.std.proofs.Common.{◌≤◌, ◌-◌, length, take}
use Rattle.byte_ends.specs.Seen.{Gives}
use Rattle.byte_ends.proofs.source.read_most.Given as goal

abbrev pub invariant-loop-filled : goal.invariant-loop-filled
invariant-loop-filled g l = record {
  within : l.filled ≤ length l.room;
  given : Gives (g.S.Source.seen l.initial.source) (g.S.Source.seen l.source) (take l.filled l.room);
}

abbrev pub decreases-loop-filled : goal.decreases-loop-filled
decreases-loop-filled g l = length l.initial.room - l.filled
