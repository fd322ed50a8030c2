-- The front of the room is what was read so far, and no call has failed.
use Rattle.std.proofs.Common.{◌≤◌, ◌-◌, length, take}
use Rattle.byte_ends.specs.Seen.{Gives, with_held}
use Rattle.byte_ends.proofs.read_ahead.ReadAhead.read_most.Given as goal

abbrev pub invariant-loop-filled : goal.invariant-loop-filled
invariant-loop-filled g l = record {
  within : l.filled ≤ length l.room;
  given : Gives (with_held l.initial.self (g.S.Source.seen l.initial.source))
      (with_held l.self (g.S.Source.seen l.source)) (take l.filled l.room);
}

abbrev pub decreases-loop-filled : goal.decreases-loop-filled
decreases-loop-filled g l = length l.initial.room - l.filled
