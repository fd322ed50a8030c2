use Rattle.std.proofs.Common.{length, take, ◌-◌, ◌≡◌, ◌≤◌}
use Rattle.std.specs.Io.KnownBytes.{Consumes}
use Rattle.byte_ends.specs.Unread.{unread}
use Rattle.script_lines.specs.Fronts.{IsInLine}
use Rattle.script_lines.proofs.text.read_text.Given as goal

abbrev pub invariant-loop-len : goal.invariant-loop-len
invariant-loop-len g l = record {
  size : length l.room ≡ 16384;
  within : l.len ≤ 16384;
  taken : Consumes (unread l.initial.ahead (g.S.Source.seen l.initial.source)) (unread l.ahead (g.S.Source.seen l.source)) (take l.len l.room);
  inside : IsInLine (take l.len l.room);
  kept : (g.S.Source.seen l.source).faults ≡ (g.S.Source.seen l.initial.source).faults;
}

abbrev pub decreases-loop-len : goal.decreases-loop-len
decreases-loop-len g l = length l.initial.room - l.len
