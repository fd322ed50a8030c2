-- Those so far have counted.
use Rattle.std.proofs.Common.{◌≡◌, ◌++◌, map, take, drop}
use Rattle.script_meter.specs.Tallies.{with_packet}
use Rattle.script_meter.proofs.meter.count_each.Given as goal

abbrev pub invariant-loop-place : goal.invariant-loop-place
invariant-loop-place l =
    l.rows ≡ map (with_packet l.source l.length) (take l.place l.initial.rows) ++ drop l.place l.initial.rows
