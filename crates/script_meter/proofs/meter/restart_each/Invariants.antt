-- Those so far are anew.
use Rattle.std.proofs.Common.{◌≡◌, ◌++◌, map, take, drop}
use Rattle.script_meter.specs.Tallies.{with_restart}
use Rattle.script_meter.proofs.meter.restart_each.Given as goal

abbrev pub invariant-loop-place : goal.invariant-loop-place
invariant-loop-place l =
    l.rows ≡ map (with_restart l.owner) (take l.place l.initial.rows) ++ drop l.place l.initial.rows
