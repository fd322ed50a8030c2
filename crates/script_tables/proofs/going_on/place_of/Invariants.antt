-- The rows so far are others: those that are left decide.
use Rattle.std.proofs.Common.{◌≡◌, drop}
use Rattle.script_tables.specs.Tables.{knows}
use Rattle.script_tables.proofs.going_on.place_of.Given as goal

abbrev pub invariant-loop-place : goal.invariant-loop-place
invariant-loop-place l = knows l.id (drop l.place l.subs) ≡ knows l.id l.subs
