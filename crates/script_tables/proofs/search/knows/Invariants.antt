-- The rows so far are others: those that are left decide.
use Rattle.std.proofs.Common.{◌≡◌, drop}
use Rattle.script_tables.specs.Tables.{knows}
use Rattle.script_tables.proofs.search.knows.Given as goal

abbrev pub invariant-loop-sub : goal.invariant-loop-sub
invariant-loop-sub l = knows l.id (drop l.sub-index l.subs) ≡ knows l.id l.subs
