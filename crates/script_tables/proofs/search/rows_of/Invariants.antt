-- The rows so far are counted.
use Rattle.std.proofs.Common.{◌≡◌, take}
use Rattle.script_tables.specs.Tables.{rows_of}
use Rattle.script_tables.proofs.search.rows_of.Given as goal

abbrev pub invariant-loop-row : goal.invariant-loop-row
invariant-loop-row l = l.count ≡ rows_of l.owner l.flow (take l.row-index l.rows)
