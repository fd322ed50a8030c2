-- The rows so far are others: those that are left decide.
use Rattle.std.proofs.Common.{◌≡◌, drop}
use Rattle.script_tables.specs.Tables.{has_row}
use Rattle.script_tables.proofs.search.has_row.Given as goal

abbrev pub invariant-loop-row : goal.invariant-loop-row
invariant-loop-row l = has_row l.flow l.source (drop l.row-index l.rows) ≡ has_row l.flow l.source l.rows
