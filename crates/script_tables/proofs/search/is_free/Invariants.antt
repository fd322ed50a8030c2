-- The rows so far are others: those that are left decide.
use Rattle.std.proofs.Common.{◌≡◌, drop}
use Rattle.script_tables.specs.Tables.{is_free_in}
use Rattle.script_tables.proofs.search.is_free.Given as goal

abbrev pub invariant-loop-row : goal.invariant-loop-row
invariant-loop-row l = is_free_in l.owner l.flow l.source (drop l.row-index l.rows) ≡ is_free_in l.owner l.flow l.source l.rows
