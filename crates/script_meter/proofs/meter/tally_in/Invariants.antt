-- The rows so far are others: those that are left decide.
use Rattle.std.proofs.Common.{◌≡◌, drop}
use Rattle.script_meter.specs.Tallies.{tally_in}
use Rattle.script_meter.proofs.meter.tally_in.Given as goal

abbrev pub invariant-loop-row : goal.invariant-loop-row
invariant-loop-row l = tally_in l.source (drop l.row-index l.rows) ≡ tally_in l.source l.rows
