-- The set-ups so far are others: those that are left decide.
use Rattle.std.proofs.Common.{◌≡◌, drop}
use Rattle.script_tables.specs.Said.{names}
use Rattle.script_tables.proofs.setups.place_of.Given as goal

abbrev pub invariant-loop-place : goal.invariant-loop-place
invariant-loop-place l = names l.id (drop l.place l.setups) ≡ names l.id l.setups
