-- The places so far have others: those that are left decide.
use Rattle.std.proofs.Common.{◌≡◌, drop}
use Rattle.agent_setups.specs.Ids.{is_among}
use Rattle.agent_setups.proofs.ids.place_of.Given as goal

abbrev pub invariant-loop-place : goal.invariant-loop-place
invariant-loop-place l = is_among l.source (drop l.place l.ids) ≡ is_among l.source l.ids
