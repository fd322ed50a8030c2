-- The rows so far are others: those that are left decide.
use Rattle.std.proofs.Common.{◌≡◌, drop}
use Rattle.script_tables.specs.Tables.{sub_sent}
use Rattle.script_tables.proofs.search.sub_sent.Given as goal

abbrev pub invariant-loop-sub : goal.invariant-loop-sub
invariant-loop-sub l = sub_sent l.id l.boot l.number (drop l.sub-index l.subs) ≡ sub_sent l.id l.boot l.number l.subs
