-- The fields of a ledger of interface counters.
use Rattle.std.specs.Prelude.{◌*◌, ◌^◌, ◌≤◌}
use Rattle.if_ledger.specs.Counters.{AreAtMost}
use Rattle.if_ledger.specs.Ledgers.{IfState}
use Rattle.if_ledger.specs.declared.ledger.IfLedger.TheInside.{Inside}

abbrev pub if_state : Inside → IfState
if_state l = record {
  run = l.run;
  samples = l.samples;
  greatest = l.greatest;
  least = l.least;
  rises = l.rises;
}

-- what each ledger keeps
pub record IsIfLedger (l : Inside) : Type 0 where
  pub few : l.samples ≤ 2 ^ 62
  pub sums_few : AreAtMost (2 ^ 64 * l.samples) l.rises
