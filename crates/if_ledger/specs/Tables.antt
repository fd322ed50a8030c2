-- The ledgers of the interfaces of sources, by the places of the sources, and how many there may be.
use Rattle.std.specs.Prelude.{ℕ, List}
use Rattle.if_ledger.specs.Ledgers.{IfState}

pub record Ledgers : Type 0 where
  pub ledgers : List IfState
  pub limit : ℕ
