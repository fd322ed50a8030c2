-- How much there can be of what is counted.
use Rattle.std.specs.Prelude.{ℕ, ◌*◌, ◌<◌, ◌^◌}
use Rattle.true_samples.specs.declared.sub_agent.Totals.{Totals}

-- what so many boots can have done, each less than 2^64 of anything
pub record AreFew (boots : ℕ) (t : Totals) : Type 0 where
  pub datagrams : t.datagrams < boots * 2 ^ 64
  pub issued : t.issued < boots * 2 ^ 64
  pub dropped : t.dropped < boots * 2 ^ 64
