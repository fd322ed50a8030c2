-- What contracts see of what is kept beside a sub-agent. Every list stands in its order.
use Rattle.std.specs.Prelude.{ℕ, List}
use Rattle.data_format.specs.declared.source.SourceId.{SourceId}
use Rattle.true_samples.specs.declared.counts.FlowCounts.{FlowCounts}
use Rattle.true_samples.specs.declared.counts.CounterCounts.{CounterCounts}
use Rattle.true_samples.specs.declared.samples.IssuedSample.{IssuedSample}

-- a datagram that was sent
pub record SentState : Type 0 where
  pub number : ℕ
  pub uptime : ℕ
  pub samples : List IssuedSample
  pub bytes : List ℕ

-- a boot: the datagrams sent, and how many samples were issued and packets dropped
pub record BootState : Type 0 where
  pub datagrams : List SentState
  pub issued : ℕ
  pub dropped : ℕ

pub record TrueState : Type 0 where
  -- the number of the first datagram of a boot
  pub first : ℕ
  pub flow_ids : List SourceId
  pub counter_ids : List SourceId
  -- in the current boot, each in its generation
  pub flows : List FlowCounts
  pub counters : List CounterCounts
  -- the samples that wait for a datagram
  pub staged : List IssuedSample
  pub current : BootState
  pub earlier : List BootState
