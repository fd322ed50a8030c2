-- What a line of a script says.
use Rattle.std.specs.Prelude.{ℕ, Bool, true, false}
use Rattle.wire_spec.specs.Heads.{AgentAddress}
use Rattle.agent_spec.specs.Sources.{Source, FlowSetup, CounterSetup}
use Rattle.agent_spec.specs.Samples.{Packet}
use Rattle.script_spec.specs.Values.{Place}

-- a sub-agent: the number of its first datagram, when its first boot arrives, in ms, and how many samples its stage holds
pub record SubAgent : Type 0 where
  pub id : ℕ
  pub address : AgentAddress
  pub first : ℕ
  pub at : ℕ
  pub stage : ℕ

-- a datagram of a boot, each counted from 1, arrives at this time, in ms
pub record Delivery : Type 0 where
  pub id : ℕ
  pub boot : ℕ
  pub number : ℕ
  pub at : ℕ

-- The most bytes of a datagram; a sub-agent; its sources; a packet that a source sees; a poll and a send of a sub-agent
-- at an uptime, in ms; a restart of a sub-agent, whose new boot arrives at this time, in ms; a reset of a source; and a
-- delivery.
pub data Line : Type 0 where
  MaxLine : ℕ → Line
  SubLine : SubAgent → Line
  FlowLine : ℕ → FlowSetup → Line
  CounterLine : ℕ → CounterSetup → Line
  PacketLine : Place → Packet → Line
  PollLine : ℕ → ℕ → Line
  SendLine : ℕ → ℕ → Line
  RestartLine : ℕ → ℕ → Line
  ResetLine : Source → Line
  DeliverLine : Delivery → Line

-- the source of a kind at a place
abbrev pub source_at : Bool → Place → Source
source_at flow p = record { flow = flow; class = p.class; index = p.index }

abbrev pub flow_at : Place → Source
flow_at p = source_at true p

abbrev pub counter_at : Place → Source
counter_at p = source_at false p

abbrev pub place_of : Source → Place
place_of s = record { class = s.class; index = s.index }
