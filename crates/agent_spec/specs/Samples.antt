-- The samples and datagrams of an agent, by its own counts, which never wrap.
use Rattle.std.specs.Prelude.{ℕ, Bool, List}
use Rattle.std.specs.declared.option.Option.{Option}
use Rattle.wire_spec.specs.Shapes.{Tree}
use Rattle.agent_spec.specs.Sources.{Turn, FlowSetup, CounterSetup}

-- where a packet came in or went out: a form, and a value of that form
pub record Port : Type 0 where
  pub form : ℕ
  pub value : ℕ

-- a packet: its ports, the length of its frame in bytes, its VLAN, and the bytes of its header
pub record Packet : Type 0 where
  pub input : Port
  pub output : Port
  pub frame_length : ℕ
  pub vlan : Option ℕ
  pub header : List ℕ

-- what a sample shows: a packet, or the counters of an interface
pub data Content : Type 0 where
  Sampled : Packet → Content
  Counted : Tree → Content

-- a sample; a counters sample has no pool, drops and rate
pub record Sample : Type 0 where
  pub turn : Turn
  pub number : ℕ
  pub pool : ℕ
  pub drops : ℕ
  pub rate : ℕ
  pub content : Content

-- a datagram: its number, its uptime in ms, and its samples in their order
pub record Datagram : Type 0 where
  pub number : ℕ
  pub uptime : ℕ
  pub samples : List Sample

-- a sub-agent: how many samples its stage holds, where the numbers of its datagrams begin, its sources, and which
-- samples one datagram has room for
pub record Setup : Type 0 where
  pub stage : ℕ
  pub first : ℕ
  pub flows : List FlowSetup
  pub counters : List CounterSetup
  pub fits : List Sample → Bool
