-- What a collector takes: an item for each entry, a datagram with its arrival or the fault of an entry that is none
-- (sFlow Version 5, section 5).
use Rattle.std.specs.Prelude.{ℕ, Bool, true, false, List}
use Rattle.wire_spec.specs.Heads.{AgentAddress, Head}
use Rattle.wire_spec.specs.declared.fault.Fault.{Fault}
use Rattle.count_spec.specs.Boots.{Stamp}
use Rattle.books_spec.specs.declared.reading.SampleReading.{SampleReading}
use Rattle.books_spec.specs.InterfaceRise.{InterfaceCounters}

-- what samples are taken of within a stream: flow samples or counters samples, of one class and index;
-- those of the compact and of the expanded form are the same
pub record SourceId : Type 0 where
  pub flow : Bool
  pub class : ℕ
  pub index : ℕ

-- a sample of a source, one that carries the counters of an interface besides, or one of another format
pub data Sample : Type 0 where
  Of : SourceId → SampleReading → Sample
  Carrying : SourceId → SampleReading → InterfaceCounters → Sample
  Other : Sample

-- a flow sample of this class and index
abbrev pub flow_sample : ℕ → ℕ → SampleReading → Sample
flow_sample class index reading = Of (record { flow = true; class = class; index = index }) reading

-- a counters sample of this class, index and sequence number
abbrev pub counters_sample : ℕ → ℕ → ℕ → Sample
counters_sample class index sequence =
    Of (record { flow = false; class = class; index = index }) (record { sequence = sequence; pool = 0; drops = 0; rate = 0 })

-- the same, with the counters of an interface
abbrev pub interface_sample : ℕ → ℕ → ℕ → InterfaceCounters → Sample
interface_sample class index sequence counters =
    Carrying (record { flow = false; class = class; index = index })
    (record { sequence = sequence; pool = 0; drops = 0; rate = 0 }) counters

-- a datagram: its arrival in ms, its head, and its samples in their order
pub record Datagram : Type 0 where
  pub arrival : ℕ
  pub head : Head
  pub samples : List Sample

-- what places a datagram among those of its stream
abbrev pub stamp_of : Datagram → Stamp
stamp_of d = record { arrival = d.arrival; uptime = d.head.uptime; sequence = d.head.sequence }

-- an entry: a datagram, or the fault of bytes that spell none
pub data Item : Type 0 where
  Got : Datagram → Item
  Malformed : Fault → Item

-- a stream: a sub-agent of an agent
pub record Stream : Type 0 where
  pub agent : AgentAddress
  pub sub_agent : ℕ

abbrev pub stream_of : Datagram → Stream
stream_of d = record { agent = d.head.agent; sub_agent = d.head.sub_agent }

-- a source: a stream, and what its samples are taken of
pub record Source : Type 0 where
  pub stream : Stream
  pub id : SourceId
