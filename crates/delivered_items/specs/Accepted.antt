-- What an agent's calls accept, as far as it makes what is sent fit the words of the wire (sFlow Version 5, section 5): of
-- set-ups, of packets, of readings, and of the uptimes at which datagrams are sent. Events have the LATEST FIRST.
use Rattle.std.specs.Prelude.{◌≡◌, ℕ, ◌<◌, ◌≤◌, ◌^◌, true, List, [], ◌∷◌, length}
use Rattle.std.specs.List.{AllByRecursion}
use Rattle.std.specs.declared.option.Option.{Option}
use Rattle.std.specs.declared.option.Option.TheVariants.{Some, None}
use Rattle.wire_spec.specs.Shapes.{Tree}
use Rattle.wire_spec.specs.Heads.{AgentAddress, unknown, ipv4, ipv6}
use Rattle.wire_spec.specs.Spelling.{IsLawful}
use Rattle.wire_spec.specs.Tables.{interface_counters}
use Rattle.agent_spec.specs.Sources.{Source, FlowSetup, CounterSetup}
use Rattle.agent_spec.specs.Samples.{Port, Packet, Content, Sampled, Counted, Sample}
use Rattle.agent_spec.specs.Events.{Event, Observe, Poll, Send, Reset}
use Rattle.agent_spec.specs.Spelled.{Form, Compact, Expanded, Sender, fits_in}
use Rattle.account_spec.specs.Histories.{SubAgent}

-- ---- set-ups

-- four bytes of IPv4, sixteen bytes of IPv6
abbrev pub IsAddress : AgentAddress → Type 0
IsAddress unknown = Unit {0}
IsAddress (ipv4 bytes) = length bytes ≡ 4
IsAddress (ipv6 bytes) = length bytes ≡ 16

pub record IsSender (s : Sender) : Type 0 where
  pub agent : IsAddress s.agent
  pub sub_agent : s.sub_agent < 2 ^ 32
  pub most : s.max_datagram ≤ 65535

-- the source can be said in this form: the class and the index in 8 and 24 bits, or in a word each
abbrev pub IsSourceIn : Form → Source → Type 0
IsSourceIn Compact s = (s.class < 2 ^ 8) × (s.index < 2 ^ 24)
IsSourceIn Expanded s = (s.class < 2 ^ 32) × (s.index < 2 ^ 32)

pub record IsFlowSetup (form : Form) (f : FlowSetup) : Type 0 where
  pub source : IsSourceIn form f.source
  pub rate : f.rate < 2 ^ 32

-- ---- events

-- a sample alone, whatever its number and counts
abbrev pub alone : Source → Content → Sample
alone source content = record {
  turn = record { source = source; generation = 1 };
  number = 0;
  pool = 0;
  drops = 0;
  rate = 0;
  content = content;
}

-- the port can be said in this form: the form and the value in 2 and 30 bits, or in a word each
abbrev pub IsPortIn : Form → Port → Type 0
IsPortIn Compact p = (p.form < 2 ^ 2) × (p.value < 2 ^ 30)
IsPortIn Expanded p = (p.form < 2 ^ 32) × (p.value < 2 ^ 32)

abbrev pub IsVlan : Option ℕ → Type 0
IsVlan None = Unit {0}
IsVlan (Some vlan) = vlan < 2 ^ 16

pub record IsPacketIn (form : Form) (p : Packet) : Type 0 where
  pub input : IsPortIn form p.input
  pub output : IsPortIn form p.output
  pub frame_length : p.frame_length < 2 ^ 32
  pub vlan : IsVlan p.vlan

-- a sample of the packet has room in a datagram of its own
pub record IsObserved (s : Sender) (source : Source) (p : Packet) : Type 0 where
  pub packet : IsPacketIn s.form p
  pub fits : fits_in s (alone source (Sampled p) ∷ []) ≡ true

-- interface counters, a sample of which has room in a datagram of its own
pub record IsPolled (s : Sender) (reading : Tree) : Type 0 where
  pub lawful : IsLawful interface_counters reading
  pub fits : (source : Source) → fits_in s (alone source (Counted reading) ∷ []) ≡ true

abbrev pub IsTaken : Sender → Event → Type 0
IsTaken s (Observe f packet) = IsObserved s f.source packet
IsTaken s (Poll now readings) = AllByRecursion (IsPolled s) readings
IsTaken s (Send now count) = now < 2 ^ 32
IsTaken s (Reset source) = Unit {0}

-- ---- histories

-- a datagram of a sub-agent has room for what its sender has room for
pub record IsAccepted (a : SubAgent) : Type 0 where
  pub sender : IsSender a.sender
  pub fits : (samples : List Sample) → a.setup.fits samples ≡ fits_in a.sender samples
  pub flows : AllByRecursion (IsFlowSetup a.sender.form) a.setup.flows
  pub counters : AllByRecursion (λ (c : CounterSetup). IsSourceIn a.sender.form c.source) a.setup.counters
  pub boots : AllByRecursion (AllByRecursion (IsTaken a.sender)) a.boots

abbrev pub AreAccepted : List SubAgent → Type 0
AreAccepted history = AllByRecursion IsAccepted history
