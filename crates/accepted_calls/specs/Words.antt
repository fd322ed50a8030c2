-- What the types of the program say of what a call is given: each number fits its word, and an address has its bytes.
use Rattle.std.specs.Prelude.{◌<◌, ◌^◌}
use Rattle.std.specs.List.{AllByRecursion}
use Rattle.data_format.specs.Addresses.{address_of}
use Rattle.data_format.specs.declared.source.SourceId.{SourceId}
use Rattle.data_format.specs.declared.port.Port.{Port}
use Rattle.agent_setups.specs.declared.setup.FlowSetup.{FlowSetup}
use Rattle.agent_setups.specs.declared.setup.CounterSetup.{CounterSetup}
use Rattle.agent_setups.specs.declared.setup.Setup.{Setup}
use Rattle.sub_agents.specs.declared.packet.Packet.{Packet}
use Rattle.delivered_items.specs.Accepted.{IsAddress, IsVlan}

abbrev pub IsPortOfWords : Port → Type 0
IsPortOfWords p = (p.form < 2 ^ 32) × (p.value < 2 ^ 32)

pub record IsPacketOfWords (p : Packet) : Type 0 where
  pub input : IsPortOfWords p.input
  pub output : IsPortOfWords p.output
  pub frame_length : p.frame_length < 2 ^ 32
  pub vlan : IsVlan p.vlan

abbrev pub IsSourceOfWords : SourceId → Type 0
IsSourceOfWords id = (id.class < 2 ^ 32) × (id.index < 2 ^ 32)

pub record IsSetupOfWords (s : Setup) : Type 0 where
  pub agent : IsAddress (address_of s.agent)
  pub sub_agent : s.sub_agent < 2 ^ 32
  pub flows : AllByRecursion (λ (f : FlowSetup). IsSourceOfWords f.source × (f.rate < 2 ^ 32)) s.flows.items
  pub counters : AllByRecursion (λ (c : CounterSetup). IsSourceOfWords c.source) s.counters.items
