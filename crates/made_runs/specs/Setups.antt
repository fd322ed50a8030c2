-- The set-up of the sub-agent of a made run.
use Rattle.std.specs.Prelude.{◌≡◌, ℕ, Bool, true, false, map}
use Rattle.data_format.specs.Addresses.{address_of}
use Rattle.data_format.specs.declared.source.SourceId.{SourceId}
use Rattle.agent_spec.specs.Sources as spec
use Rattle.agent_setups.specs.declared.setup.FlowSetup.{FlowSetup}
use Rattle.agent_setups.specs.declared.setup.CounterSetup.{CounterSetup}
use Rattle.agent_setups.specs.declared.setup.Setup.{Setup}
use Rattle.trial_spec.specs.Made.{made_sender, made_setup}

-- set-ups as an agent's history has them
abbrev pub source_as : Bool → SourceId → spec.Source
source_as flow id = record { flow = flow; class = id.class; index = id.index }

abbrev pub flow_as : FlowSetup → spec.FlowSetup
flow_as f = record {
  source = source_as true f.source;
  rate = f.rate;
  skips = f.skips;
  first = f.first;
  pool = f.pool;
  drops = f.drops;
}

abbrev pub counter_as : CounterSetup → spec.CounterSetup
counter_as c = record { source = source_as false c.source; every = c.every; first = c.first }

-- it says the sender and the set-up of the made run of this seed
pub record IsMadeSetup (seed : ℕ) (u : Setup) : Type 0 where
  pub agent : address_of u.agent ≡ made_sender.agent
  pub sub_agent : u.sub_agent ≡ made_sender.sub_agent
  pub max_datagram : u.max_datagram ≡ made_sender.max_datagram
  pub stage : u.stage ≡ (made_setup seed).stage
  pub first : u.first ≡ (made_setup seed).first
  pub flows : map flow_as u.flows.items ≡ (made_setup seed).flows
  pub counters : map counter_as u.counters.items ≡ (made_setup seed).counters
