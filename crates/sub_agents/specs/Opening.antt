-- The first boot of a sub-agent that was set up.
use Rattle.std.specs.Prelude.{[], map}
use Rattle.data_format.specs.Addresses.{address_of}
use Rattle.data_format.specs.declared.heads.Form.{Form}
use Rattle.agent_spec.specs.Sources as spec
use Rattle.agent_spec.specs.Spelled.{Sender, fits_in}
use Rattle.agent_setups.specs.declared.setup.FlowSetup.{FlowSetup}
use Rattle.agent_setups.specs.declared.setup.CounterSetup.{CounterSetup}
use Rattle.agent_setups.specs.declared.setup.Setup.{Setup}
use Rattle.sub_agents.specs.Setups.{form_of, flow_source, counter_source}
use Rattle.sub_agents.specs.SubAgents.{BootSoFar}

-- set-ups as an agent's history has them
abbrev pub sampled_as : FlowSetup → spec.FlowSetup
sampled_as f = record {
  source = flow_source f.source;
  rate = f.rate;
  skips = f.skips;
  first = f.first;
  pool = f.pool;
  drops = f.drops;
}

abbrev pub polled_as : CounterSetup → spec.CounterSetup
polled_as c = record { source = counter_source c.source; every = c.every; first = c.first }

abbrev pub sender_in : Form → Setup → Sender
sender_in form s = record {
  agent = address_of s.agent;
  sub_agent = s.sub_agent;
  form = form_of form;
  max_datagram = s.max_datagram;
}

-- the boot with which a sub-agent begins: nothing has happened in it
abbrev pub first_boot : Form → Setup → BootSoFar
first_boot form s = record {
  sender = sender_in form s;
  setup = record {
    stage = s.stage;
    first = s.first;
    flows = map sampled_as s.flows.items;
    counters = map polled_as s.counters.items;
    fits = fits_in (sender_in form s);
  };
  number = 1;
  events = [];
}
