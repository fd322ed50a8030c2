-- Short forms in which the worked rows are written. Events and deliveries have the LATEST FIRST.
use Rattle.std.specs.Prelude.{ℕ, true, false, List, [], ◌∷◌}
use Rattle.std.specs.declared.option.Option.TheVariants.{Some}
use Rattle.wire_spec.specs.Heads.{ipv4}
use Rattle.agent_spec.specs.Sources.{FlowSetup, CounterSetup}
use Rattle.agent_spec.specs.Samples.{Packet, Sampled, Counted, Datagram}
use Rattle.agent_spec.specs.Events.{Event, Observe, Poll, Send}
use Rattle.agent_spec.specs.Spelled.{Form, Compact, Expanded, Sender, fits_in}
use Rattle.agent_spec.specs.Rows.{all_counters}
use Rattle.account_spec.specs.Histories.{SubAgent}
use Rattle.account_spec.specs.Deliveries.{Delivery}

-- a packet of a VLAN, of which five bytes are known
abbrev pub packet : Packet
packet = record {
  input = record { form = 0; value = 1 };
  output = record { form = 0; value = 2 };
  frame_length = 64;
  vlan = Some 7;
  header = 1 ∷ 2 ∷ 3 ∷ 4 ∷ 5 ∷ [];
}

-- each packet of a class and index is sampled
abbrev pub sampled : ℕ → ℕ → FlowSetup
sampled class index = record {
  source = record { flow = true; class = class; index = index };
  rate = 1;
  skips = 1 ∷ [];
  first = 1;
  pool = 0;
  drops = 0;
}

abbrev pub polled : ℕ → ℕ → CounterSetup
polled class index =
    record { source = record { flow = false; class = class; index = index }; every = 1000; first = 1 }

abbrev pub sender : ℕ → Form → Sender
sender n form = record { agent = ipv4 (10 ∷ 0 ∷ 0 ∷ 1 ∷ []); sub_agent = n; form = form; max_datagram = 1400 }

-- a packet, a poll, and a send of both samples
abbrev pub both_kinds : ℕ → ℕ → List Event
both_kinds class index =
    Send 2000 1 ∷ Poll 2000 (all_counters ∷ []) ∷ Observe (sampled class index) packet ∷ []

abbrev pub sub_agent : ℕ → Form → ℕ → ℕ → SubAgent
sub_agent n form class index = record {
  sender = sender n form;
  setup = record {
    stage = 2;
    first = 1;
    flows = sampled class index ∷ [];
    counters = polled class index ∷ [];
    fits = fits_in (sender n form);
  };
  boots = both_kinds class index ∷ [];
}

-- the datagram of both samples
abbrev pub of_both : ℕ → ℕ → Datagram
of_both class index = record {
  number = 1;
  uptime = 2000;
  samples = record {
    turn = record { source = record { flow = true; class = class; index = index }; generation = 1 };
    number = 1;
    pool = 1;
    drops = 0;
    rate = 1;
    content = Sampled packet;
  } ∷ record {
    turn = record { source = record { flow = false; class = class; index = index }; generation = 1 };
    number = 1;
    pool = 0;
    drops = 0;
    rate = 0;
    content = Counted all_counters;
  } ∷ [];
}

abbrev pub delivery : ℕ → ℕ → ℕ → Delivery
delivery n class index = record {
  stream = record { agent = ipv4 (10 ∷ 0 ∷ 0 ∷ 1 ∷ []); sub_agent = n };
  boot = 1;
  datagram = of_both class index;
  arrival = 5000;
}

-- two sub-agents, one in each form, with the greatest sources that these can say
abbrev pub both_forms : List SubAgent
both_forms = sub_agent 0 Compact 255 16777215 ∷ sub_agent 1 Expanded 255 4294967295 ∷ []

abbrev pub of_both_forms : List Delivery
of_both_forms = delivery 1 255 4294967295 ∷ delivery 0 255 16777215 ∷ []

-- a sub-agent in the compact form, of this class
abbrev pub of_class : ℕ → List SubAgent
of_class class = sub_agent 0 Compact class 5 ∷ []
