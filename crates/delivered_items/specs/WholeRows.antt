-- A history as its agent takes it, and deliveries of it that meet all premises: a sub-agent of one flow source and one
-- counters source, whose datagrams are lost, come twice, out of order and too late, which resets its flow source and
-- restarts; the numbers of datagrams and samples, the pool, the drops and the uptime pass 2^32.
-- Events and deliveries have the LATEST FIRST.
use Rattle.std.specs.Prelude.{ℕ, true, false, List, [], ◌∷◌}
use Rattle.std.specs.declared.option.Option.TheVariants.{None}
use Rattle.wire_spec.specs.Heads.{ipv4}
use Rattle.agent_spec.specs.Sources.{Source, FlowSetup, CounterSetup}
use Rattle.agent_spec.specs.Samples.{Packet, Sampled, Counted, Sample, Datagram, Setup}
use Rattle.agent_spec.specs.Events.{Event, Observe, Poll, Send, Reset}
use Rattle.agent_spec.specs.Spelled.{Sender, Compact, fits_in}
use Rattle.agent_spec.specs.Rows.{all_counters}
use Rattle.account_spec.specs.Histories.{SubAgent}
use Rattle.account_spec.specs.Deliveries.{Delivery}
use Rattle.books_spec.specs.Rows.{figures}
use Rattle.books_spec.specs.BookRows.{sound_totals}
use Rattle.books_spec.specs.Views.{view_with}
use Rattle.books_spec.specs.WholeBooks.{WholeBooks}

-- ---- the sub-agent

abbrev pub port : Source
port = record { flow = true; class = 0; index = 5 }

abbrev pub interface : Source
interface = record { flow = false; class = 0; index = 5 }

-- each packet is sampled
abbrev pub packets : FlowSetup
packets = record {
  source = port;
  rate = 1;
  skips = 1 ∷ [];
  first = 4294967294;
  pool = 4294967294;
  drops = 4294967295;
}

abbrev pub polls : CounterSetup
polls = record { source = interface; every = 1000; first = 4294967295 }

abbrev pub sender : Sender
sender = record { agent = ipv4 (10 ∷ 0 ∷ 0 ∷ 1 ∷ []); sub_agent = 0; form = Compact; max_datagram = 1400 }

-- two samples wait at most
abbrev pub set_up : Setup
set_up = record {
  stage = 2;
  first = 4294967295;
  flows = packets ∷ [];
  counters = polls ∷ [];
  fits = fits_in sender;
}

-- ---- its boots

abbrev pub packet : Packet
packet = record {
  input = record { form = 0; value = 1 };
  output = record { form = 0; value = 2 };
  frame_length = 64;
  vlan = None;
  header = [];
}

-- a packet and a poll, and a send of both samples
abbrev pub both_sent : ℕ → List Event → List Event
both_sent uptime before = Send uptime 1 ∷ Poll uptime (all_counters ∷ []) ∷ Observe packets packet ∷ before

-- three packets, of which the last finds no place, and a send
abbrev pub two_of_three_sent : ℕ → List Event → List Event
two_of_three_sent uptime before =
    Send uptime 1 ∷ Observe packets packet ∷ Observe packets packet ∷ Observe packets packet ∷ before

-- a packet, and a send
abbrev pub one_sent : ℕ → List Event → List Event
one_sent uptime before = Send uptime 1 ∷ Observe packets packet ∷ before

abbrev pub until_the_reset : List Event
until_the_reset = one_sent 200 (two_of_three_sent 100 (both_sent 4294967000 []))

abbrev pub first_boot : List Event
first_boot = one_sent 95000 (one_sent 90000 (both_sent 1300 (Reset port ∷ until_the_reset)))

abbrev pub second_boot : List Event
second_boot = one_sent 700 []

abbrev pub whole_history : List SubAgent
whole_history = record { sender = sender; setup = set_up; boots = first_boot ∷ second_boot ∷ [] } ∷ []

-- ---- what is delivered

abbrev pub flow_sample : ℕ → ℕ → ℕ → ℕ → Sample
flow_sample generation number pool drops = record {
  turn = record { source = port; generation = generation };
  number = number;
  pool = pool;
  drops = drops;
  rate = 1;
  content = Sampled packet;
}

abbrev pub counters_sample : ℕ → Sample
counters_sample number = record {
  turn = record { source = interface; generation = 1 };
  number = number;
  pool = 0;
  drops = 0;
  rate = 0;
  content = Counted all_counters;
}

abbrev pub datagram : ℕ → ℕ → List Sample → Datagram
datagram number uptime samples = record { number = number; uptime = uptime; samples = samples }

abbrev pub delivery : ℕ → ℕ → Datagram → Delivery
delivery arrival boot d = record {
  stream = record { agent = ipv4 (10 ∷ 0 ∷ 0 ∷ 1 ∷ []); sub_agent = 0 };
  boot = boot;
  datagram = d;
  arrival = arrival;
}

-- of the first boot: the first five, and the last
abbrev pub sent_first : Datagram
sent_first = datagram 4294967295 4294967000
    (flow_sample 1 4294967294 4294967295 4294967295 ∷ counters_sample 4294967295 ∷ [])

abbrev pub sent_second : Datagram
sent_second = datagram 4294967296 100
    (flow_sample 1 4294967295 4294967296 4294967295 ∷ flow_sample 1 4294967296 4294967297 4294967295 ∷ [])

abbrev pub sent_third : Datagram
sent_third = datagram 4294967297 200 (flow_sample 1 4294967297 4294967299 4294967296 ∷ [])

abbrev pub sent_fourth : Datagram
sent_fourth = datagram 4294967298 1300
    (flow_sample 2 4294967294 4294967295 4294967295 ∷ counters_sample 4294967296 ∷ [])

-- (the fifth is lost)
abbrev pub sent_sixth : Datagram
sent_sixth = datagram 4294967300 95000 (flow_sample 2 4294967296 4294967297 4294967295 ∷ [])

abbrev pub sent_again : Datagram
sent_again = datagram 4294967295 700 (flow_sample 1 4294967294 4294967295 4294967295 ∷ [])

-- the third before the second, which comes twice; and the sixth once more behind the restart, where it is stale
abbrev pub whole_deliveries : List Delivery
whole_deliveries =
    delivery 5000100200 1 sent_sixth
    ∷ delivery 5000100000 2 sent_again
    ∷ delivery 5000095400 1 sent_sixth
    ∷ delivery 5000001600 1 sent_fourth
    ∷ delivery 5000000650 1 sent_second
    ∷ delivery 5000000600 1 sent_second
    ∷ delivery 5000000500 1 sent_third
    ∷ delivery 5000000000 1 sent_first ∷ []

-- ---- what a collector is to show: the fifth datagram of the first boot is lost, with its sample; nothing else is

abbrev pub whole_account : WholeBooks
whole_account = record {
  totals = sound_totals 8 0 0 0;
  streams = record {
    stream = record { agent = ipv4 (10 ∷ 0 ∷ 0 ∷ 1 ∷ []); sub_agent = 0 };
    boots = 2;
    view = view_with (figures 7 6 0 1 1 0) 0 0 0;
    stale = 1;
  } ∷ [];
  sources = record {
    stream = 1;
    id = record { flow = true; class = 0; index = 5 };
    view = record { generations = 3; ledger = view_with (figures 8 7 0 1 0 0) 6 1 1; stale = 0 };
  } ∷ record {
    stream = 1;
    id = record { flow = false; class = 0; index = 5 };
    view = record { generations = 1; ledger = view_with (figures 2 2 0 0 0 0) 0 0 0; stale = 0 };
  } ∷ [];
  interfaces = record {
    stream = 1;
    id = record { flow = false; class = 0; index = 5 };
    view = record { samples = 2; rises = 0 ∷ 0 ∷ 0 ∷ 0 ∷ 0 ∷ 0 ∷ 0 ∷ 0 ∷ 0 ∷ 0 ∷ 0 ∷ 0 ∷ 0 ∷ [] };
  } ∷ [];
}
