-- Short forms in which worked histories are written.
use Rattle.std.specs.Prelude.{ℕ, zero, suc, nat_le, Bool, true, false, List, [], ◌∷◌, length, map, sum}
use Rattle.std.specs.declared.option.Option.TheVariants.{None}
use Rattle.wire_spec.specs.Shapes.{Tree, none, ◌&◌}
use Rattle.wire_spec.specs.Heads.{ipv4}
use Rattle.agent_spec.specs.Sources.{Source, FlowSetup, CounterSetup}
use Rattle.agent_spec.specs.Samples.{Packet, Sampled, Counted, Sample, Datagram, Setup}
use Rattle.agent_spec.specs.Events.{Event, Observe}
use Rattle.agent_spec.specs.Spelled.{Sender, Compact}
use Rattle.agent_spec.specs.Boots.{happened, due_sources}

-- a source of flow samples, and one of counters samples with this index
abbrev pub flow : Source
flow = record { flow = true; class = 0; index = 5 }

abbrev pub counter : ℕ → Source
counter index = record { flow = false; class = 0; index = index }

-- one packet of 3 or 2 by turns, from the number 1 on
abbrev pub sampled : FlowSetup
sampled = record { source = flow; rate = 3; skips = 3 ∷ 2 ∷ []; first = 1; pool = 0; drops = 0 }

abbrev pub each_second : ℕ → CounterSetup
each_second index = record { source = counter index; every = 1000; first = 1 }

-- a datagram has room for two samples
abbrev pub two_fit : List Sample → Bool
two_fit samples = nat_le (length samples) 2

-- a sub-agent with a stage of so many samples
abbrev pub sub_agent : ℕ → Setup
sub_agent stage = record {
  stage = stage;
  first = 1;
  flows = sampled ∷ [];
  counters = each_second 1 ∷ each_second 2 ∷ [];
  fits = two_fit;
}

abbrev pub any_packet : Packet
any_packet = record {
  input = record { form = 0; value = 1 };
  output = record { form = 0; value = 2 };
  frame_length = 64;
  vlan = None;
  header = [];
}

-- so many packets after these events
abbrev pub packets : ℕ → List Event → List Event
packets zero before = before
packets (suc n) before = Observe sampled any_packet ∷ packets n before

abbrev pub any_reading : Tree
any_reading = Tree.word 7

abbrev pub flow_at : ℕ → ℕ → ℕ → ℕ → Sample
flow_at generation number pool drops = record {
  turn = record { source = flow; generation = generation };
  number = number;
  pool = pool;
  drops = drops;
  rate = 3;
  content = Sampled any_packet;
}

abbrev pub reading_at : ℕ → ℕ → ℕ → Sample
reading_at index generation number = record {
  turn = record { source = counter index; generation = generation };
  number = number;
  pool = 0;
  drops = 0;
  rate = 0;
  content = Counted any_reading;
}

-- the datagrams sent, the latest first: number, uptime and samples
abbrev pub sent : ℕ → List Event → List Datagram
sent stage events = (happened (sub_agent stage) events).sent

abbrev pub issued : ℕ → List Event → List Sample
issued stage events = (happened (sub_agent stage) events).issued

abbrev pub staged : ℕ → List Event → List Sample
staged stage events = (happened (sub_agent stage) events).staged

-- which counter sources are due, by their indexes
abbrev pub due : ℕ → ℕ → List Event → List ℕ
due stage now events =
    map (λ (c : CounterSetup). c.source.index)
    (due_sources (sub_agent stage) now events (happened (sub_agent stage) events))

-- numbers of which some fit together
abbrev pub up_to_five : List ℕ → Bool
up_to_five numbers = nat_le (sum numbers) 5

-- agent 10.0.0.1, in the compact form, with 144 bytes a datagram
abbrev pub small_sender : Sender
small_sender =
    record { agent = ipv4 (10 ∷ 0 ∷ 0 ∷ 1 ∷ []); sub_agent = 0; form = Compact; max_datagram = 144 }

-- the counters of an interface that has counted nothing
abbrev pub all_counters : Tree
all_counters = Tree.structure (
    Tree.word 1 & Tree.word 6 & Tree.hyper 1000000000 & Tree.word 1 & Tree.word 3 & Tree.hyper 0 & Tree.word 0 &
    Tree.word 0 & Tree.word 0 & Tree.word 0 & Tree.word 0 & Tree.word 0 & Tree.hyper 0 & Tree.word 0 & Tree.word 0 &
    Tree.word 0 & Tree.word 0 & Tree.word 0 & Tree.word 2 & none)

abbrev pub counter_reading : Sample
counter_reading = record {
  turn = record { source = counter 1; generation = 1 };
  number = 1;
  pool = 0;
  drops = 0;
  rate = 0;
  content = Counted all_counters;
}
