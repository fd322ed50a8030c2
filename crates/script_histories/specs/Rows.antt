-- Scripts of the worked rows, and what they are. Every list of lines, events and deliveries has the LATEST FIRST.
use Rattle.std.specs.Prelude.{ℕ, List, [], ◌∷◌}
use Rattle.wire_spec.specs.Heads.{ipv4}
use Rattle.books_spec.specs.Items.{Stream}
use Rattle.agent_spec.specs.Sources.{FlowSetup}
use Rattle.agent_spec.specs.Samples.{Sampled, Datagram}
use Rattle.agent_spec.specs.Events.{Event, Observe, Send}
use Rattle.agent_spec.specs.Spelled.{Sender, Compact, fits_in}
use Rattle.account_spec.specs.Histories.{SubAgent}
use Rattle.account_spec.specs.Deliveries.{Delivery}
use Rattle.script_spec.specs.Lines as script
use Rattle.script_spec.specs.Lines.{Line, MaxLine, SubLine, FlowLine, PacketLine, SendLine, RestartLine, DeliverLine, flow_at}
use Rattle.script_spec.specs.Rows.{at_place, agent, packet}

-- a source of which each packet is sampled
abbrev pub each_packet : ℕ → FlowSetup
each_packet index =
    record { source = flow_at (at_place index); rate = 1; skips = 1 ∷ []; first = 1; pool = 0; drops = 0 }

abbrev pub delivery : ℕ → ℕ → ℕ → script.Delivery
delivery id boot at = record { id = id; boot = boot; number = 1; at = at }

-- a packet of the sub-agent's one source, and a send
abbrev pub sample_sent : ℕ → ℕ → List Line → List Line
sample_sent id now before = SendLine id now ∷ PacketLine (at_place id) packet ∷ before

-- a boot with a datagram, a restart, and another boot with a datagram; that of the second boot arrives first
abbrev pub restarted : List Line
restarted =
    DeliverLine (delivery 1 1 9900) ∷ DeliverLine (delivery 1 2 9800) ∷ sample_sent 1 700 (RestartLine 1 9000
    ∷ sample_sent 1 500 (FlowLine 1 (each_packet 1) ∷ SubLine (agent 1 2) ∷ []))

-- two sub-agents, each with a source of its own, by turns
abbrev pub both_sent : List Line
both_sent =
    DeliverLine (delivery 2 1 3000) ∷ sample_sent 1 600 (DeliverLine (delivery 1 1 2000) ∷ sample_sent 2 500 (sample_sent 1 400
    (FlowLine 2 (each_packet 2) ∷ FlowLine 1 (each_packet 1) ∷ SubLine (agent 2 2) ∷ SubLine (agent 1 2) ∷ [])))

-- no sub-agents
abbrev pub nobody_there : List Line
nobody_there = MaxLine 600 ∷ []

-- ---- what they are

abbrev pub sender : ℕ → Sender
sender id = record { agent = ipv4 (10 ∷ 0 ∷ 0 ∷ 1 ∷ []); sub_agent = id; form = Compact; max_datagram = 1400 }

abbrev pub stream : ℕ → Stream
stream id = record { agent = ipv4 (10 ∷ 0 ∷ 0 ∷ 1 ∷ []); sub_agent = id }

-- a sub-agent with one source, of the index that is its ID
abbrev pub sub_agent : ℕ → List (List Event) → SubAgent
sub_agent id boots = record {
  sender = sender id;
  setup = record { stage = 2; first = 1; flows = each_packet id ∷ []; counters = []; fits = fits_in (sender id) };
  boots = boots;
}

abbrev pub sent_at : ℕ → ℕ → List Event → List Event
sent_at id now before = Send now 1 ∷ Observe (each_packet id) packet ∷ before

-- the first datagram of a boot
abbrev pub first_datagram : ℕ → ℕ → Datagram
first_datagram id now = record {
  number = 1;
  uptime = now;
  samples = record {
    turn = record { source = flow_at (at_place id); generation = 1 };
    number = 1;
    pool = 1;
    drops = 0;
    rate = 1;
    content = Sampled packet;
  } ∷ [];
}

abbrev pub arrival : ℕ → ℕ → ℕ → ℕ → Delivery
arrival id boot now at =
    record { stream = stream id; boot = boot; datagram = first_datagram id now; arrival = at }
