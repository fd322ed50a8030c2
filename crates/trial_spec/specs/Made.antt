-- The made run: from a seed and a number of packets, the history of one sub-agent that restarts once, and what is delivered
-- of it: most datagrams once, some twice, some never, and some behind the next one. Numbers are drawn from the state of a
-- linear congruential generator of 64 bits. Events and deliveries have the LATEST FIRST.
use Rattle.std.specs.Prelude.{ℕ, zero, suc, ◌+◌, ◌*◌, ◌/◌, ◌%◌, ◌==◌, not, Bool, true, false, cond, ◌&&◌, ◌||◌, Option, Some, None, is_none, List, [], ◌∷◌, length, map, drop, reverse}
use Rattle.wire_spec.specs.Heads.{ipv4}
use Rattle.books_spec.specs.Items.{Stream}
use Rattle.agent_spec.specs.Sources.{FlowSetup, CounterSetup}
use Rattle.agent_spec.specs.Samples.{Packet, Datagram, Setup}
use Rattle.agent_spec.specs.Events.{Event, Observe}
use Rattle.agent_spec.specs.Boots.{happened}
use Rattle.agent_spec.specs.Spelled.{Sender, Compact, fits_in}
use Rattle.script_spec.specs.Agents.{poll_at, send_at}
use Rattle.account_spec.specs.Histories.{SubAgent}
use Rattle.account_spec.specs.Deliveries.{Delivery}

-- ---- draws

-- the state after a draw
abbrev pub next_state : ℕ → ℕ
next_state x = (x * 6364136223846793005 + 1442695040888963407) % 18446744073709551616

-- the number below n that a draw gives, by the state after it
abbrev pub drawn : ℕ → ℕ → ℕ
drawn n x = (x / 8589934592) % n

-- so many draws below n, one after the other
abbrev pub all_drawn : ℕ → ℕ → ℕ → List ℕ
all_drawn zero n x = []
all_drawn (suc count) n x = drawn n (next_state x) ∷ all_drawn count n (next_state x)

-- the state after so many draws
abbrev pub state_after : ℕ → ℕ → ℕ
state_after zero x = x
state_after (suc count) x = state_after count (next_state x)

-- ---- the sub-agent

abbrev pub made_sender : Sender
made_sender =
    record { agent = ipv4 (10 ∷ 0 ∷ 0 ∷ 1 ∷ []); sub_agent = 1; form = Compact; max_datagram = 1400 }

abbrev pub made_stream : Stream
made_stream = record { agent = made_sender.agent; sub_agent = 1 }

-- the skip numbers are the first draws: 64 from 1 to 19
abbrev pub made_flow : ℕ → FlowSetup
made_flow seed = record {
  source = record { flow = true; class = 0; index = 1 };
  rate = 10;
  skips = map (λ k. 1 + k) (all_drawn 64 19 seed);
  first = 4294967280;
  pool = 4294967000;
  drops = 0;
}

abbrev pub made_counter : CounterSetup
made_counter = record { source = record { flow = false; class = 0; index = 1 }; every = 1000; first = 1 }

abbrev pub made_setup : ℕ → Setup
made_setup seed = record {
  stage = 16;
  first = 4294967290;
  flows = made_flow seed ∷ [];
  counters = made_counter ∷ [];
  fits = fits_in made_sender;
}

-- ---- the run so far

-- a datagram of a boot
abbrev pub Sent : Type 0
Sent = ℕ × Datagram

-- the state of the draws; the arrival in ms of the uptime 0 of this boot, its packets and events; the boots before it, the
-- latest first; a datagram that is held back; and what was delivered
pub record Made : Type 0 where
  pub state : ℕ
  pub base : ℕ
  pub packets : ℕ
  pub events : List Event
  pub earlier : List (List Event)
  pub held : Option Sent
  pub deliveries : List Delivery

abbrev pub begun : ℕ → Made
begun seed = record {
  state = state_after 64 seed;
  base = 1000000;
  packets = 0;
  events = [];
  earlier = [];
  held = None;
  deliveries = [];
}

abbrev pub boot_number : Made → ℕ
boot_number m = 1 + length m.earlier

-- a packet is seen each 10 ms
abbrev pub uptime : Made → ℕ
uptime m = 10 * m.packets

-- ---- deliveries

-- a datagram arrives up to 49 ms after the uptime, by one draw
abbrev pub arrives : Sent → Made → Made
arrives s m = record m {
  state = next_state m.state;
  deliveries = record {
    stream = made_stream;
    boot = s.0;
    datagram = s.1;
    arrival = m.base + uptime m + drawn 50 (next_state m.state);
  } ∷ m.deliveries;
}

abbrev pub arrives_times : ℕ → Sent → Made → Made
arrives_times zero s m = m
arrives_times (suc times) s m = arrives_times times s (arrives s m)

-- what is held arrives
abbrev pub released_of : Option Sent → Made → Made
released_of None m = m
released_of (Some s) m = arrives s (record m { held = None })

abbrev pub released : Made → Made
released m = released_of m.held m

-- how often a datagram arrives, by a draw from 0 to 15
abbrev pub times_of : ℕ → ℕ
times_of c = cond (c == 0) 0 (cond (c == 1) 2 1)

abbrev pub decided_by : ℕ → Sent → Made → Made
decided_by c s m =
    cond ((c == 2) && is_none m.held) (record m { held = Some s }) (released (arrives_times (times_of c) s m))

-- a datagram is held where the draw is 2 and none is held; else it arrives as often as the draw says, and then what is held
abbrev pub decided : Sent → Made → Made
decided s m = decided_by (drawn 16 (next_state m.state)) s (record m { state = next_state m.state })

abbrev pub all_decided : ℕ → List Datagram → Made → Made
all_decided boot [] m = m
all_decided boot (d ∷ more) m = all_decided boot more (decided (boot, d) m)

-- ---- one packet more

-- a frame between two Ethernet addresses with the type of IPv4 and the first two bytes of its header, and 32 bytes that are
-- drawn
abbrev pub frame : List ℕ → List ℕ
frame bytes = 255 ∷ 255 ∷ 255 ∷ 255 ∷ 255 ∷ 255 ∷ 2 ∷ 0 ∷ 0 ∷ 0 ∷ 0 ∷ 1 ∷ 8 ∷ 0 ∷ 69 ∷ 0 ∷ bytes

-- the length is drawn before the bytes
abbrev pub made_packet : ℕ → Packet
made_packet x = record {
  input = record { form = 0; value = 1 };
  output = record { form = 0; value = 2 };
  frame_length = 64 + drawn 1455 (next_state x);
  vlan = None;
  header = frame (all_drawn 32 256 (next_state x));
}

abbrev pub observed : ℕ → Made → Made
observed seed m = record m {
  state = state_after 33 m.state;
  packets = m.packets + 1;
  events = Observe (made_flow seed) (made_packet m.state) ∷ m.events;
}

abbrev pub with_event : Event → Made → Made
with_event e m = record m { events = e ∷ m.events }

abbrev pub polled : ℕ → Made → Made
polled seed m = with_event (poll_at (made_setup seed) (uptime m) m.events) m

abbrev pub sent_so_far : ℕ → Made → List Datagram
sent_so_far seed m = reverse (happened (made_setup seed) m.events).sent

-- all that waits is sent, and what becomes of each datagram is decided in its turn
abbrev pub sent_after : ℕ → List Datagram → Made → Made
sent_after seed before m = all_decided (boot_number m) (drop (length before) (sent_so_far seed m)) m

abbrev pub sent_all : ℕ → Made → Made
sent_all seed m =
    sent_after seed (sent_so_far seed m) (with_event (send_at (made_setup seed) (uptime m) m.events) m)

-- what is held arrives, and a boot begins a minute after this one's uptime
abbrev pub restarted : Made → Made
restarted m = record m {
  base = m.base + (uptime m + 60000);
  packets = 0;
  events = [];
  earlier = m.events ∷ m.earlier;
}

-- at each 32nd packet, at the middle one and at the last a poll and a send; and a restart at the middle one
abbrev pub is_sent : ℕ → ℕ → Bool
is_sent total k = (k % 32 == 0) || ((k == total) || (k == total / 2))

abbrev pub is_last_of_boot : ℕ → ℕ → Bool
is_last_of_boot total k = (k == total / 2) && not (k == total)

abbrev pub sent_if : Bool → ℕ → Made → Made
sent_if true seed m = sent_all seed (polled seed m)
sent_if false seed m = m

abbrev pub restarted_if : Bool → Made → Made
restarted_if true m = restarted (released m)
restarted_if false m = m

abbrev pub with_packet : ℕ → ℕ → ℕ → Made → Made
with_packet seed total k m =
    restarted_if (is_last_of_boot total k) (sent_if (is_sent total k) seed (observed seed m))

-- the first k of so many packets
abbrev pub made_until : ℕ → ℕ → ℕ → Made
made_until seed total zero = begun seed
made_until seed total (suc k) = with_packet seed total (suc k) (made_until seed total k)

-- ---- the whole run

abbrev pub made : ℕ → ℕ → Made
made seed packets = released (made_until seed packets packets)

abbrev pub boots_made : Made → List (List Event)
boots_made m = reverse (m.events ∷ m.earlier)

abbrev pub made_history : ℕ → ℕ → List SubAgent
made_history seed packets =
    record { sender = made_sender; setup = made_setup seed; boots = boots_made (made seed packets) } ∷ []

abbrev pub made_deliveries : ℕ → ℕ → List Delivery
made_deliveries seed packets = (made seed packets).deliveries
