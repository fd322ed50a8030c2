-- What a sub-agent has issued, dropped, polled and sent by the events of one boot. Every list has the LATEST FIRST,
-- but the samples of a datagram stand in order of issue.
use Rattle.std.specs.Prelude.{◌≡◌, ◌⊎◌, ℕ, ◌+◌, ◌≤◌, nat_lt, Bool, cond, List, [], ◌∷◌, ◌++◌, length, map, reverse, take, drop}
use Rattle.std.specs.List.{filter, sum_by}
use Rattle.wire_spec.specs.Shapes.{Tree}
use Rattle.agent_spec.specs.Sources.{Source, Turn, same_turn, FlowSetup, CounterSetup}
use Rattle.agent_spec.specs.Samples.{Packet, Sampled, Counted, Sample, Datagram, Setup}
use Rattle.agent_spec.specs.Events.{Event, Observe, Poll, Send, Reset, turn_after}
use Rattle.agent_spec.specs.Marks.{is_marked}
use Rattle.agent_spec.specs.Polls.{is_due_after}
use Rattle.agent_spec.specs.Packing.{cut}

-- a poll of one source, at an uptime
pub record SourcePoll : Type 0 where
  pub turn : Turn
  pub uptime : ℕ

-- the packets seen, each by its source and generation; of those that were marked, the samples issued and the packets
-- dropped; the polls; the issued samples that haven't left; and the datagrams sent
pub record Boot : Type 0 where
  pub seen : List Turn
  pub issued : List Sample
  pub dropped : List Turn
  pub polled : List SourcePoll
  pub staged : List Sample
  pub sent : List Datagram

abbrev pub started : Boot
started = record { seen = []; issued = []; dropped = []; polled = []; staged = []; sent = [] }

-- ---- counts of a source in one generation

abbrev pub is_sample_of : Turn → Sample → Bool
is_sample_of turn s = same_turn turn s.turn

abbrev pub seen_in : Turn → Boot → ℕ
seen_in turn b = length (filter (same_turn turn) b.seen)

abbrev pub issued_in : Turn → Boot → ℕ
issued_in turn b = length (filter (is_sample_of turn) b.issued)

abbrev pub dropped_in : Turn → Boot → ℕ
dropped_in turn b = length (filter (same_turn turn) b.dropped)

-- the uptime of its last poll, or 0
abbrev pub last_poll : Turn → List SourcePoll → ℕ
last_poll turn [] = 0
last_poll turn (p ∷ before) = cond (same_turn turn p.turn) p.uptime (last_poll turn before)

-- ---- packets

abbrev pub issue : Sample → Boot → Boot
issue s b = record b { issued = s ∷ b.issued; staged = s ∷ b.staged }

-- the sample of a packet behind the packets and samples of this boot
abbrev pub flow_sample : FlowSetup → Turn → Packet → Boot → Sample
flow_sample f turn packet b = record {
  turn = turn;
  number = f.first + issued_in turn b;
  pool = f.pool + (1 + seen_in turn b);
  drops = f.drops + dropped_in turn b;
  rate = f.rate;
  content = Sampled packet;
}

abbrev pub with_seen : Turn → Boot → Boot
with_seen turn b = record b { seen = turn ∷ b.seen }

abbrev pub with_dropped : Turn → Boot → Boot
with_dropped turn b = record b { dropped = turn ∷ b.dropped }

-- a marked packet is issued where the stage has a place, and else dropped
abbrev pub after_packet : Setup → FlowSetup → Turn → Packet → Boot → Boot
after_packet s f turn packet b =
    with_seen turn (cond (is_marked f.skips (1 + seen_in turn b))
    (cond (nat_lt (length b.staged) s.stage) (issue (flow_sample f turn packet b) b) (with_dropped turn b))
    b)

-- ---- polls

abbrev pub is_due : ℕ → List Event → Boot → CounterSetup → Bool
is_due now before b c = is_due_after c.every (last_poll (turn_after c.source before) b.polled) now

-- the sources that are due, in the order of the setup
abbrev pub due_sources : Setup → ℕ → List Event → Boot → List CounterSetup
due_sources s now before b = filter (is_due now before b) s.counters

abbrev pub counter_sample : CounterSetup → Turn → Tree → Boot → Sample
counter_sample c turn reading b = record {
  turn = turn;
  number = c.first + issued_in turn b;
  pool = 0;
  drops = 0;
  rate = 0;
  content = Counted reading;
}

abbrev pub with_polled : Turn → ℕ → Boot → Boot
with_polled turn now b = record b { polled = record { turn = turn; uptime = now } ∷ b.polled }

-- a reading for each of the first sources that are due
abbrev pub after_poll : ℕ → List Event → List CounterSetup → List Tree → Boot → Boot
after_poll now before [] readings b = b
after_poll now before (c ∷ due) [] b = b
after_poll now before (c ∷ due) (reading ∷ more) b =
    let turn : Turn = turn_after c.source before in
    after_poll now before due more (with_polled turn now (issue (counter_sample c turn reading b) b))

-- ---- datagrams

-- the datagrams of what is staged
abbrev pub packed : Setup → Boot → List (List Sample)
packed s b = cut s.fits (reverse b.staged)

-- these datagrams behind those sent before, with the next numbers
abbrev pub with_sent : ℕ → ℕ → List (List Sample) → List Datagram → List Datagram
with_sent first now [] sent = sent
with_sent first now (d ∷ more) sent =
    with_sent first now more (record { number = first + length sent; uptime = now; samples = d } ∷ sent)

-- so many of the datagrams leave
abbrev pub after_send : Setup → ℕ → ℕ → Boot → Boot
after_send s now count b =
    let leaving : List (List Sample) = take count (packed s b) in
    record b {
      staged = reverse (drop (sum_by length leaving) (reverse b.staged));
      sent = with_sent s.first now leaving b.sent;
    }

-- ---- a boot

-- the boot after these events; a reset begins a generation, and changes nothing else
abbrev pub happened : Setup → List Event → Boot
happened s [] = started
happened s (Observe f packet ∷ before) = after_packet s f (turn_after f.source before) packet (happened s before)
happened s (Poll now readings ∷ before) =
    after_poll now before (due_sources s now before (happened s before)) readings (happened s before)
happened s (Send now count ∷ before) = after_send s now count (happened s before)
happened s (Reset source ∷ before) = happened s before

-- x is one of these
abbrev pub IsAmong : {X : Type 0} → X → List X → Type 0
IsAmong x [] = ⊥
IsAmong x (y ∷ more) = (x ≡ y) ⊎ IsAmong x more

-- the setup has this source
abbrev pub HasSource : Setup → Source → Type 0
HasSource s source =
    IsAmong source (map (λ (f : FlowSetup). f.source) s.flows ++ map (λ (c : CounterSetup). c.source) s.counters)

-- what may happen: packets and resets of sources of the setup, no more readings than sources that are due and places
-- in the stage, and no more datagrams than the stage gives
abbrev pub MayHappen : Setup → List Event → Type 0
MayHappen s [] = Unit {0}
MayHappen s (Observe f packet ∷ before) = IsAmong f s.flows × MayHappen s before
MayHappen s (Poll now readings ∷ before) =
    (length readings ≤ length (due_sources s now before (happened s before)))
    × (length (happened s before).staged + length readings ≤ s.stage) × MayHappen s before
MayHappen s (Send now count ∷ before) = (count ≤ length (packed s (happened s before))) × MayHappen s before
MayHappen s (Reset source ∷ before) = HasSource s source × MayHappen s before
