-- Short forms in which worked scripts are written. Every list of lines has the latest first.
use Rattle.std.specs.Prelude.{ℕ, zero, suc, List, [], ◌∷◌, ◌++◌, length, map, replicate, flat_map, Some, None}
use Rattle.wire_spec.specs.Captures.{Entry}
use Rattle.wire_spec.specs.Heads.{ipv4}
use Rattle.agent_spec.specs.Sources.{FlowSetup, CounterSetup}
use Rattle.agent_spec.specs.Samples.{Packet}
use Rattle.script_spec.specs.Words.{Text}
use Rattle.script_spec.specs.Values.{Place}
use Rattle.script_spec.specs.Lines.{Line, SubLine, FlowLine, CounterLine, PacketLine, PollLine, SendLine, ResetLine, SubAgent, Delivery, flow_at, counter_at}
use Rattle.script_spec.specs.Forms.{single}
use Rattle.script_spec.specs.Sent.{all_sent}

-- lines of text, each with its line feed
abbrev pub text_of : List Text → List ℕ
text_of lines = flat_map (λ line. line ++ 10 ∷ []) lines

abbrev pub at_place : ℕ → Place
at_place index = record { class = 0; index = index }

-- a sub-agent of 10.0.0.1 whose stage holds so many samples
abbrev pub agent : ℕ → ℕ → SubAgent
agent id stage = record { id = id; address = ipv4 (10 ∷ 0 ∷ 0 ∷ 1 ∷ []); first = 1; at = 1000; stage = stage }

-- one packet of 3 or 2 by turns
abbrev pub sampled : ℕ → FlowSetup
sampled index =
    record { source = flow_at (at_place index); rate = 3; skips = 3 ∷ 2 ∷ []; first = 1; pool = 0; drops = 0 }

abbrev pub polled : ℕ → CounterSetup
polled index = record { source = counter_at (at_place index); every = 1000; first = 1 }

abbrev pub packet : Packet
packet = record { input = single 5; output = single 6; vlan = None; frame_length = 64; header = [] }

abbrev pub packets : ℕ → ℕ → List Line → List Line
packets index zero before = before
packets index (suc n) before = PacketLine (at_place index) packet ∷ packets index n before

-- one sub-agent with one flow source
abbrev pub set_up : ℕ → List Line
set_up index = FlowLine 1 (sampled index) ∷ SubLine (agent 1 2) ∷ []

-- eight packets and a send, and two packets and a send
abbrev pub sends : ℕ → List Line
sends index = SendLine 1 600 ∷ packets index 2 (SendLine 1 500 ∷ packets index 8 (set_up index))

-- the same with a reset and three packets behind the first send
abbrev pub sends_after_reset : List Line
sends_after_reset =
    SendLine 1 600 ∷ packets 5 3 (ResetLine (flow_at (at_place 5)) ∷ SendLine 1 500 ∷ packets 5 8 (set_up 5))

-- the arrival and the number of bytes of each datagram that is sent
abbrev pub sizes : List Line → List (ℕ × ℕ)
sizes lines = map (λ (e : Entry). (e.arrival, length e.bytes)) (all_sent lines)

abbrev pub delivery : ℕ → ℕ → Delivery
delivery boot number = record { id = 1; boot = boot; number = number; at = 3000 }

-- ---- polls

-- a stage of 64 samples, a source that samples each packet, and a counter source of the same place
abbrev pub each_packet : FlowSetup
each_packet = record { source = flow_at (at_place 5); rate = 1; skips = 1 ∷ []; first = 1; pool = 0; drops = 0 }

-- an ARP request with 128 bytes, of VLAN 100
abbrev pub long_packet : Packet
long_packet = record {
  input = single 5;
  output = single 6;
  vlan = Some 100;
  frame_length = 1500;
  header = replicate 6 255 ++ 2 ∷ 0 ∷ 0 ∷ 0 ∷ 0 ∷ 1 ∷ 8 ∷ 6 ∷ replicate 114 0;
}

abbrev pub long_packets : ℕ → List Line → List Line
long_packets zero before = before
long_packets (suc n) before = PacketLine (at_place 5) long_packet ∷ long_packets n before

abbrev pub polled_once : List Line
polled_once =
    SendLine 1 1000 ∷ PollLine 1 1000 ∷ long_packets 7
    (CounterLine 1 (polled 5) ∷ FlowLine 1 each_packet ∷ SubLine (agent 1 64) ∷ [])

-- a stage of one sample and two counter sources
abbrev pub narrow : List Line
narrow = CounterLine 1 (polled 6) ∷ CounterLine 1 (polled 5) ∷ SubLine (agent 1 1) ∷ []

abbrev pub polled_twice : List Line
polled_twice = SendLine 1 1000 ∷ PollLine 1 1000 ∷ SendLine 1 1000 ∷ PollLine 1 1000 ∷ narrow
