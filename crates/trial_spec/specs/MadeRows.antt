-- Short forms in which the worked rows of made runs are written. Deliveries have the LATEST FIRST.
use Rattle.std.specs.Prelude.{ℕ, true, None, List, [], ◌∷◌}
use Rattle.agent_spec.specs.Samples.{Packet, Sampled, Sample}
use Rattle.account_spec.specs.Deliveries.{Delivery}
use Rattle.trial_spec.specs.Made.{made_stream, frame}

-- a packet of this length, with these bytes behind the front of its header
abbrev pub packet_of : ℕ → List ℕ → Packet
packet_of length bytes = record {
  input = record { form = 0; value = 1 };
  output = record { form = 0; value = 2 };
  frame_length = length;
  vlan = None;
  header = frame bytes;
}

-- the first sample of a boot, of its first packet
abbrev pub first_sample : Packet → Sample
first_sample packet = record {
  turn = record { source = record { flow = true; class = 0; index = 1 }; generation = 1 };
  number = 4294967280;
  pool = 4294967001;
  drops = 0;
  rate = 10;
  content = Sampled packet;
}

-- a delivery of the first datagram of a boot, sent at 10 ms with the first sample alone
abbrev pub first_of : ℕ → ℕ → Packet → Delivery
first_of boot arrival packet = record {
  stream = made_stream;
  boot = boot;
  datagram = record { number = 4294967290; uptime = 10; samples = first_sample packet ∷ [] };
  arrival = arrival;
}

abbrev pub first_packet : Packet
first_packet = packet_of 421 (
    174 ∷ 179 ∷ 194 ∷ 175 ∷ 121 ∷ 254 ∷ 56 ∷ 132 ∷ 97 ∷ 107 ∷ 168 ∷ 192 ∷ 222 ∷ 50 ∷ 9 ∷ 76 ∷ 235 ∷ 132
    ∷ 37 ∷ 180 ∷ 160 ∷ 74 ∷ 225 ∷ 140 ∷ 130 ∷ 13 ∷ 77 ∷ 57 ∷ 216 ∷ 100 ∷ 89 ∷ 11 ∷ [])

abbrev pub second_packet : Packet
second_packet = packet_of 231 (
    149 ∷ 191 ∷ 79 ∷ 47 ∷ 107 ∷ 53 ∷ 237 ∷ 131 ∷ 184 ∷ 28 ∷ 84 ∷ 191 ∷ 13 ∷ 45 ∷ 147 ∷ 156 ∷ 5 ∷ 146 ∷
    157 ∷ 190 ∷ 69 ∷ 41 ∷ 232 ∷ 144 ∷ 35 ∷ 153 ∷ 181 ∷ 20 ∷ 201 ∷ 46 ∷ 233 ∷ 98 ∷ [])
