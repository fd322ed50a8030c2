-- Packets of several kinds, and deliveries of their samples. Deliveries have the LATEST FIRST.
use Rattle.std.specs.Prelude.{ℕ, true, false, List, [], ◌∷◌, ◌++◌, replicate}
use Rattle.std.specs.declared.option.Option.{Option}
use Rattle.std.specs.declared.option.Option.TheVariants.{Some, None}
use Rattle.books_spec.specs.declared.limits.Limits.{Limits}
use Rattle.books_spec.specs.SampledHeaders.{FirstHeader}
use Rattle.agent_spec.specs.Sources.{Source}
use Rattle.agent_spec.specs.Samples.{Packet, Content, Sampled, Counted, Sample, Datagram}
use Rattle.agent_spec.specs.Rows.{all_counters}
use Rattle.account_spec.specs.Deliveries.{Delivery}
use Rattle.account_spec.specs.Rows.{usual, delivery}

-- ---- packets

abbrev pub packet_of : ℕ → Option ℕ → List ℕ → Packet
packet_of frame_length vlan header = record {
  input = record { form = 0; value = 1 };
  output = record { form = 0; value = 2 };
  frame_length = frame_length;
  vlan = vlan;
  header = header;
}

-- in VLAN 7 a segment of TCP over IPv4, of which the fronts of both headers are there
abbrev pub tcp_bytes : List ℕ
tcp_bytes = replicate 12 0
    ++ (0x81 ∷ 0 ∷ 0 ∷ 7 ∷ 8 ∷ 0 ∷ 0x45 ∷ 0 ∷ 0 ∷ 40 ∷ 0 ∷ 0 ∷ 0 ∷ 0 ∷ 64 ∷ 6 ∷ 0 ∷ 0
    ∷ 10 ∷ 0 ∷ 0 ∷ 1 ∷ 10 ∷ 0 ∷ 0 ∷ 2 ∷ 0x1f ∷ 0x90 ∷ 1 ∷ 0xbb ∷ [])

abbrev pub arp_bytes : List ℕ
arp_bytes = replicate 12 0 ++ 8 ∷ 6 ∷ []

-- a datagram of UDP over IPv6, and 100 bytes behind its ports
abbrev pub udp_bytes : List ℕ
udp_bytes = replicate 12 0
    ++ (0x86 ∷ 0xdd ∷ 0x60 ∷ 0 ∷ 0 ∷ 0 ∷ 0 ∷ 104 ∷ 17 ∷ 64 ∷ (replicate 32 1 ++ (0 ∷ 53 ∷ 0 ∷ 99 ∷ replicate 100 2)))

abbrev pub udp_front : List ℕ
udp_front = replicate 12 0
    ++ (0x86 ∷ 0xdd ∷ 0x60 ∷ 0 ∷ 0 ∷ 0 ∷ 0 ∷ 104 ∷ 17 ∷ 64 ∷ (replicate 32 1 ++ (0 ∷ 53 ∷ 0 ∷ 99 ∷ replicate 70 2)))

abbrev pub tcp_packet : Packet
tcp_packet = packet_of 64 (Some 7) tcp_bytes

abbrev pub arp_packet : Packet
arp_packet = packet_of 60 None arp_bytes

abbrev pub udp_packet : Packet
udp_packet = packet_of 158 None udp_bytes

-- ---- samples

abbrev pub sample_of : Source → ℕ → ℕ → Content → Sample
sample_of source number rate content = record {
  turn = record { source = source; generation = 1 };
  number = number;
  pool = number;
  drops = 0;
  rate = rate;
  content = content;
}

-- of the interface 5, by the sampling rate 10
abbrev pub flow_of : ℕ → Packet → Sample
flow_of number packet = sample_of (record { flow = true; class = 0; index = 5 }) number 10 (Sampled packet)

abbrev pub counters_of : ℕ → Sample
counters_of number = sample_of (record { flow = false; class = 0; index = 5 }) number 0 (Counted all_counters)

-- ---- deliveries

abbrev pub two_kinds : Datagram
two_kinds = record {
  number = 1;
  uptime = 1000;
  samples = flow_of 1 tcp_packet ∷ counters_of 1 ∷ flow_of 2 arp_packet ∷ [];
}

abbrev pub one_more : Datagram
one_more = record { number = 2; uptime = 2000; samples = flow_of 3 udp_packet ∷ [] }

-- the second datagram, the first one, and both once more
abbrev pub kinds_delivered : List Delivery
kinds_delivered =
    delivery 0 1 12300 two_kinds ∷ delivery 0 1 12200 one_more ∷ delivery 0 1 12100 two_kinds ∷ delivery 0 1 12000 one_more ∷ []

-- a sample is late behind the newest of its source
abbrev pub narrow : Limits
narrow = record usual { sample_width = 1 }

-- ---- what counts

abbrev pub header_shown : ℕ → List ℕ → FirstHeader
header_shown frame_length bytes = record {
  stream = 1;
  class = 0;
  index = 5;
  rate = 10;
  header = record { protocol = 1; frame_length = frame_length; bytes = bytes };
}

abbrev pub three_headers : List FirstHeader
three_headers = header_shown 158 udp_front ∷ header_shown 64 tcp_bytes ∷ header_shown 60 arp_bytes ∷ []
