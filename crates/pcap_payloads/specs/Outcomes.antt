-- What is written of the packets of a pcap file: a capture of their payloads, or how many became what.
use Rattle.std.specs.Prelude.{ℕ, zero, suc, ◌+◌, Bool, true, false, List, [], ◌∷◌, ◌++◌, codes, decimal, Some, Ok, Err}
use Rattle.std.specs.List.{concat, count_by, flat_map}
use Rattle.wire_spec.specs.Captures.{capture_header}
use Rattle.capture_spec.specs.declared.capture_version.CaptureVersion.TheVariants.{Two}
use Rattle.capture_spec.specs.Items.{Received, end_item, sent_bytes}
use Rattle.capture_spec.specs.VersionedCaptures.{opened_bytes, whole_bytes}
use Rattle.capture_spec.specs.declared.passed.Passed.{Passed}
use Rattle.capture_spec.specs.declared.passed.Passed.TheVariants.{Short, NotIp, BadIp, Fragment, NotUdp, BadLen, Cut, Port}
use Rattle.capture_spec.specs.Payloads.{PayloadOutcome, payload_of}
use Rattle.capture_spec.specs.PcapFiles.{Packet}
use Rattle.capture_spec.specs.declared.pcap_output.PcapOutput.{PcapOutput}
use Rattle.capture_spec.specs.declared.pcap_output.PcapOutput.TheVariants.{Capture, Counts}
use Rattle.pcap_payloads.specs.declared.packet_counts.PacketCounts.{PacketCounts}

-- ---- the payloads

-- the payload of a packet that was captured at this time, if it has one, as an entry of a capture
abbrev pub received_at : ℕ → PayloadOutcome → List Received
received_at arrival (Ok payload) =
    record { arrival = arrival; sender = Some payload.sender; bytes = payload.bytes } ∷ []
received_at arrival (Err reason) = []

abbrev pub received_in : Packet → List Received
received_in p = received_at p.arrival (payload_of p.bytes)

-- the payloads of these packets, in order
abbrev pub payloads_in : List Packet → List Received
payloads_in packets = flat_map received_in packets

-- the capture without its end, or nothing where there is no payload
abbrev pub begun_capture : List Received → List ℕ
begun_capture [] = []
begun_capture (e ∷ entries) = opened_bytes Two (e ∷ entries)

-- ---- the counts

abbrev pub is_taken : PayloadOutcome → Bool
is_taken (Ok payload) = true
is_taken (Err reason) = false

abbrev pub is_same : Passed → Passed → Bool
is_same Short Short = true
is_same NotIp NotIp = true
is_same BadIp BadIp = true
is_same Fragment Fragment = true
is_same NotUdp NotUdp = true
is_same Port Port = true
is_same BadLen BadLen = true
is_same Cut Cut = true
is_same _ _ = false

abbrev pub is_passed : Passed → PayloadOutcome → Bool
is_passed reason (Ok payload) = false
is_passed reason (Err other) = is_same reason other

-- how many of the packets have a payload
abbrev pub taken_in : List Packet → ℕ
taken_in packets = count_by (λ (p : Packet). is_taken (payload_of p.bytes)) packets

-- how many of them are passed over by the rules of this name
abbrev pub passed_in : Passed → List Packet → ℕ
passed_in reason packets = count_by (λ (p : Packet). is_passed reason (payload_of p.bytes)) packets

unfoldable pub counts_of : List Packet → PacketCounts
counts_of packets = record {
  taken = taken_in packets;
  short = passed_in Short packets;
  not_ip = passed_in NotIp packets;
  bad_ip = passed_in BadIp packets;
  fragment = passed_in Fragment packets;
  not_udp = passed_in NotUdp packets;
  port = passed_in Port packets;
  bad_len = passed_in BadLen packets;
  cut = passed_in Cut packets;
}

abbrev pub total_of : PacketCounts → ℕ
total_of c =
    c.taken + c.short + c.not_ip + c.bad_ip + c.fragment + c.not_udp + c.port + c.bad_len + c.cut

-- the line of so many packets with these counts
unfoldable pub counts_text : ℕ → PacketCounts → List ℕ
counts_text packets c = concat (
    codes "pcap packets " ∷ decimal packets ∷
    codes " taken " ∷ decimal c.taken ∷
    codes " short " ∷ decimal c.short ∷
    codes " notip " ∷ decimal c.not_ip ∷
    codes " badip " ∷ decimal c.bad_ip ∷
    codes " fragment " ∷ decimal c.fragment ∷
    codes " notudp " ∷ decimal c.not_udp ∷
    codes " port " ∷ decimal c.port ∷
    codes " badlen " ∷ decimal c.bad_len ∷
    codes " cut " ∷ decimal c.cut ∷
    codes "\n" ∷ [])

abbrev pub counts_line : PacketCounts → List ℕ
counts_line c = counts_text (total_of c) c

-- ---- the texts

-- what is written of all packets of a file
abbrev pub whole_text : PcapOutput → List Packet → List ℕ
whole_text Capture packets = whole_bytes Two (payloads_in packets)
whole_text Counts packets = counts_line (counts_of packets)

-- what is written of the packets that were read, where reading ends before: the capture without its end, and no counts
abbrev pub part_text : PcapOutput → List Packet → List ℕ
part_text Capture packets = begun_capture (payloads_in packets)
part_text Counts packets = []

-- ---- packet by packet

-- the header stands before the first payload, where none was taken before
abbrev pub header_behind : ℕ → List ℕ
header_behind zero = capture_header 2
header_behind (suc taken) = []

-- what is put for a packet of this outcome, where so many payloads were taken before
abbrev pub outcome_text : ℕ → ℕ → PayloadOutcome → List ℕ
outcome_text taken arrival (Ok payload) =
    header_behind taken ++ sent_bytes payload.sender (record { arrival = arrival; bytes = payload.bytes })
outcome_text taken arrival (Err reason) = []

abbrev pub packet_text : PcapOutput → ℕ → ℕ → PayloadOutcome → List ℕ
packet_text Capture taken arrival outcome = outcome_text taken arrival outcome
packet_text Counts taken arrival outcome = []

-- what is put behind the last packet
abbrev pub last_text : PcapOutput → PacketCounts → List ℕ
last_text Capture c = header_behind c.taken ++ end_item c.taken
last_text Counts c = counts_line c

abbrev pub one_more : Bool → ℕ → ℕ
one_more true n = n + 1
one_more false n = n

-- the counts with a further packet of this outcome
abbrev pub with_outcome : PayloadOutcome → PacketCounts → PacketCounts
with_outcome o c = record {
  taken = one_more (is_taken o) c.taken;
  short = one_more (is_passed Short o) c.short;
  not_ip = one_more (is_passed NotIp o) c.not_ip;
  bad_ip = one_more (is_passed BadIp o) c.bad_ip;
  fragment = one_more (is_passed Fragment o) c.fragment;
  not_udp = one_more (is_passed NotUdp o) c.not_udp;
  port = one_more (is_passed Port o) c.port;
  bad_len = one_more (is_passed BadLen o) c.bad_len;
  cut = one_more (is_passed Cut o) c.cut;
}
