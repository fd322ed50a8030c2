-- A walk over the packets of a pcap file as they are read, with a page on its way to a sink.
use Rattle.std.specs.Prelude.{◌≡◌, ◌≢◌, ℕ, List, ◌++◌, Some, Result, Ok, Err}
use Rattle.std.specs.Io.KnownBytes.{IsAtEnd}
use Rattle.capture_spec.specs.PcapFiles.{Packet}
use Rattle.capture_spec.specs.declared.pcap_output.PcapOutput.{PcapOutput}
use Rattle.pcap_file.specs.PcapSteps.{BeginsWithPackets, EndsAt, IsAllOf}
use Rattle.sflow_io.specs.declared.capture.ReadRefusal.{ReadRefusal}
use Rattle.sflow_io.specs.declared.capture.ReadRefusal.TheVariants as refusals
use Rattle.byte_ends.specs.Seen.{Seen, TakesPart, next_count}
use Rattle.text_lines.specs.Pages.{Puts}
use Rattle.pcap_payloads.specs.declared.packet_counts.PacketCounts.{PacketCounts}
use Rattle.pcap_payloads.specs.declared.packets.WalkStop.{WalkStop}
use Rattle.pcap_payloads.specs.declared.packets.WalkStop.TheVariants as stops
use Rattle.pcap_payloads.specs.Outcomes.{counts_of, part_text}

-- what the sink showed and shows, and what the page held and holds
pub record Moved : Type 0 where
  pub sink : Seen
  pub sink' : Seen
  pub page : List ℕ
  pub page' : List ℕ

-- what is written of these packets was put
abbrev pub PutsPart : PcapOutput → Moved → List Packet → Type 0
PutsPart output m packets = Puts m.sink m.sink' m.page m.page' (part_text output packets)

-- all packets of what the source told were taken, and counted so
pub record TookAll (output : PcapOutput) (source : Seen) (m : Moved) (counts : PacketCounts) : Type 0 where
  pub packets : List Packet
  pub all : (input : List ℕ) → source.told ≡ Some input → IsAllOf packets input
  pub counted : counts ≡ counts_of packets
  pub put : PutsPart output m packets

-- reading ended behind these packets with this refusal
pub record TookSome (output : PcapOutput) (source source' : Seen) (m : Moved) (refusal : ReadRefusal) : Type 0 where
  pub packets : List Packet
  pub ends : (input : List ℕ) → source.told ≡ Some input → EndsAt packets input source'.told (Err refusal)
  pub put : PutsPart output m packets

-- a write failed at the last of these packets
pub record TakeFailed (output : PcapOutput) (source : Seen) (m : Moved) : Type 0 where
  pub packets : List Packet
  pub begins : (input : List ℕ) → source.told ≡ Some input → BeginsWithPackets packets input
  pub put : TakesPart m.sink m.sink' (m.page ++ part_text output packets)

-- how the walk may end
abbrev pub WalkEnds : PcapOutput → Seen → Seen → Moved → Result PacketCounts WalkStop → Type 0
WalkEnds output source source' m (Ok counts) = TookAll output source m counts
WalkEnds output source source' m (Err (stops.Read refusal)) = TookSome output source source' m refusal
WalkEnds output source source' m (Err stops.Write) = TakeFailed output source m

-- a walk over all packets has left the source at its end
abbrev pub ReadsAll : Result PacketCounts WalkStop → Seen → Type 0
ReadsAll (Ok counts) source = IsAtEnd source.told
ReadsAll (Err stop) source = Unit {0}

-- where a read fault ended the walk one call of the source failed, and else none
pub record HasCause (source source' : Seen) (result : Result PacketCounts WalkStop) : Type 0 where
  pub failed : result ≡ Err (stops.Read refusals.ReadFault) → source'.faults ≡ next_count source.faults
  pub kept : result ≢ Err (stops.Read refusals.ReadFault) → source'.faults ≡ source.faults
