-- Reading a pcap file answer by answer: what was given so far, in the words of pcap files.
use Rattle.std.specs.Prelude.{◌≡◌, ℕ, ◌+◌, ◌^◌, ◌<◌, ◌≤◌, ◌⊎◌, List, [], ◌∷◌, ◌++◌, length, take, Option, Some, Ok, Err}
use Rattle.wire_spec.specs.declared.input_kind.InputKind.{InputKind}
use Rattle.capture_spec.specs.declared.byte_order.ByteOrder.{ByteOrder}
use Rattle.capture_spec.specs.PcapFiles.{Packet, PcapFault, PcapFile, front_of, packets_length}
use Rattle.byte_ends.specs.Unread.{unread}
use Rattle.byte_ends.specs.Seen.{Seen}
use Rattle.sflow_io.specs.declared.capture.ReadRefusal.TheVariants as refusal
use Rattle.pcap_file.specs.declared.reading.PcapNext.TheVariants as next
use Rattle.pcap_file.specs.declared.reading.PcapStage.{PcapStage}
use Rattle.pcap_file.specs.declared.reading.PcapStage.TheVariants as stage
use Rattle.pcap_file.specs.PcapAnswers.{Answer, FaultsAt, HasEnded, HasNoHeader, ReaderState}
use Rattle.pcap_file.specs.PcapFaults.{FileThen, StopsBehind}

-- the packets so far, and that of an answer whose bytes are the first of the room
abbrev pub with_answer : List Packet → List ℕ → Answer → List Packet
with_answer packets room (Ok (next.Packet at len)) =
    packets ++ record { arrival = at; bytes = take len room } ∷ []
with_answer packets room (Ok next.End) = packets
with_answer packets room (Err e) = packets

-- the bytes begin with a header and these packets, if there are any
abbrev pub BeginsWithPackets : List Packet → List ℕ → Type 0
BeginsWithPackets packets bytes =
    (packets ≡ []) ⊎ ((order : ByteOrder) × (rest : List ℕ) × FileThen order packets rest bytes)

-- behind these packets one is faulty, and there is the fault
pub record BreaksBehind (packets : List Packet) (bytes : List ℕ) (at : ℕ) (kind : InputKind) : Type 0 where
  pub order : ByteOrder
  pub rest : List ℕ
  pub before : FileThen order packets rest bytes
  pub broken : FaultsAt (24 + packets_length packets) (front_of order rest) at kind

-- the fault of the bytes stands behind these packets, fewer than 2^48: there are none where the header is faulty
pub record FaultBehind (packets : List Packet) (bytes : List ℕ) (at : ℕ) (kind : InputKind) : Type 0 where
  pub few : length packets < 2 ^ 48
  pub fault : PcapFault bytes at kind
  pub behind : ((packets ≡ []) × HasNoHeader bytes) ⊎ BreaksBehind packets bytes at kind

-- the bytes are a file of these packets, at most 2^48
pub record IsAllOf (packets : List Packet) (bytes : List ℕ) : Type 0 where
  pub few : length packets ≤ 2 ^ 48
  pub file : PcapFile bytes packets

-- 2^48 packets, and a further byte
pub record GoesOn (packets : List Packet) (bytes : List ℕ) : Type 0 where
  pub order : ByteOrder
  pub rest : List ℕ
  pub before : FileThen order packets rest bytes
  pub number : length packets ≡ 2 ^ 48
  pub more : 0 < length rest

-- what the last answer says of the bytes, where these packets were given before it and the source has so much left
abbrev pub EndsAt : List Packet → List ℕ → Option (List ℕ) → Answer → Type 0
EndsAt packets bytes left (Ok (next.Packet at len)) = ⊥
EndsAt packets bytes left (Ok next.End) = IsAllOf packets bytes
EndsAt packets bytes left (Err (refusal.BadInput at kind)) = FaultBehind packets bytes at kind
EndsAt packets bytes left (Err refusal.Spent) = GoesOn packets bytes
EndsAt packets bytes left (Err refusal.ReadFault) = StopsBehind packets bytes left

-- the bytes begin with these packets, so many to this offset, and the others are left
pub record IsBehind (order : ByteOrder) (packets : List Packet) (bytes : List ℕ) (count offset : ℕ)
    (left : Option (List ℕ)) : Type 0 where
  pub rest : List ℕ
  pub before : FileThen order packets rest bytes
  pub left_is : left ≡ Some rest
  pub count_is : count ≡ length packets
  pub offset_is : offset ≡ 24 + packets_length packets
  pub few : count ≤ 2 ^ 48

-- of these bytes a reader that stands here has given these packets: `more` is unread, and the source has `left` of it
abbrev pub HasGivenAt : List ℕ → List Packet → PcapStage → Option (List ℕ) → Option (List ℕ) → Type 0
HasGivenAt bytes packets stage.Start more left = (packets ≡ []) × (more ≡ Some bytes)
HasGivenAt bytes packets (stage.Within order count offset) more left =
    IsBehind order packets bytes count offset more
HasGivenAt bytes packets (stage.Ended last) more left = EndsAt packets bytes left last

-- of these bytes the reader has given these packets, where the source shows this
abbrev pub HasGiven : List ℕ → List Packet → ReaderState → Seen → Type 0
HasGiven bytes packets reader source =
    HasGivenAt bytes packets reader.stage (unread reader.held source) source.told

-- how many packets it gave; none are counted before the first and behind the end
abbrev pub packets_given : PcapStage → ℕ
packets_given stage.Start = 0
packets_given (stage.Within order count offset) = count
packets_given (stage.Ended last) = 0

-- a packet isn't the end, and is counted, up to 2^48
abbrev pub LeadsOn : PcapStage → PcapStage → Answer → Type 0
LeadsOn before after (Ok (next.Packet at len)) =
    ¬ (HasEnded after) × (packets_given after ≡ packets_given before + 1) × (packets_given after ≤ 2 ^ 48)
LeadsOn before after (Ok next.End) = Unit {0}
LeadsOn before after (Err e) = Unit {0}
