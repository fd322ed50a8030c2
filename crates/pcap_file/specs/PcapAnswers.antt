-- What a reader of a pcap file answers, by what is left to read.
use Rattle.std.specs.Prelude.{◌≡◌, ⊤, ℕ, ◌+◌, ◌*◌, ◌^◌, ◌<◌, ◌≤◌, if◌then◌else◌, List, [], length, take, drop, bytes_eq, Option, Some, Result, Ok, Err}
use Rattle.std.specs.Io.KnownBytes.{IsAtEnd}
use Rattle.capture_spec.specs.declared.byte_order.ByteOrder.{ByteOrder}
use Rattle.capture_spec.specs.declared.byte_order.ByteOrder.TheVariants.{HighFirst, LowFirst}
use Rattle.wire_spec.specs.declared.input_kind.InputKind.{InputKind}
use Rattle.wire_spec.specs.declared.input_kind.InputKind.TheVariants as kind
use Rattle.capture_spec.specs.PcapFiles.{Front, Stops, Holds, EndsWithin, IsTooLong, HasHeader, PcapFault, front_of, four_at, magic, version, ethernet}
use Rattle.pcap_file.specs.declared.reading.PcapNext.{PcapNext}
use Rattle.pcap_file.specs.declared.reading.PcapNext.TheVariants as next
use Rattle.sflow_io.specs.declared.capture.ReadRefusal.{ReadRefusal}
use Rattle.sflow_io.specs.declared.capture.ReadRefusal.TheVariants as refusal
use Rattle.pcap_file.specs.declared.reading.PcapStage.{PcapStage}
use Rattle.pcap_file.specs.declared.reading.PcapStage.TheVariants as stage

abbrev pub Answer : Type 0
Answer = Result PcapNext ReadRefusal

-- a reader: where it stands, and the bytes that it has read ahead of what it gave
pub record ReaderState : Type 0 where
  pub stage : PcapStage
  pub held : List ℕ

-- it has read nothing
abbrev pub IsFresh : ReaderState → Type 0
IsFresh reader = reader ≡ record { stage = stage.Start; held = [] }

-- ---- the header

-- what a header of this order says
unfoldable pub header_in : ByteOrder → List ℕ → Result ByteOrder ReadRefusal
header_in order bytes =
    if bytes_eq (four_at 4 bytes) (version order) then
    (if bytes_eq (four_at 20 bytes) (ethernet order) then Ok order else Err (refusal.BadInput 20 kind.Link))
    else Err (refusal.BadInput 4 kind.Version)

unfoldable pub header_reading : List ℕ → Result ByteOrder ReadRefusal
header_reading bytes =
    if bytes_eq (four_at 0 bytes) (magic HighFirst) then header_in HighFirst bytes
    else if bytes_eq (four_at 0 bytes) (magic LowFirst) then header_in LowFirst bytes
    else Err (refusal.BadInput 0 kind.Magic)

-- no header stands there, in either order
abbrev pub HasNoHeader : List ℕ → Type 0
HasNoHeader bytes = (order : ByteOrder) → ¬ (HasHeader order bytes)

-- the header stands there and the rest is left, or else the fault
abbrev pub ReadsHeader : List ℕ → Option (List ℕ) → Result ByteOrder ReadRefusal → Type 0
ReadsHeader bytes left (Ok order) = HasHeader order bytes × (left ≡ Some (drop 24 bytes))
ReadsHeader bytes left (Err (refusal.BadInput at kind)) = HasNoHeader bytes × PcapFault bytes at kind
ReadsHeader bytes left (Err refusal.ReadFault) = ⊤
ReadsHeader bytes left (Err refusal.Spent) = ⊥

-- ---- the answer

-- the packet at the front has this arrival and these first bytes of the room, and the rest is left
pub record GivesPacket (front : Front) (room : List ℕ) (left : Option (List ℕ)) (at len : ℕ) : Type 0 where
  pub rest : List ℕ
  pub holds : front ≡ Holds (record { arrival = at; bytes = take len room }) rest
  pub length_is : len ≡ length (take len room)
  pub left_is : left ≡ Some rest

-- the fault where this front stands at this offset
abbrev pub FaultsAt : ℕ → Front → ℕ → InputKind → Type 0
FaultsAt offset front at kind.Cut = (front ≡ EndsWithin) × (at ≡ offset)
FaultsAt offset front at kind.Long = (front ≡ IsTooLong) × (at ≡ offset + 8)
FaultsAt offset front at _ = ⊥

abbrev pub AnswersFront : ℕ → Front → List ℕ → Option (List ℕ) → Answer → Type 0
AnswersFront offset front room left (Ok (next.Packet at len)) = GivesPacket front room left at len
AnswersFront offset front room left (Ok next.End) = front ≡ Stops
AnswersFront offset front room left (Err (refusal.BadInput at kind)) = FaultsAt offset front at kind
AnswersFront offset front room left (Err refusal.ReadFault) = ⊤
AnswersFront offset front room left (Err refusal.Spent) = ⊥

-- the answer behind 2^48 packets: the end, or that a further byte follows
abbrev pub AnswersLast : List ℕ → Answer → Type 0
AnswersLast bytes (Ok (next.Packet at len)) = ⊥
AnswersLast bytes (Ok next.End) = bytes ≡ []
AnswersLast bytes (Err (refusal.BadInput at kind)) = ⊥
AnswersLast bytes (Err refusal.ReadFault) = ⊤
AnswersLast bytes (Err refusal.Spent) = 0 < length bytes

-- the answer where the input has no header
abbrev pub RefusesHeader : List ℕ → Answer → Type 0
RefusesHeader bytes (Ok answer) = ⊥
RefusesHeader bytes (Err (refusal.BadInput at kind)) = PcapFault bytes at kind
RefusesHeader bytes (Err refusal.ReadFault) = ⊤
RefusesHeader bytes (Err refusal.Spent) = ⊥

-- ---- the next stage

-- a packet leads on, and any other answer is the last
abbrev pub stage_after : PcapStage → Answer → PcapStage
stage_after (stage.Within order count offset) (Ok (next.Packet at len)) =
    stage.Within order (count + 1) (offset + (16 + len))
stage_after stage.Start (Ok (next.Packet at len)) = stage.Start
stage_after (stage.Ended last) (Ok (next.Packet at len)) = stage.Ended last
stage_after before (Ok next.End) = stage.Ended (Ok next.End)
stage_after before (Err e) = stage.Ended (Err e)

-- behind the header of a file of this order
abbrev pub behind_header : ByteOrder → PcapStage
behind_header order = stage.Within order 0 24

-- the first answer is as one behind a header, of one order or the other; the last answer comes again
abbrev pub IsStageAfter : PcapStage → PcapStage → Answer → Type 0
IsStageAfter stage.Start after answer = (order : ByteOrder) × (after ≡ stage_after (behind_header order) answer)
IsStageAfter (stage.Within order count offset) after answer =
    after ≡ stage_after (stage.Within order count offset) answer
IsStageAfter (stage.Ended last) after answer = after ≡ stage.Ended last

-- ---- the answer by stage

-- a packet behind a header, and where the reader stands then
pub record AnswersBehind (order : ByteOrder) (bytes room : List ℕ) (left : Option (List ℕ)) (after : PcapStage)
    (answer : Answer) : Type 0 where
  pub front : AnswersFront 24 (front_of order (drop 24 bytes)) room left answer
  pub stage_is : after ≡ stage_after (behind_header order) answer

-- the answer at the start of the input
pub record AnswersStart (bytes room : List ℕ) (left : Option (List ℕ)) (after : PcapStage) (answer : Answer) : Type 0 where
  pub goes_on : (order : ByteOrder) → HasHeader order bytes → AnswersBehind order bytes room left after answer
  pub refuses : HasNoHeader bytes → RefusesHeader bytes answer

-- the answer behind so many packets
pub record AnswersWithin (order : ByteOrder) (count offset : ℕ) (bytes room : List ℕ) (left : Option (List ℕ))
    (answer : Answer) : Type 0 where
  pub goes_on : count < 2 ^ 48 → AnswersFront offset (front_of order bytes) room left answer
  pub at_most : 2 ^ 48 ≤ count → AnswersLast bytes answer

-- what a reader that stands here answers where these bytes are left, with what the room then holds, what is left
-- then, and where it stands
abbrev pub Answers : PcapStage → List ℕ → List ℕ → Option (List ℕ) → PcapStage → Answer → Type 0
Answers stage.Start bytes room left after answer = AnswersStart bytes room left after answer
Answers (stage.Within order count offset) bytes room left after answer =
    AnswersWithin order count offset bytes room left answer
Answers (stage.Ended last) bytes room left after answer = (answer ≡ last) × (left ≡ Some bytes)

-- it ended
abbrev pub HasEnded : PcapStage → Type 0
HasEnded stage.Start = ⊥
HasEnded (stage.Within order count offset) = ⊥
HasEnded (stage.Ended last) = ⊤

-- no packet
abbrev pub IsNoPacket : Answer → Type 0
IsNoPacket (Ok (next.Packet at len)) = ⊥
IsNoPacket (Ok next.End) = ⊤
IsNoPacket (Err e) = ⊤

-- a packet has at most 262,144 bytes
abbrev pub IsShortPacket : Answer → Type 0
IsShortPacket (Ok (next.Packet at len)) = len ≤ 262144
IsShortPacket (Ok next.End) = ⊤
IsShortPacket (Err e) = ⊤

-- behind the end the source has nothing left
abbrev pub EndsSource : Answer → Option (List ℕ) → Type 0
EndsSource (Ok (next.Packet at len)) left = ⊤
EndsSource (Ok next.End) left = IsAtEnd left
EndsSource (Err e) left = ⊤

-- where a reader may stand: behind at most 2^48 packets of at most 262,160 bytes each
abbrev pub IsPlaced : PcapStage → Type 0
IsPlaced stage.Start = ⊤
IsPlaced (stage.Within order count offset) = (count ≤ 2 ^ 48) × (offset ≤ 24 + 262160 * count)
IsPlaced (stage.Ended last) = IsNoPacket last

-- a packet has at most 262,144 bytes, and comes only behind fewer than 2^48 others
abbrev pub KeepsLimits : ℕ → Answer → Type 0
KeepsLimits count (Ok (next.Packet at len)) = (len ≤ 262144) × (count < 2 ^ 48)
KeepsLimits count (Ok next.End) = ⊤
KeepsLimits count (Err e) = ⊤
