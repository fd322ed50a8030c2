-- A classic pcap file: a header of 24 bytes, and packets to the end of the input. The header is the magic
-- 0xa1b2c3d4, the version 2.4 in two numbers of 16 bits, two words and the snap length, which may be any, and the link
-- type. The order of the magic's bytes is that of all numbers of the file.
use Rattle.std.specs.Prelude.{◌≡◌, ◌≢◌, ℕ, ◌+◌, ◌*◌, ◌/◌, nat_lt, if◌then◌else◌, List, [], ◌∷◌, ◌++◌, length, take, drop, reverse}
use Rattle.std.specs.Int.{w32, from_be_bytes, from_le_bytes}
use Rattle.wire_spec.specs.Exactly.{OneOfEither}
use Rattle.capture_spec.specs.declared.byte_order.ByteOrder.{ByteOrder}
use Rattle.capture_spec.specs.declared.byte_order.ByteOrder.TheVariants.{HighFirst, LowFirst}
use Rattle.wire_spec.specs.declared.input_kind.InputKind.{InputKind}
use Rattle.wire_spec.specs.declared.input_kind.InputKind.TheVariants.{Magic, Version, Link, Long, Cut}

-- ---- numbers

-- these bytes of a number, the highest first, as they stand in a file
abbrev pub in_order : ByteOrder → List ℕ → List ℕ
in_order HighFirst bytes = bytes
in_order LowFirst bytes = reverse bytes

-- the four bytes at a place
abbrev pub four_at : ℕ → List ℕ → List ℕ
four_at at bytes = take 4 (drop at bytes)

-- the word of four bytes
abbrev pub word_of : ByteOrder → List ℕ → ℕ
word_of HighFirst bytes = from_be_bytes w32 bytes
word_of LowFirst bytes = from_le_bytes w32 bytes

-- the word at a place
abbrev pub word_at : ByteOrder → ℕ → List ℕ → ℕ
word_at order at bytes = word_of order (four_at at bytes)

-- ---- the header

abbrev pub magic : ByteOrder → List ℕ
magic order = in_order order (0xa1 ∷ 0xb2 ∷ 0xc3 ∷ 0xd4 ∷ [])

abbrev pub version : ByteOrder → List ℕ
version order = in_order order (0 ∷ 2 ∷ []) ++ in_order order (0 ∷ 4 ∷ [])

abbrev pub ethernet : ByteOrder → List ℕ
ethernet order = in_order order (0 ∷ 0 ∷ 0 ∷ 1 ∷ [])

-- what stands in the header of a file of this order, beside what may be any
pub record HasHeader (order : ByteOrder) (bytes : List ℕ) : Type 0 where
  pub magic_is : four_at 0 bytes ≡ magic order
  pub version_is : four_at 4 bytes ≡ version order
  pub link_is : four_at 20 bytes ≡ ethernet order

-- ---- a packet: four words, its time in seconds and microseconds, how many of its bytes were captured, how many it had,
-- ---- and then those that were captured

-- the arrival in ms, and the captured bytes
pub record Packet : Type 0 where
  pub arrival : ℕ
  pub bytes : List ℕ

-- the most bytes of a packet
abbrev pub most_captured : ℕ
most_captured = 262144

abbrev pub captured_at : ByteOrder → List ℕ → ℕ
captured_at order rest = word_at order 8 rest

abbrev pub arrival_at : ByteOrder → List ℕ → ℕ
arrival_at order rest = word_at order 0 rest * 1000 + word_at order 4 rest / 1000

-- what stands where a packet may begin: the end of the input; a packet, and what follows it; the input ends within it;
-- or its captured length is too much
pub data Front : Type 0 where
  Stops : Front
  Holds : Packet → List ℕ → Front
  EndsWithin : Front
  IsTooLong : Front

-- what stands there behind the four words, if these are the arrival and the captured length
unfoldable pub front_of_bytes : ℕ → ℕ → List ℕ → Front
front_of_bytes arrival captured rest =
    if nat_lt (length rest) captured then EndsWithin
    else Holds (record { arrival = arrival; bytes = take captured rest }) (drop captured rest)

-- what stands there if it isn't the end; a length is met as soon as its word is whole
unfoldable pub front_of_packet : ByteOrder → List ℕ → Front
front_of_packet order rest =
    if nat_lt (length rest) 12 then EndsWithin
    else if nat_lt most_captured (captured_at order rest) then IsTooLong
    else if nat_lt (length rest) 16 then EndsWithin
    else front_of_bytes (arrival_at order rest) (captured_at order rest) (drop 16 rest)

unfoldable pub front_of : ByteOrder → List ℕ → Front
front_of order [] = Stops
front_of order (b ∷ more) = front_of_packet order (b ∷ more)

-- from these bytes on stand these packets, one behind the other, and then this rest
abbrev pub Walks : ByteOrder → List ℕ → List Packet → List ℕ → Type 0
Walks order bytes [] rest = bytes ≡ rest
Walks order bytes (p ∷ packets) rest =
    (more : List ℕ) × (front_of order bytes ≡ Holds p more) × Walks order more packets rest

-- how many bytes they have
abbrev pub packets_length : List Packet → ℕ
packets_length [] = 0
packets_length (p ∷ packets) = 16 + length p.bytes + packets_length packets

-- ---- a file, and the fault of bytes that are none

-- the bytes are a file of these packets
pub record PcapFile (bytes : List ℕ) (packets : List Packet) : Type 0 where
  pub order : ByteOrder
  pub header : HasHeader order bytes
  pub packets_are : Walks order (drop 24 bytes) packets []

-- behind the header and whole packets this stands in place of a packet, at that offset
pub record StandsBehind (bytes : List ℕ) (front : Front) (offset : ℕ) : Type 0 where
  pub order : ByteOrder
  pub header : HasHeader order bytes
  pub packets : List Packet
  pub rest : List ℕ
  pub before : Walks order (drop 24 bytes) packets rest
  pub front_is : front_of order rest ≡ front
  pub place : offset ≡ 24 + packets_length packets

abbrev pub HasNoVersion : ByteOrder → List ℕ → Type 0
HasNoVersion order bytes = (four_at 0 bytes ≡ magic order) × (four_at 4 bytes ≢ version order)

abbrev pub HasNoLink : ByteOrder → List ℕ → Type 0
HasNoLink order bytes =
    (four_at 0 bytes ≡ magic order) × (four_at 4 bytes ≡ version order) × (four_at 20 bytes ≢ ethernet order)

-- Magic: the bytes begin with it in neither order. Version: they do, and 2 and 4 don't come next. Link: they do, and the
-- link type isn't 1. Each is met also where the input ends before. Long: a captured length is above 262,144. Cut: the
-- input ends inside a packet. The other kinds aren't faults of a pcap file.
abbrev pub PcapFault : List ℕ → ℕ → InputKind → Type 0
PcapFault bytes offset Magic =
    (offset ≡ 0) × (four_at 0 bytes ≢ magic HighFirst) × (four_at 0 bytes ≢ magic LowFirst)
PcapFault bytes offset Version = (offset ≡ 4) × (order : ByteOrder) × HasNoVersion order bytes
PcapFault bytes offset Link = (offset ≡ 20) × (order : ByteOrder) × HasNoLink order bytes
PcapFault bytes offset Long = (packet : ℕ) × (offset ≡ packet + 8) × StandsBehind bytes IsTooLong packet
PcapFault bytes offset Cut = StandsBehind bytes EndsWithin offset
PcapFault bytes offset _ = ⊥

-- ---- what the laws say

-- they have this fault, at this offset
abbrev pub HasFault : List ℕ → ℕ × InputKind → Type 0
HasFault bytes fault = PcapFault bytes fault.0 fault.1

-- one list of packets and no fault, or one fault and no list of packets
abbrev pub HasOneReading : List ℕ → Type 0
HasOneReading bytes = OneOfEither (PcapFile bytes) (HasFault bytes)
