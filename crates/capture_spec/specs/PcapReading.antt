-- The reading of a classic pcap file as one total function.
use Rattle.std.specs.Prelude.{ℕ, zero, suc, ◌+◌, if◌then◌else◌, List, [], ◌∷◌, length, drop, bytes_eq, Result, Ok, Err}
use Rattle.capture_spec.specs.declared.byte_order.ByteOrder.{ByteOrder}
use Rattle.capture_spec.specs.declared.byte_order.ByteOrder.TheVariants.{HighFirst, LowFirst}
use Rattle.wire_spec.specs.declared.input_kind.InputKind.{InputKind}
use Rattle.wire_spec.specs.declared.input_kind.InputKind.TheVariants.{Magic, Version, Link, Long, Cut}
use Rattle.capture_spec.specs.PcapFiles.{Packet, Front, Stops, Holds, EndsWithin, IsTooLong, PcapFile, PcapFault, four_at, magic, version, ethernet, front_of}

-- the packets of a file, or a fault: its offset, and its kind
abbrev pub PcapOutcome : Type 0
PcapOutcome = Result (List Packet) (ℕ × InputKind)

-- a packet before those that are read after it
abbrev pub with_packet : Packet → PcapOutcome → PcapOutcome
with_packet p (Ok packets) = Ok (p ∷ packets)
with_packet p (Err fault) = Err fault

-- what is read from this front on; `next` reads what follows a packet, from its offset on
abbrev pub read_front : ℕ → (ℕ → List ℕ → PcapOutcome) → Front → PcapOutcome
read_front offset next Stops = Ok []
read_front offset next (Holds p rest) = with_packet p (next (offset + (16 + length p.bytes)) rest)
read_front offset next EndsWithin = Err (offset, Cut)
read_front offset next IsTooLong = Err (offset + 8, Long)

-- the packets from this offset to the end of the input; the first number is above that of the bytes left
unfoldable pub packets_reading : ℕ → ByteOrder → ℕ → List ℕ → PcapOutcome
packets_reading zero order offset rest = Ok []
packets_reading (suc most) order offset rest = read_front offset (packets_reading most order) (front_of order rest)

-- in a file of this order
unfoldable pub reading_in : ByteOrder → List ℕ → PcapOutcome
reading_in order bytes =
    if bytes_eq (four_at 4 bytes) (version order) then
    (if bytes_eq (four_at 20 bytes) (ethernet order) then packets_reading (suc (length bytes)) order 24 (drop 24 bytes)
    else Err (20, Link))
    else Err (4, Version)

-- the packets of a file, or its fault with its offset
unfoldable pub pcap_reading : List ℕ → PcapOutcome
pcap_reading bytes =
    if bytes_eq (four_at 0 bytes) (magic HighFirst) then reading_in HighFirst bytes
    else if bytes_eq (four_at 0 bytes) (magic LowFirst) then reading_in LowFirst bytes
    else Err (0, Magic)

abbrev pub IsPcapOutcome : List ℕ → PcapOutcome → Type 0
IsPcapOutcome bytes (Ok packets) = PcapFile bytes packets
IsPcapOutcome bytes (Err fault) = PcapFault bytes fault.0 fault.1
