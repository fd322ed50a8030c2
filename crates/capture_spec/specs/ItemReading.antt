-- The reading of a capture of either version as total functions. What a reader answers is what these give.
use Rattle.std.specs.Prelude.{◌≡◌, ℕ, zero, suc, ◌+◌, ◌==◌, nat_lt, if◌then◌else◌, List, [], ◌∷◌, ◌++◌, length, take, drop, bytes_eq, Option, Some, None, Ok, Err}
use Rattle.std.specs.Int.{w32, w64, from_be_bytes}
use Rattle.wire_spec.specs.declared.input_kind.InputKind.{InputKind}
use Rattle.wire_spec.specs.declared.input_kind.InputKind.TheVariants.{Magic, Version, Cut, Item, Address, Port, Count, After}
use Rattle.wire_spec.specs.Captures.{capture_header, magic}
use Rattle.wire_spec.specs.CaptureReading.{front_of}
use Rattle.wire_spec.specs.CaptureReading as entries
use Rattle.wire_spec.specs.Heads.{AgentAddress, unknown, ipv4, ipv6}
use Rattle.capture_spec.specs.declared.capture_version.CaptureVersion.{CaptureVersion}
use Rattle.capture_spec.specs.declared.capture_version.CaptureVersion.TheVariants.{One, Two}
use Rattle.capture_spec.specs.Items.{hyper, Sender, Received, sent_by}
use Rattle.capture_spec.specs.VersionedCaptures.{ReceivedOutcome, IsReceived, IsBrokenAt, IsNumber, received_bytes, ending_bytes}

-- what stands where an entry may begin: the end of the capture, an entry with what follows it, or something broken with
-- the offset of the fault within it
pub data Front : Type 0 where
  Stops : Front
  Holds : Received → List ℕ → Front
  Breaks : ℕ → InputKind → Front

-- the word, and the hyper, that these bytes begin with
abbrev pub word_in : List ℕ → ℕ
word_in rest = from_be_bytes w32 (take 4 rest)

abbrev pub hyper_in : List ℕ → ℕ
hyper_in rest = from_be_bytes w64 (take 8 rest)

-- a fault moved by so many bytes; what is cut is so from its first byte on
abbrev pub moved_by : ℕ → ℕ → InputKind → Front
moved_by n within Cut = Breaks 0 Cut
moved_by n within kind = Breaks (n + within) kind

-- what stands there with this sender, by what version 1 has there
abbrev pub front_from : Option Sender → ℕ → entries.Front → Front
front_from sender n entries.Stops = Stops
front_from sender n (entries.Holds e rest) = Holds (sent_by sender e) rest
front_from sender n (entries.Breaks within kind) = moved_by n within kind

-- ---- an item, field by field

-- behind the sender, of which the address has so many bytes
unfoldable pub front_of_tail : ℕ → Sender → ℕ → List ℕ → Front
front_of_tail arrival sender size tail =
    front_from (Some sender) (12 + size) (front_of (hyper arrival ++ tail))

-- from the port on
unfoldable pub front_of_port : ℕ → AgentAddress → ℕ → ℕ → List ℕ → Front
front_of_port arrival address size port tail =
    if nat_lt 65535 port then Breaks (16 + size) Port
    else front_of_tail arrival (record { address = address; port = port }) size tail

-- from the bytes of an address on, of which there are so many
unfoldable pub front_of_address : ℕ → (List ℕ → AgentAddress) → ℕ → List ℕ → Front
front_of_address arrival address size rest =
    if nat_lt (length rest) (size + 4) then Breaks 0 Cut
    else front_of_port arrival (address (take size rest)) size (word_in (drop size rest)) (drop (size + 4) rest)

-- no address, whatever the bytes
abbrev pub no_address : List ℕ → AgentAddress
no_address bytes = unknown

-- an address of this kind: 0 none, 1 of four bytes, 2 of sixteen
abbrev pub front_of_kind : ℕ → ℕ → List ℕ → Front
front_of_kind arrival zero rest = front_of_address arrival no_address 0 rest
front_of_kind arrival (suc zero) rest = front_of_address arrival ipv4 4 rest
front_of_kind arrival (suc (suc zero)) rest = front_of_address arrival ipv6 16 rest
front_of_kind arrival (suc (suc (suc n))) rest = Breaks 12 Address

-- from the arrival on
unfoldable pub front_of_head : List ℕ → Front
front_of_head rest =
    if nat_lt (length rest) 12 then Breaks 0 Cut
    else front_of_kind (hyper_in rest) (word_in (drop 8 rest)) (drop 12 rest)

-- from the number of an end item on, behind so many entries
unfoldable pub front_of_end : ℕ → List ℕ → Front
front_of_end count rest =
    if nat_lt (length rest) 8 then Breaks 0 Cut
    else if hyper_in rest == count then (if nat_lt 8 (length rest) then Breaks 12 After else Stops)
    else Breaks 4 Count

-- behind the item's word
abbrev pub front_of_word : ℕ → ℕ → List ℕ → Front
front_of_word count zero rest = front_of_end count rest
front_of_word count (suc zero) rest = front_of_head rest
front_of_word count (suc (suc n)) rest = Breaks 0 Item

-- what stands behind so many entries
unfoldable pub front_of_item : ℕ → List ℕ → Front
front_of_item count rest =
    if nat_lt (length rest) 4 then Breaks 0 Cut else front_of_word count (word_in rest) (drop 4 rest)

abbrev pub front_in : CaptureVersion → ℕ → List ℕ → Front
front_in One count rest = front_from None 0 (front_of rest)
front_in Two count rest = front_of_item count rest

-- ---- all of it

-- an entry before those that are read after it
abbrev pub with_received : Received → ReceivedOutcome → ReceivedOutcome
with_received e (Ok capture) = Ok (capture.0, e ∷ capture.1)
with_received e (Err fault) = Err fault

-- what is read from this front on; `next` reads what follows an entry, from its offset on
abbrev pub read_received : CaptureVersion → ℕ → (ℕ → List ℕ → ReceivedOutcome) → Front → ReceivedOutcome
read_received v offset next Stops = Ok (v, [])
read_received v offset next (Holds e rest) = with_received e (next (offset + length (received_bytes v e)) rest)
read_received v offset next (Breaks within kind) = Err (offset + within, kind)

-- the entries from this offset on, behind so many; the first number is above that of the bytes left
unfoldable pub all_reading : ℕ → CaptureVersion → ℕ → ℕ → List ℕ → ReceivedOutcome
all_reading zero v count offset rest = Ok (v, [])
all_reading (suc most) v count offset rest =
    read_received v offset (all_reading most v (count + 1)) (front_in v count rest)

-- behind the header of this version
abbrev pub reading_of : CaptureVersion → List ℕ → ReceivedOutcome
reading_of v bytes = all_reading (suc (length bytes)) v 0 8 (drop 8 bytes)

-- the version and the entries of a capture, or its fault with its offset
unfoldable pub received_reading : List ℕ → ReceivedOutcome
received_reading bytes =
    if bytes_eq (take 8 bytes) (capture_header 1) then reading_of One bytes
    else if bytes_eq (take 8 bytes) (capture_header 2) then reading_of Two bytes
    else if bytes_eq (take 4 bytes) magic then Err (4, Version)
    else Err (0, Magic)

-- what a front says of the bytes that it stands for, behind so many entries
abbrev pub IsFrontAt : CaptureVersion → ℕ → List ℕ → Front → Type 0
IsFrontAt v count rest Stops = (rest ≡ ending_bytes v count) × IsNumber v count
IsFrontAt v count rest (Holds e more) = IsReceived v e × (rest ≡ received_bytes v e ++ more)
IsFrontAt v count rest (Breaks within kind) = IsBrokenAt v count rest within kind
