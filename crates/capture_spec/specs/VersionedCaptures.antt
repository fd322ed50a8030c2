-- A capture of either version: the magic, the word of the version, the entries one after the other, and in version 2 the
-- end item. Then comes the end of the input.
use Rattle.std.specs.Prelude.{◌≡◌, ⊤, ℕ, ◌+◌, ◌^◌, ◌<◌, List, [], ◌++◌, length, flat_map, All, Result, Ok, Err, None}
use Rattle.wire_spec.specs.declared.input_kind.InputKind.{InputKind}
use Rattle.wire_spec.specs.declared.input_kind.InputKind.TheVariants.{Magic, Version}
use Rattle.wire_spec.specs.Bytes.{BeginsWith}
use Rattle.wire_spec.specs.Captures.{IsEntry, IsBroken, capture_header, entry_bytes, magic}
use Rattle.wire_spec.specs.Exactly.{OneOfEither}
use Rattle.capture_spec.specs.declared.capture_version.CaptureVersion.{CaptureVersion}
use Rattle.capture_spec.specs.declared.capture_version.CaptureVersion.TheVariants.{One, Two}
use Rattle.capture_spec.specs.Items.{Received, IsItem, entry_of, item_bytes, end_item}
use Rattle.capture_spec.specs.BrokenItems.{IsBrokenItem}

-- ---- what a version says

abbrev pub version_number : CaptureVersion → ℕ
version_number One = 1
version_number Two = 2

-- an entry that it can have: in version 1 there is no sender, in version 2 there is one
abbrev pub IsReceived : CaptureVersion → Received → Type 0
IsReceived One e = (e.sender ≡ None) × IsEntry (entry_of e)
IsReceived Two e = IsItem e

-- an entry, byte by byte
abbrev pub received_bytes : CaptureVersion → Received → List ℕ
received_bytes One e = entry_bytes (entry_of e)
received_bytes Two e = item_bytes e

-- what stands behind so many entries
abbrev pub ending_bytes : CaptureVersion → ℕ → List ℕ
ending_bytes One count = []
ending_bytes Two count = end_item count

-- it can say so many
abbrev pub IsNumber : CaptureVersion → ℕ → Type 0
IsNumber One count = ⊤
IsNumber Two count = count < 2 ^ 64

-- how an entry behind so many others is broken, or in version 2 the end item
abbrev pub IsBrokenAt : CaptureVersion → ℕ → List ℕ → ℕ → InputKind → Type 0
IsBrokenAt One count rest within kind = IsBroken rest within kind
IsBrokenAt Two count rest within kind = IsBrokenItem count rest within kind

-- ---- captures

abbrev pub all_received : CaptureVersion → List Received → List ℕ
all_received v entries = flat_map (received_bytes v) entries

-- the header and these entries
unfoldable pub opened_bytes : CaptureVersion → List Received → List ℕ
opened_bytes v entries = capture_header (version_number v) ++ all_received v entries

-- and what stands behind them
abbrev pub whole_bytes : CaptureVersion → List Received → List ℕ
whole_bytes v entries = opened_bytes v entries ++ ending_bytes v (length entries)

-- the bytes begin with the header and these entries, and this is the rest
pub record ReceivedThen (v : CaptureVersion) (entries : List Received) (rest bytes : List ℕ) : Type 0 where
  pub each : All (IsReceived v) entries
  pub whole : bytes ≡ opened_bytes v entries ++ rest

-- the bytes are a capture of this version of these entries
pub record ReceivedAll (v : CaptureVersion) (entries : List Received) (bytes : List ℕ) : Type 0 where
  pub each : All (IsReceived v) entries
  pub number : IsNumber v (length entries)
  pub whole : bytes ≡ whole_bytes v entries

-- ---- the fault of bytes that are no capture, and its offset

-- after the header and whole entries what follows is broken
pub record BreaksBehind (bytes : List ℕ) (offset : ℕ) (kind : InputKind) : Type 0 where
  pub version : CaptureVersion
  pub entries : List Received
  pub rest : List ℕ
  pub within : ℕ
  pub before : ReceivedThen version entries rest bytes
  pub broken : IsBrokenAt version (length entries) rest within kind
  pub place : offset ≡ length (opened_bytes version entries) + within

-- Magic: the bytes don't begin with the magic. Version: they do, and neither the word 1 nor the word 2 comes next. Each is
-- met also where the input ends before. The other kinds are those of what is broken behind the header.
abbrev pub ReceivedFault : List ℕ → ℕ → InputKind → Type 0
ReceivedFault bytes offset Magic = (offset ≡ 0) × ¬ (BeginsWith bytes magic)
ReceivedFault bytes offset Version =
    (offset ≡ 4) × BeginsWith bytes magic × ¬ (BeginsWith bytes (capture_header 1))
    × ¬ (BeginsWith bytes (capture_header 2))
ReceivedFault bytes offset kind = BreaksBehind bytes offset kind

-- ---- what the laws say

-- the version and the entries of a capture
abbrev pub HasReceived : List ℕ → CaptureVersion × List Received → Type 0
HasReceived bytes capture = ReceivedAll capture.0 capture.1 bytes

abbrev pub HasReceivedFault : List ℕ → ℕ × InputKind → Type 0
HasReceivedFault bytes fault = ReceivedFault bytes fault.0 fault.1

-- one version and list of entries and no fault, or one fault and no list of entries
abbrev pub HasOneCapture : List ℕ → Type 0
HasOneCapture bytes = OneOfEither (HasReceived bytes) (HasReceivedFault bytes)

-- a version and entries, or a fault: its offset, and its kind
abbrev pub ReceivedOutcome : Type 0
ReceivedOutcome = Result (CaptureVersion × List Received) (ℕ × InputKind)

abbrev pub IsReceivedOutcome : List ℕ → ReceivedOutcome → Type 0
IsReceivedOutcome bytes (Ok capture) = HasReceived bytes capture
IsReceivedOutcome bytes (Err fault) = HasReceivedFault bytes fault
