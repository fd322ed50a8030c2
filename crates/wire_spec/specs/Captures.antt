-- A capture: a magic, a version word, and entries to the end of the input. An entry is the arrival in ms as
-- an unsigned hyper (RFC 4506, section 4.5), and the bytes as a variable-length opaque (section 4.10): their
-- length as a word (section 4.2), the bytes, and zero bytes up to a multiple of four.
use Rattle.std.specs.Prelude.{◌≡◌, ◌≢◌, ℕ, ◌+◌, ◌^◌, ◌<◌, ◌≤◌, ◌⊎◌, List, [], ◌∷◌, ◌++◌, length, replicate, flat_map, All, Result, Ok, Err, codes}
use Rattle.std.specs.Int.{w32, w64, to_be_bytes}
use Rattle.wire_spec.specs.declared.input_kind.InputKind.{InputKind}
use Rattle.wire_spec.specs.declared.input_kind.InputKind.TheVariants.{Magic, Version, Cut, Long, Padding}
use Rattle.wire_spec.specs.Bytes.{BeginsWith}
use Rattle.wire_spec.specs.Exactly.{OneOfEither}
use Rattle.wire_spec.specs.Padding.{padding_of}

-- a datagram as it came: the arrival in ms, and its bytes
pub record Entry : Type 0 where
  pub arrival : ℕ
  pub bytes : List ℕ

-- the arrival fits a hyper, and there are at most 65,535 bytes
pub record IsEntry (e : Entry) : Type 0 where
  pub arrival : e.arrival < 2 ^ 64
  pub bytes : length e.bytes ≤ 65535

-- the first twelve bytes of an entry: the arrival, and the length
unfoldable pub entry_head : ℕ → ℕ → List ℕ
entry_head arrival n = to_be_bytes w64 arrival ++ to_be_bytes w32 n

-- the padding of an entry
abbrev pub entry_padding : Entry → List ℕ
entry_padding e = replicate (padding_of (length e.bytes)) 0

-- an entry, byte by byte
unfoldable pub entry_bytes : Entry → List ℕ
entry_bytes e = entry_head e.arrival (length e.bytes) ++ (e.bytes ++ entry_padding e)

-- the four bytes that a capture begins with
abbrev pub magic : List ℕ
magic = codes "SFLC"

-- the magic, and the version
abbrev pub capture_header : ℕ → List ℕ
capture_header version = magic ++ to_be_bytes w32 version

-- the header of version 1, and the entries one after the other
unfoldable pub capture_bytes : List Entry → List ℕ
capture_bytes entries = capture_header 1 ++ flat_map entry_bytes entries

-- the bytes are a capture of these entries
pub record Capture (entries : List Entry) (bytes : List ℕ) : Type 0 where
  pub each : All IsEntry entries
  pub whole : bytes ≡ capture_bytes entries

-- the bytes are a capture of these entries, and then this rest
pub record CaptureThen (entries : List Entry) (rest bytes : List ℕ) : Type 0 where
  pub each : All IsEntry entries
  pub whole : bytes ≡ capture_bytes entries ++ rest

-- ---- what may stand where an entry is to begin and none does: the rest of the input, from that byte on

-- an entry that lacks some bytes at its end
abbrev pub IsPartOfAnEntry : List ℕ → Type 0
IsPartOfAnEntry rest =
    (e : Entry) × (missing : List ℕ) × IsEntry e × (0 < length missing) × (entry_bytes e ≡ rest ++ missing)

-- the input ends before the arrival and the length are whole, or else before the entry is
abbrev pub IsCutEntry : List ℕ → Type 0
IsCutEntry rest = (0 < length rest) × ((length rest < 12) ⊎ IsPartOfAnEntry rest)

-- an arrival, and a length word above 65,535
abbrev pub IsLongEntry : List ℕ → Type 0
IsLongEntry rest =
    (arrival : ℕ) × (n : ℕ) × (arrival < 2 ^ 64) × (65535 < n) × (n < 2 ^ 32)
    × BeginsWith rest (entry_head arrival n)

-- an entry up to some zero bytes of its padding, and then, still within the padding, a byte that isn't zero
pub record IsBadPadding (rest : List ℕ) (within : ℕ) : Type 0 where
  pub entry : Entry
  pub fits : IsEntry entry
  pub zeros : ℕ
  pub short : zeros < padding_of (length entry.bytes)
  pub stray : ℕ
  pub not_zero : stray ≢ 0
  pub begins : BeginsWith rest
      (entry_head entry.arrival (length entry.bytes) ++ (entry.bytes ++ (replicate zeros 0 ++ stray ∷ [])))
  pub place : within ≡ 12 + length entry.bytes + zeros

-- how an entry is broken, and the offset of the fault within it
abbrev pub IsBroken : List ℕ → ℕ → InputKind → Type 0
IsBroken rest within Cut = (within ≡ 0) × IsCutEntry rest
IsBroken rest within Long = (within ≡ 8) × IsLongEntry rest
IsBroken rest within Padding = IsBadPadding rest within
IsBroken rest within _ = ⊥

-- ---- the fault of bytes that are no capture, and its offset

-- after the header and whole entries an entry is broken
pub record BreaksOff (bytes : List ℕ) (offset : ℕ) (kind : InputKind) : Type 0 where
  pub entries : List Entry
  pub rest : List ℕ
  pub within : ℕ
  pub before : CaptureThen entries rest bytes
  pub broken : IsBroken rest within kind
  pub place : offset ≡ length (capture_bytes entries) + within

-- Magic: the bytes don't begin with the magic. Version: they do, and the word 1 doesn't come next. Cut: the
-- input ends inside an entry. Long: a length word is above 65,535. Padding: a padding byte isn't zero. The
-- other kinds aren't faults of a capture's bytes.
abbrev pub CaptureFault : List ℕ → ℕ → InputKind → Type 0
CaptureFault bytes offset Magic = (offset ≡ 0) × ¬ (BeginsWith bytes magic)
CaptureFault bytes offset Version =
    (offset ≡ 4) × BeginsWith bytes magic × ¬ (BeginsWith bytes (capture_header 1))
CaptureFault bytes offset Cut = BreaksOff bytes offset Cut
CaptureFault bytes offset Long = BreaksOff bytes offset Long
CaptureFault bytes offset Padding = BreaksOff bytes offset Padding
CaptureFault bytes offset _ = ⊥

-- ---- what the laws say

-- the entries of a capture, or a fault: its offset, and its kind
abbrev pub CaptureOutcome : Type 0
CaptureOutcome = Result (List Entry) (ℕ × InputKind)

-- the bytes are a capture of these entries
abbrev pub HasEntries : List ℕ → List Entry → Type 0
HasEntries bytes entries = Capture entries bytes

-- they have this fault, at this offset
abbrev pub HasFault : List ℕ → ℕ × InputKind → Type 0
HasFault bytes fault = CaptureFault bytes fault.0 fault.1

abbrev pub IsCaptureOutcome : List ℕ → CaptureOutcome → Type 0
IsCaptureOutcome bytes (Ok entries) = HasEntries bytes entries
IsCaptureOutcome bytes (Err fault) = HasFault bytes fault

-- one list of entries and no fault, or one fault and no list of entries
abbrev pub HasOneReading : List ℕ → Type 0
HasOneReading bytes = OneOfEither (HasEntries bytes) (HasFault bytes)
