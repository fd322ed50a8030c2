-- What `canon` writes: a capture with the same arrivals and senders, each datagram with zero padding.
use Rattle.std.specs.Prelude.{ℕ, ◌==◌, false, true, List, [], ◌∷◌, ◌++◌, length, map, Option, Some, None, Result, Ok, Err, if◌then◌else◌}
use Rattle.wire_spec.specs.declared.fault.Fault.{Fault}
use Rattle.wire_spec.specs.declared.pad.Pad.TheVariants.{Any}
use Rattle.wire_spec.specs.Captures.{capture_header}
use Rattle.wire_spec.specs.Heads.{unknown}
use Rattle.wire_spec.specs.Shapes.{Tree}
use Rattle.wire_spec.specs.Spelling.{spell}
use Rattle.wire_spec.specs.Whole.{whole_reading}
use Rattle.capture_spec.specs.declared.capture_version.CaptureVersion.{CaptureVersion}
use Rattle.capture_spec.specs.declared.capture_version.CaptureVersion.TheVariants as versions
use Rattle.capture_spec.specs.Items.{Received, Sender}
use Rattle.capture_spec.specs.VersionedCaptures.{ending_bytes, opened_bytes, received_bytes, version_number, whole_bytes}
use Rattle.datagram_core.specs.Tables.{datagram_read}
use Rattle.command_words.specs.declared.command.CanonVersion.{CanonVersion}
use Rattle.command_words.specs.declared.command.CanonVersion.TheVariants.{Same, Two}
use Rattle.command_runs.specs.Acts.{Act}
use Rattle.command_runs.specs.Grammars.{Capture}
use Rattle.command_runs.specs.Tasks.{Task}

-- the value that was read, spelled with zero padding, or the bytes where none was
abbrev pub spelled_anew : List ℕ → Result Tree Fault → List ℕ
spelled_anew bytes (Ok t) = spell t
spelled_anew bytes (Err f) = bytes

-- the bytes of an entry as they are written
unfoldable pub canonical : List ℕ → List ℕ
canonical bytes = spelled_anew bytes (whole_reading Any datagram_read bytes)

-- ---- versions

-- who sent an entry, in version 2: where version 1 doesn't tell it, nobody from port 0
abbrev pub known_sender : Option Sender → Sender
known_sender (Some sender) = sender
known_sender None = record { address = unknown; port = 0 }

abbrev pub written_sender : CanonVersion → Option Sender → Option Sender
written_sender Same sender = sender
written_sender Two sender = Some (known_sender sender)

-- an entry as it is written
abbrev pub canonical_entry : CanonVersion → Received → Received
canonical_entry to e =
    record { arrival = e.arrival; sender = written_sender to e.sender; bytes = canonical e.bytes }

abbrev pub canonical_entries : CanonVersion → List Received → List Received
canonical_entries to entries = map (canonical_entry to) entries

-- the version that is written of one that was read
abbrev pub written_version : CanonVersion → CaptureVersion → CaptureVersion
written_version Same version = version
written_version Two version = versions.Two

-- what is written of a capture
abbrev pub canonical_capture : CanonVersion → Capture → Capture
canonical_capture to c =
    record { version = written_version to c.version; entries = canonical_entries to c.entries }

-- ---- the texts

-- the capture of all entries
abbrev pub canon_text : CanonVersion → Capture → List ℕ
canon_text to c = whole_bytes (written_version to c.version) (canonical_entries to c.entries)

-- the version of a capture in which an entry of this sender stands
abbrev pub version_with : Option Sender → CaptureVersion
version_with None = versions.One
version_with (Some sender) = versions.Two

-- the capture up to the last of these entries, or nothing where there are none
abbrev pub begun_capture : List Received → List ℕ
begun_capture [] = []
begun_capture (e ∷ entries) = opened_bytes (version_with e.sender) (e ∷ entries)

-- what is written of the entries that were given before reading ended early
abbrev pub canon_part : CanonVersion → Capture → List ℕ
canon_part to c = begun_capture (canonical_entries to c.entries)

abbrev pub canon_act : CanonVersion → Act Capture
canon_act to = record {
  whole = canon_text to;
  part = canon_part to;
  finds = λ c. false;
  may_find = false;
  at_end = false;
  memory_first = true;
}

-- ---- entry by entry

abbrev pub version_header : CaptureVersion → List ℕ
version_header version = capture_header (version_number version)

-- the header stands before the first entry
abbrev pub header_before : ℕ → CaptureVersion → List ℕ
header_before number version = if number == 1 then version_header version else []

-- an entry of either version, with what stands before it
abbrev pub entry_put : ℕ → Received → List ℕ
entry_put number e =
    header_before number (version_with e.sender) ++ received_bytes (version_with e.sender) e

abbrev pub canon_line : CanonVersion → ℕ → Received → List ℕ
canon_line to number e = entry_put number (canonical_entry to e)

-- and alone where there were none
abbrev pub header_alone : ℕ → CaptureVersion → List ℕ
header_alone count version = if count == 0 then version_header version else []

-- what stands behind so many entries
abbrev pub end_put : ℕ → CaptureVersion → List ℕ
end_put count version = header_alone count version ++ ending_bytes version count

abbrev pub canon_task : CanonVersion → Task
canon_task to = record {
  line = canon_line to;
  marks = λ e. false;
  last = λ c. end_put (length c.entries) (written_version to c.version);
  waits = false;
}
