-- A visit to each entry of a capture as it is read, with a page on its way to a sink.
use Rattle.std.specs.Prelude.{◌≡◌, ◌≢◌, ℕ, List, [], ◌++◌, length, ◌==◌, if◌then◌else◌, Option, Some, None, Result, Ok, Err}
use Rattle.std.specs.List.{count_by}
use Rattle.std.specs.Io.KnownBytes.{IsAtEnd}
use Rattle.wire_spec.specs.Bytes.{AreBytes}
use Rattle.capture_spec.specs.declared.capture_version.CaptureVersion.{CaptureVersion}
use Rattle.capture_spec.specs.declared.capture_version.CaptureVersion.TheVariants.{One, Two}
use Rattle.capture_spec.specs.Items.{Received}
use Rattle.sflow_io.specs.declared.capture.ReadRefusal.{ReadRefusal}
use Rattle.sflow_io.specs.declared.capture.ReadRefusal.TheVariants as refusals
use Rattle.sflow_io.specs.declared.capture.Stage.TheVariants.{Start}
use Rattle.sflow_io.specs.CaptureAnswers.{ReaderState}
use Rattle.sflow_io.specs.CaptureSteps.{IsAllOf, EndsAt, BeginsWithEntries}
use Rattle.byte_ends.specs.Seen.{Seen, TakesPart, next_count}
use Rattle.text_lines.specs.Pages.{Puts}
use Rattle.command_runs.specs.declared.walk.Counts.{Counts}
use Rattle.command_runs.specs.declared.walk.Stop.{Stop}
use Rattle.command_runs.specs.declared.walk.Stop.TheVariants as stops
use Rattle.command_runs.specs.Lines.{lines_of}
use Rattle.command_runs.specs.Tasks.{Task}

-- the reader has read nothing yet
abbrev pub IsFresh : ReaderState → Type 0
IsFresh reader = reader ≡ record { stage = Start; held = [] }

-- what the sink showed and shows, and what the page held and holds
pub record Moved : Type 0 where
  pub sink : Seen
  pub sink' : Seen
  pub page : List ℕ
  pub page' : List ℕ

-- the lines of these entries were put
abbrev pub PutsLines : Task → Moved → List Received → Type 0
PutsLines t m entries = Puts m.sink m.sink' m.page m.page' (lines_of t.line 1 entries)

-- the version of this number, which is 1 or 2
abbrev pub version_said : Option ℕ → CaptureVersion
version_said None = One
version_said (Some number) = if number == 1 then One else Two

-- these are the numbers of entries, and of those that are marked
pub record AreCounts (t : Task) (entries : List Received) (counts : Counts) : Type 0 where
  pub entries_are : counts.entries ≡ length entries
  pub marked_are : counts.marked ≡ count_by t.marks entries

-- all entries of what the source told were visited
pub record VisitedAll (t : Task) (visited : List Received → Type 0) (source : Seen) (m : Moved) (counts : Counts)
    : Type 0 where
  pub entries : List Received
  pub all : (input : List ℕ) → AreBytes input → source.told ≡ Some input → IsAllOf counts.version entries input
  pub counted : AreCounts t entries counts
  pub were : visited entries
  pub put : PutsLines t m entries

-- reading ended behind these entries with this refusal
pub record VisitedSome (t : Task) (source source' : Seen) (m : Moved) (refusal : ReadRefusal) : Type 0 where
  pub entries : List Received
  pub version : Option CaptureVersion
  pub ends : (input : List ℕ) → AreBytes input → source.told ≡ Some input
      → EndsAt version entries input source'.told (Err refusal)
  pub put : PutsLines t m entries

-- a write failed at the last of these entries
pub record VisitFailed (t : Task) (source : Seen) (m : Moved) : Type 0 where
  pub entries : List Received
  pub begins : (input : List ℕ) → AreBytes input → source.told ≡ Some input → BeginsWithEntries input entries
  pub put : TakesPart m.sink m.sink' (m.page ++ lines_of t.line 1 entries)

-- how the visits may end
abbrev pub VisitsEnd : Task → (List Received → Type 0) → Seen → Seen → Moved → Result Counts Stop → Type 0
VisitsEnd t visited source source' m (Ok counts) = VisitedAll t visited source m counts
VisitsEnd t visited source source' m (Err (stops.Read refusal)) = VisitedSome t source source' m refusal
VisitsEnd t visited source source' m (Err stops.Write) = VisitFailed t source m

-- visits to all entries have left the source at its end
abbrev pub ReadsToTheEnd : Result Counts Stop → Seen → Type 0
ReadsToTheEnd (Ok counts) source = IsAtEnd source.told
ReadsToTheEnd (Err stop) source = Unit {0}

-- where a read fault ended the visits one call of the source failed, and else none
pub record HasWalkCause (source source' : Seen) (result : Result Counts Stop) : Type 0 where
  pub failed : result ≡ Err (stops.Read refusals.ReadFault) → source'.faults ≡ next_count source.faults
  pub kept : result ≢ Err (stops.Read refusals.ReadFault) → source'.faults ≡ source.faults
