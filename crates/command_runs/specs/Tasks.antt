-- What a visitor of entries does, whatever it has visited, and how that is what a command does.
use Rattle.std.specs.Prelude.{◌≡◌, ℕ, Bool, true, List, ◌++◌, All, nat_lt}
use Rattle.std.specs.List.{count_by}
use Rattle.capture_spec.specs.declared.capture_version.CaptureVersion.{CaptureVersion}
use Rattle.capture_spec.specs.Items.{Received}
use Rattle.capture_spec.specs.VersionedCaptures.{IsReceived}
use Rattle.command_runs.specs.Acts.{Act}
use Rattle.command_runs.specs.Grammars.{Capture}
use Rattle.command_runs.specs.Lines.{lines_of}

pub record Task : Type 0 where
  -- what it puts for the entry of this number, which counts from 1
  pub line : ℕ → Received → List ℕ
  -- the entries that it marks
  pub marks : Received → Bool
  -- what it puts behind all entries of this capture
  pub last : Capture → List ℕ
  -- it puts nothing before that
  pub waits : Bool

-- the entries are those of one version
abbrev pub AreOf : CaptureVersion → List Received → Type 0
AreOf v entries = All (IsReceived v) entries

-- a visitor with this task does what the row says, and finds something where it marks an entry
pub record Does (t : Task) (a : Act Capture) : Type 0 where
  pub parts : (v : CaptureVersion) (c : Capture) → AreOf v c.entries → lines_of t.line 1 c.entries ≡ a.part c
  pub whole : (c : Capture) → AreOf c.version c.entries → lines_of t.line 1 c.entries ++ t.last c ≡ a.whole c
  pub finds : (c : Capture) → nat_lt 0 (count_by t.marks c.entries) ≡ a.finds c
  pub may : (c : Capture) → a.finds c ≡ true → a.may_find ≡ true
  pub waits : a.at_end ≡ true → t.waits ≡ true
