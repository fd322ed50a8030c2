-- Runs of a command over a capture, whose visitor does what the command's row says.
use Rattle.std.proofs.Common.{◌≡◌, ℕ, true, inl, inr, nat_lt, List, [], ◌++◌, Option, Result, Ok, Err, refl, sym, ap, subst, ◌∙◌}
use Rattle.std.specs.Io.KnownBytes.{IsAtEnd}
use Rattle.std.proofs.lemmas.List.Elements.{All-nil}
use Rattle.byte_ends.specs.Seen.{Seen}
use Rattle.capture_spec.specs.declared.capture_version.CaptureVersion.{CaptureVersion}
use Rattle.capture_spec.specs.declared.capture_version.CaptureVersion.TheVariants.{One}
use Rattle.capture_spec.specs.Items.{Received}
use Rattle.capture_spec.specs.VersionedCaptures.{IsReceived}
use Rattle.sflow_io.specs.declared.capture.ReadRefusal.{ReadRefusal}
use Rattle.sflow_io.specs.declared.capture.ReadRefusal.TheVariants as refusals
use Rattle.sflow_io.specs.CaptureSteps.{BeginsWithEntries, EndsAt}
use Rattle.command_runs.specs.declared.status.Status.{Status}
use Rattle.command_runs.specs.declared.status.Status.TheVariants.{WriteFault}
use Rattle.command_runs.specs.declared.walk.Counts.{Counts}
use Rattle.command_runs.specs.declared.walk.Stop.{Stop}
use Rattle.command_runs.specs.declared.walk.Stop.TheVariants as stops
use Rattle.command_runs.specs.Acts.{Act}
use Rattle.command_runs.specs.Endings.{Flushed, counted_status, refusal_status}
use Rattle.command_runs.specs.Grammars.{Capture, captures}
use Rattle.command_runs.specs.Lines.{lines_of}
use Rattle.command_runs.specs.Outside.{Outside}
use Rattle.command_runs.specs.Readings.{ReadsTo}
use Rattle.command_runs.specs.Runs.{Runs}
use Rattle.command_runs.specs.Tasks.{AreOf, Does, Task}
use Rattle.command_runs.specs.Walks.{AreCounts, HasWalkCause, Moved, VisitFailed, VisitedAll, VisitedSome}
use Rattle.command_runs.proofs.Ends.{flushed_after, flushed_more}
use Rattle.command_runs.proofs.ReadRuns as runs

abbrev capture_of : CaptureVersion → List Received → Capture
capture_of v entries = record { version = v; entries = entries }

-- the last answer of a reader says how reading ended
ends_so : (a : Act Capture) (w : CaptureVersion) (v : Option CaptureVersion) (entries : List Received) (input : List ℕ)
    (left : Option (List ℕ)) (r : ReadRefusal) → EndsAt v entries input left (Err r)
    → ReadsTo captures a input left (capture_of w entries) (refusal_status r)
ends_so a w v entries input left refusals.ReadFault h = h
ends_so a w v entries input left (refusals.BadInput at kind) h = h
ends_so a w v entries input left refusals.Spent h = h

-- ---- the entries are those of one version

abbrev AreOfOne : List Received → Type 0
AreOfOne entries = (v : CaptureVersion) × AreOf v entries

none_are : (entries : List Received) → entries ≡ [] → AreOfOne entries
none_are entries none = (One, subst (AreOf One) (sym none) (All-nil (IsReceived One)))

ended_are : (v : Option CaptureVersion) (entries : List Received) (input : List ℕ) (left : Option (List ℕ))
    (r : ReadRefusal) → EndsAt v entries input left (Err r) → AreOfOne entries
ended_are v entries input left refusals.ReadFault h = elim h.gone [
  | inl none ↦ none_are entries none.0
  | inr some ↦ (some.0, some.1.each)
]
ended_are v entries input left (refusals.BadInput at kind) h = elim h.behind [
  | inl none ↦ none_are entries none.0
  | inr some ↦ (some.version, some.before.each)
]
ended_are v entries input left refusals.Spent h = (h.version, h.before.each)

begun_are : (entries : List Received) (input : List ℕ) → BeginsWithEntries input entries → AreOfOne entries
begun_are entries input (inl none) = none_are entries none
begun_are entries input (inr (v, rest, some)) = (v, some.each)

refusal_cause : (source source' : Seen) (r : ReadRefusal) → HasWalkCause source source' (Err (stops.Read r))
    → runs.HasRefusalCause source source' r
refusal_cause source source' r cause = record {
  failed = λ e. cause.failed (ap (λ (q : ReadRefusal). Err (stops.Read q)) e);
  kept = λ other. cause.kept (λ e. other cc);
}

module _ (a : Act Capture) (t : Task) (does : Does t a) (source source' sink sink' sink'' : Seen)
    (page held : List ℕ) (empty : page ≡ []) where
  abbrev before : Outside
  before = record { source = source; sink = sink }

  abbrev after : Outside
  after = record { source = source'; sink = sink'' }

  abbrev moved : Moved
  moved = record { sink = sink; sink' = sink'; page = page; page' = held }

  abbrev Cause : Result Counts Stop → Type 0
  Cause result = HasWalkCause source source' result

  -- the version matters only where the capture is read to its end
  abbrev some_capture : List Received → Capture
  some_capture entries = capture_of One entries

  part_put : (entries : List Received) → AreOfOne entries
      → page ++ lines_of t.line 1 entries ≡ a.part (some_capture entries)
  part_put entries are =
      ap (λ l. l ++ lines_of t.line 1 entries) empty ∙ does.parts are.0 (some_capture entries) are.1

  whole_put : (c : Capture) → AreOf c.version c.entries
      → page ++ (lines_of t.line 1 c.entries ++ t.last c) ≡ a.whole c
  whole_put c are = ap (λ l. l ++ (lines_of t.line 1 c.entries ++ t.last c)) empty ∙ does.whole c are

  -- a write failed at an entry
  pub write_failed : VisitFailed t source moved → Cause (Err stops.Write)
      → Runs captures a before (record { source = source'; sink = sink' }) WriteFault
  write_failed seen cause =
      runs.write_failed captures a before (record { source = source'; sink = sink' }) (some_capture seen.entries) _
      seen.begins (λ input are told. part_put seen.entries (begun_are seen.entries input (seen.begins input are told)))
      (cause.kept (λ e. cc)) seen.put

  -- reading was refused
  pub refused : (refusal : ReadRefusal) (status result : Status) → status ≡ refusal_status refusal
      → VisitedSome t source source' moved refusal → Cause (Err (stops.Read refusal))
      → Flushed sink' sink'' held status result
      → (t.waits ≡ true → (result ≡ status) × (sink''.told ≡ sink.told))
      → Runs captures a before after result
  refused refusal status result named seen cause flush waits =
      runs.refused captures a before after (some_capture seen.entries) _ refusal result
      (λ input are told. ends_so a One seen.version seen.entries input source'.told refusal (seen.ends input are told))
      (λ input are told. part_put seen.entries
      (ended_are seen.version seen.entries input source'.told refusal (seen.ends input are told)))
      (refusal_cause source source' refusal cause)
      (flushed_after sink sink' sink'' page held _ status (refusal_status refusal) result seen.put named flush)
      (λ late. ((waits (does.waits late)).0 ∙ named, (waits (does.waits late)).1))

  -- all entries were visited
  module _ (visited : List Received → Type 0) (counts : Counts) (seen : VisitedAll t visited source moved counts)
      (at_end : IsAtEnd source'.told) (cause : Cause (Ok counts)) where
    abbrev whole_capture : Capture
    whole_capture = capture_of counts.version seen.entries

    pub finished : (t' : Task) → t' ≡ t → (result : Status)
        → (AreCounts t' seen.entries counts
        → Flushed sink' sink'' (held ++ t'.last whole_capture) (counted_status counts) result)
        → Runs captures a before after result
    finished t' same result flushes =
        let flush =
        subst
        (λ (u : Task). AreCounts u seen.entries counts
        → Flushed sink' sink'' (held ++ u.last whole_capture) (counted_status counts) result)
        same flushes seen.counted in
        runs.finished captures a before after whole_capture _ seen.all
        (λ input are told. whole_put whole_capture (seen.all input are told).capture.each)
        (does.may whole_capture) at_end
        (cause.kept (λ e. cc)) (nat_lt 0 counts.marked) result
        (sym (does.finds whole_capture) ∙ ap (nat_lt 0) (sym seen.counted.marked_are))
        (flushed_more sink sink' sink'' page held _ (counted_status counts) (counted_status counts) result seen.put refl _ flush)
