-- Runs of `replay`, and what they feed the consumers.
use Rattle.std.proofs.Common.{◌≡◌, ℕ, Bool, false, List, [], ◌++◌, Option, Ok, Err, refl, sym, ap, subst, ◌∙◌}
use Rattle.std.specs.Io.KnownBytes.{IsAtEnd}
use Rattle.byte_ends.specs.Seen.{Seen}
use Rattle.byte_ends.proofs.Prefixes.{takes-nil}
use Rattle.capture_spec.specs.declared.capture_version.CaptureVersion.{CaptureVersion}
use Rattle.capture_spec.specs.declared.capture_version.CaptureVersion.TheVariants.{One}
use Rattle.capture_spec.specs.Items.{Received}
use Rattle.books_spec.specs.Items.{Item}
use Rattle.books_spec.specs.WholeBooks.{whole_books}
use Rattle.books_spec.specs.declared.limits.Limits.{Limits}
use Rattle.sample_taps.specs.declared.brief.Brief.{Brief}
use Rattle.sample_taps.specs.Feeding.{Held}
use Rattle.flow_collector.specs.Collectors.{CollectorState, StandsFor}
use Rattle.report_lines.specs.HeaderLines.{ShownTaps}
use Rattle.report_lines.specs.InterfaceLines.{report_with}
use Rattle.sflow_io.specs.CaptureSteps.{EndsAt}
use Rattle.sflow_io.specs.declared.capture.ReadRefusal.{ReadRefusal}
use Rattle.sflow_io.specs.declared.capture.ReadRefusal.TheVariants as refusals
use Rattle.command_runs.specs.declared.status.Status.{Status}
use Rattle.command_runs.specs.declared.status.Status.TheVariants.{Done, WriteFault}
use Rattle.command_runs.specs.Endings.{Flushed, refusal_status, whole, part}
use Rattle.command_runs.specs.Grammars.{captures}
use Rattle.command_runs.specs.Outside.{Outside}
use Rattle.command_runs.specs.Readings.{ReadsTo}
use Rattle.command_runs.specs.Runs.{Runs}
use Rattle.command_runs.specs.Visits.{HasVisited}
use Rattle.command_runs.proofs.ReadRuns as runs
use Rattle.command_runs.proofs.Visited.{reads_so}
use Rattle.sflow_tool.specs.Replays.{Collects, HasTakeCause, TookAll, TookSome, briefs_in, items_in, replay_act}
use Rattle.sflow_tool.proofs.Items.{report_so, stands_so}

refusal_cause : (source source' : Seen) (r : ReadRefusal) → HasTakeCause source source' (Err r)
    → runs.HasRefusalCause source source' r
refusal_cause source source' r cause = record {
  failed = λ e. cause.failed (ap (λ (q : ReadRefusal). Err q) e);
  kept = λ other. cause.kept (λ e. other cc);
}

-- the last answer of a reader says how reading ended
ends_so : (l : Limits) (interfaces : Bool) (taps : ShownTaps) (v : Option CaptureVersion) (entries : List Received)
    (input : List ℕ) (left : Option (List ℕ)) (r : ReadRefusal) → EndsAt v entries input left (Err r)
    → ReadsTo captures (replay_act l interfaces taps) input left (record { version = One; entries = entries })
    (refusal_status r)
ends_so l interfaces taps v entries input left refusals.ReadFault h = h
ends_so l interfaces taps v entries input left (refusals.BadInput at kind) h = h
ends_so l interfaces taps v entries input left refusals.Spent h = h

module _ {X : Type 0} (step : X → Brief → X → Type 0) (done : X → Bool) (l : Limits) (now : CollectorState)
    (xs ys : List X) (all left : ℕ) (source source' : Seen) where
  abbrev Takes : List Received → Type 0
  Takes entries = Collects step done l now xs ys all left entries

  abbrev Feeds : List Received → Type 0
  Feeds entries = Held step done (briefs_in l entries) xs ys

  module _ (interfaces : Bool) (taps : ShownTaps) (sink : Seen) where
    -- reading was refused
    pub refused : (r : ReadRefusal) (status : Status) → status ≡ refusal_status r → TookSome Takes source source' r
        → HasTakeCause source source' (Err r)
        → Runs captures (replay_act l interfaces taps) (record { source = source; sink = sink })
        (record { source = source'; sink = sink }) status
    refused r status named took cause =
        runs.refused captures (replay_act l interfaces taps) (record { source = source; sink = sink })
        (record { source = source'; sink = sink }) (record { version = One; entries = took.entries }) [] r status
        (λ input are told.
        ends_so l interfaces taps took.version took.entries input source'.told r (took.ends input are told))
        (λ input are told. refl) (refusal_cause source source' r cause) (whole named (takes-nil sink))
        (λ late. (named, refl))

    -- all entries were taken
    pub finished : (sink' : Seen) (page : List ℕ) → page ≡ [] → (result : Status) → TookAll Takes source
        → IsAtEnd source'.told → (u : Unit {0}) → HasTakeCause source source' (Ok u)
        → ((m : Limits) (items : List Item) → StandsFor now.books m items
        → Flushed sink sink' (page ++ report_with interfaces (whole_books m items) now.classes taps) Done result)
        → Runs captures (replay_act l interfaces taps) (record { source = source; sink = sink })
        (record { source = source'; sink = sink' }) result
    finished sink' page empty result took at_end u cause flushes =
        runs.finished captures (replay_act l interfaces taps) (record { source = source; sink = sink })
        (record { source = source'; sink = sink' }) took.capture _ took.all
        (λ input are told.
        ap (λ p. p ++ report_with interfaces (whole_books l (items_in took.capture.entries)) now.classes taps) empty
        ∙ report_so step done l now xs ys all left took.capture.entries interfaces taps took.were)
        (λ found. absurd cc) at_end (cause.kept (λ e. cc)) false result refl
        (flushes l (items_in took.capture.entries) (stands_so step done l now xs ys all left took.capture.entries took.were))

  -- ---- what the consumers were fed

  pub some_fed : (r : ReadRefusal) (status : Status) → status ≡ refusal_status r → TookSome Takes source source' r
      → HasVisited Feeds source source' status
  some_fed r status named took =
      subst (HasVisited Feeds source source') (sym named) (record {
        read = record { version = One; entries = took.entries };
        were = took.were.gathered.held;
        reads = λ input are told. reads_so took.entries took.version input source'.told r (took.ends input are told);
      })

  all_at_done : TookAll Takes source → HasVisited Feeds source source' Done
  all_at_done took = record { read = took.capture; were = took.were.gathered.held; reads = took.all }

  all_at_fault : TookAll Takes source → HasVisited Feeds source source' WriteFault
  all_at_fault took = record { read = took.capture; were = took.were.gathered.held; reads = took.all }

  pub all_fed : (old new : Seen) (text : List ℕ) (result : Status) → TookAll Takes source
      → Flushed old new text Done result → HasVisited Feeds source source' result
  all_fed old new text result took (whole is taken) = subst (HasVisited Feeds source source') (sym is) (all_at_done took)
  all_fed old new text result took (part is taken) = subst (HasVisited Feeds source source') (sym is) (all_at_fault took)

-- ---- under limits that are the same

pub runs_under : (l m : Limits) (interfaces : Bool) (taps : ShownTaps) (before after : Outside) (status : Status) → l ≡ m
    → Runs captures (replay_act l interfaces taps) before after status
    → Runs captures (replay_act m interfaces taps) before after status
runs_under l m interfaces taps before after status same ran =
    subst (λ (n : Limits). Runs captures (replay_act n interfaces taps) before after status) same ran

pub fed_under : {X : Type 0} (step : X → Brief → X → Type 0) (done : X → Bool) (l m : Limits) (xs ys : List X)
    (source source' : Seen) (status : Status) → l ≡ m
    → HasVisited (λ entries. Held step done (briefs_in l entries) xs ys) source source' status
    → HasVisited (λ entries. Held step done (briefs_in m entries) xs ys) source source' status
fed_under step done l m xs ys source source' status same fed =
    subst (λ (n : Limits). HasVisited (λ entries. Held step done (briefs_in n entries) xs ys) source source' status) same fed
