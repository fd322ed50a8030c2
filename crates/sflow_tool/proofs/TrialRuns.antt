-- Runs of `trial`, and what they feed the consumers.
use Rattle.std.proofs.Common.{◌≡◌, ◌<◌, ◌^◌, ℕ, Bool, false, inl, inr, List, [], ◌++◌, length, Option, Ok, Err, refl, sym, ap, subst}
use Rattle.std.specs.Io.KnownBytes.{IsAtEnd}
use Rattle.byte_ends.specs.Seen.{Seen}
use Rattle.byte_ends.proofs.Prefixes.{takes-nil}
use Rattle.books_spec.specs.WholeBooks.{whole_books}
use Rattle.books_spec.specs.declared.limits.Limits.{Limits}
use Rattle.sample_taps.specs.declared.brief.Brief.{Brief}
use Rattle.sample_taps.specs.Feeding.{Held}
use Rattle.flow_collector.specs.Collectors.{CollectorState, StandsFor}
use Rattle.report_lines.specs.HeaderLines.{ShownTaps}
use Rattle.report_lines.specs.InterfaceLines.{report_with}
use Rattle.sflow_io.specs.declared.capture.ReadRefusal.{ReadRefusal}
use Rattle.sflow_io.specs.declared.capture.ReadRefusal.TheVariants as refusals
use Rattle.script_spec.specs.Lines.{Line}
use Rattle.command_runs.specs.declared.status.Status.{Status}
use Rattle.command_runs.specs.declared.status.Status.TheVariants.{Done, Memory}
use Rattle.command_runs.specs.Endings.{Flushed, refusal_status, whole, part}
use Rattle.command_runs.specs.Grammars.{scripts}
use Rattle.command_runs.specs.Outside.{Outside}
use Rattle.command_runs.specs.Readings.{ReadsTo}
use Rattle.command_runs.specs.Runs.{Runs, lacked_later}
use Rattle.command_runs.proofs.ReadRuns as runs
use Rattle.sflow_tool.specs.AgentWalks.{StopsBehind}
use Rattle.sflow_tool.specs.Replays.{Collects, briefs_in, items_in}
use Rattle.sflow_tool.specs.Trials.{HasTrialCause, HasTriedLines, IsOpen, TriedLines, TriedScript, TriedSome, WereTried, received_in, tail_of, trial_act}
use Rattle.sflow_tool.specs.declared.trial.TrialStop.TheVariants as stops
use Rattle.sflow_tool.specs.declared.trial_run.TrialRun.{TrialRun}
use Rattle.sflow_tool.proofs.Items.{report_so, stands_so}

refusal_cause : (source source' : Seen) (r : ReadRefusal) → HasTrialCause source source' (Err (stops.Read r))
    → runs.HasRefusalCause source source' r
refusal_cause source source' r cause = record {
  failed = λ e. cause.failed (ap (λ (q : ReadRefusal). Err (stops.Read q)) e);
  kept = λ other. cause.kept (λ e. other cc);
}

ends_so : (l : Limits) (interfaces : Bool) (taps : ShownTaps) (lines : List Line) (input : List ℕ) (left : Option (List ℕ))
    (r : ReadRefusal) → StopsBehind lines input left r
    → ReadsTo scripts (trial_act l interfaces taps) input left lines (refusal_status r)
ends_so l interfaces taps lines input left refusals.ReadFault h = h
ends_so l interfaces taps lines input left (refusals.BadInput at kind) h = h
ends_so l interfaces taps lines input left refusals.Spent h = h

tried_so : (lines : List Line) (input : List ℕ) (left : Option (List ℕ)) (r : ReadRefusal) → StopsBehind lines input left r
    → WereTried lines input left (refusal_status r)
tried_so lines input left refusals.ReadFault h = h
tried_so lines input left (refusals.BadInput at kind) h = h
tried_so lines input left refusals.Spent h = h

module _ {X : Type 0} (step : X → Brief → X → Type 0) (done : X → Bool) (l : Limits) (now : CollectorState)
    (xs ys : List X) (all left : ℕ) (source source' : Seen) where
  abbrev Takes : List Line → Type 0
  Takes lines = Collects step done l now xs ys all left (received_in lines)

  abbrev Feeds : List Line → Type 0
  Feeds lines = Held step done (briefs_in l (received_in lines)) xs ys

  module _ (interfaces : Bool) (taps : ShownTaps) (sink : Seen) where
    -- reading was refused, or a line breaks a rule
    pub refused : (r : ReadRefusal) (status : Status) → status ≡ refusal_status r → TriedLines Takes source source' r
        → HasTrialCause source source' (Err (stops.Read r))
        → Runs scripts (trial_act l interfaces taps) (record { source = source; sink = sink })
        (record { source = source'; sink = sink }) status
    refused r status named took cause =
        runs.refused scripts (trial_act l interfaces taps) (record { source = source; sink = sink })
        (record { source = source'; sink = sink }) took.lines [] r status
        (λ input are told. ends_so l interfaces taps took.lines input source'.told r (took.ends input told))
        (λ input are told. refl) (refusal_cause source source' r cause) (whole named (takes-nil sink))
        (λ late. (named, refl))

    -- memory was lacking at a line
    pub lacking : TriedSome Takes source → HasTrialCause source source' (Err stops.Memory)
        → Runs scripts (trial_act l interfaces taps) (record { source = source; sink = sink })
        (record { source = source'; sink = sink }) Memory
    lacking took cause = record {
      may = tt;
      ends = λ input are told. lacked_later took.lines (took.begins input told) [] [] refl (takes-nil sink);
      at_end = λ e. elim e [ inl e ↦ absurd cc | inr e ↦ absurd cc ];
      quiet = λ late not_done not_found not_failed. refl;
      early = λ first e. absurd cc;
      read_fault = λ e. absurd cc;
      read_kept = λ other late. cause.kept (λ e. cc);
      write_fault = λ e. absurd cc;
      write_kept = λ e. refl;
      reads_once = inl (cause.kept (λ e. cc));
    }

    module _ (run : TrialRun) (same : run.limits ≡ l) (sink' : Seen) (result : Status)
        (took : TriedScript (λ lines. IsOpen run lines × (length lines < 2 ^ 32)) Takes source)
        (flushes : (lines : List Line) → IsOpen run lines → length lines < 2 ^ 32
        → StandsFor now.books run.limits (items_in (received_in lines))
        → Flushed sink sink' (report_with interfaces (whole_books run.limits (items_in (received_in lines))) now.classes taps
        ++ tail_of run.limits lines) Done result) where
      written : Flushed sink sink' (report_with interfaces (whole_books l (items_in (received_in took.lines))) now.classes taps
          ++ tail_of l took.lines) Done result
      written =
          subst (λ (m : Limits). Flushed sink sink'
          (report_with interfaces (whole_books m (items_in (received_in took.lines))) now.classes taps ++ tail_of m took.lines) Done result)
          same
          (flushes took.lines took.stand.0 took.stand.1
          (subst (λ (m : Limits). StandsFor now.books m (items_in (received_in took.lines))) (sym same)
          (stands_so step done l now xs ys all left (received_in took.lines) took.were)))

      -- all lines were taken
      pub finished : IsAtEnd source'.told → (u : Unit {0}) → HasTrialCause source source' (Ok u)
          → Runs scripts (trial_act l interfaces taps) (record { source = source; sink = sink })
          (record { source = source'; sink = sink' }) result
      finished at_end u cause =
          runs.finished scripts (trial_act l interfaces taps) (record { source = source; sink = sink })
          (record { source = source'; sink = sink' }) took.lines _ (λ input are told. took.all input told)
          (λ input are told. ap (λ t. t ++ tail_of l took.lines)
          (report_so step done l now xs ys all left (received_in took.lines) interfaces taps took.were))
          (λ found. absurd cc) at_end (cause.kept (λ e. cc)) false result refl written

      fed_by : (text : List ℕ) → Flushed sink sink' text Done result → HasTriedLines Feeds source source' result
      fed_by text (whole is taken) =
          subst (HasTriedLines Feeds source source') (sym is)
          (record { lines = took.lines; were = took.were.gathered.held; tried = took.all })
      fed_by text (part is taken) =
          subst (HasTriedLines Feeds source source') (sym is)
          (record { lines = took.lines; were = took.were.gathered.held; tried = took.all })

      -- and all that they deliver went to the consumers
      pub all_fed : HasTriedLines Feeds source source' result
      all_fed = fed_by _ written

  -- ---- what the consumers were fed

  pub some_fed : (r : ReadRefusal) (status : Status) → status ≡ refusal_status r → TriedLines Takes source source' r
      → HasTriedLines Feeds source source' status
  some_fed r status named took =
      subst (HasTriedLines Feeds source source') (sym named) (record {
        lines = took.lines;
        were = took.were.gathered.held;
        tried = λ input told. tried_so took.lines input source'.told r (took.ends input told);
      })

  pub lacking_fed : TriedSome Takes source → HasTriedLines Feeds source source' Memory
  lacking_fed took = record { lines = took.lines; were = took.were.gathered.held; tried = took.begins }

-- ---- under limits that are the same

pub runs_under : (l m : Limits) (interfaces : Bool) (taps : ShownTaps) (before after : Outside) (status : Status) → l ≡ m
    → Runs scripts (trial_act l interfaces taps) before after status
    → Runs scripts (trial_act m interfaces taps) before after status
runs_under l m interfaces taps before after status same ran =
    subst (λ (n : Limits). Runs scripts (trial_act n interfaces taps) before after status) same ran

pub fed_under : {X : Type 0} (step : X → Brief → X → Type 0) (done : X → Bool) (l m : Limits) (xs ys : List X)
    (source source' : Seen) (status : Status) → l ≡ m
    → HasTriedLines (λ lines. Held step done (briefs_in l (received_in lines)) xs ys) source source' status
    → HasTriedLines (λ lines. Held step done (briefs_in m (received_in lines)) xs ys) source source' status
fed_under step done l m xs ys source source' status same fed =
    subst (λ (n : Limits). HasTriedLines (λ lines. Held step done (briefs_in n (received_in lines)) xs ys) source source' status) same fed
