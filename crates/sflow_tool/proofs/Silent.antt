-- A walk over entries that puts nothing.
use Rattle.std.proofs.Common.{◌≡◌, ℕ, false, true, List, [], Ok, refl, sym, ap, subst}
use Rattle.wire_spec.specs.Bytes.{AreBytes}
use Rattle.byte_ends.specs.Seen.{Seen}
use Rattle.capture_spec.specs.Items.{Received}
use Rattle.sflow_io.specs.declared.capture.Next.TheVariants as next
use Rattle.sflow_io.specs.CaptureAnswers.{HasEnded, IsStageAfter, ReaderState, entries_given, number_in, version_in}
use Rattle.sflow_io.specs.CaptureSteps.{HasGiven}
use Rattle.command_runs.specs.Tasks.{Task}
use Rattle.command_runs.specs.Walks.{IsFresh, Moved, version_said}
use Rattle.command_runs.proofs.Walked.{SoFar, all_given}
use Rattle.sflow_tool.specs.Replays.{TookAll}

abbrev pub silent : Task
silent = record { line = λ number e. []; marks = λ e. false; last = λ c. []; waits = true }

-- nothing moves
abbrev pub still : Seen → Moved
still seen = record { sink = seen; sink' = seen; page = []; page' = [] }

-- the end comes behind these entries: they are all
pub took_all : (takes : List Received → Type 0) (source now now' : Seen) (m : Moved) (reader reader' : ReaderState)
    (count marked : ℕ) → (far : SoFar silent takes source now m reader count marked)
    → ((input : List ℕ) (entries : List Received) → AreBytes input → HasGiven input entries reader now
    → HasGiven input entries reader' now')
    → ¬ (HasEnded reader.stage) → IsStageAfter reader.stage reader'.stage (Ok next.End) → TookAll takes source
took_all takes source now now' m reader reader' count marked far given going moved = record {
  capture = record { version = version_said (number_in (version_in reader'.stage)); entries = far.entries };
  all = λ input are is.
      all_given input far.entries reader.stage reader'.stage _ _ _ _ going moved
      (given input far.entries are (far.given input are is)) refl refl;
  were = far.were;
}

-- a reader that has read nothing
pub fresh_going : (reader : ReaderState) → IsFresh reader → ¬ (HasEnded reader.stage)
fresh_going reader fresh = subst (λ (r : ReaderState). ¬ (HasEnded r.stage)) (sym fresh) (λ e. e)

pub fresh_given : (reader : ReaderState) → IsFresh reader → entries_given reader.stage ≡ 0
fresh_given reader fresh = ap (λ (r : ReaderState). entries_given r.stage) fresh
