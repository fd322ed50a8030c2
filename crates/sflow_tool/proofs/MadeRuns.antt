-- Runs that make a run and try it, and what they feed the consumers.
use Rattle.std.proofs.Common.{◌≡◌, ◌⊎◌, ℕ, Bool, inr, List, [], Some, refl, sym, subst, append-nil, ap, ◌∙◌}
use Rattle.wire_spec.specs.Bytes.{AreBytes}
use Rattle.byte_ends.specs.Seen.{Rose, Takes}
use Rattle.capture_spec.specs.Items.{Received}
use Rattle.trial_spec.specs.Made.{made_deliveries}
use Rattle.report_lines.specs.HeaderLines.{ShownTaps}
use Rattle.command_runs.specs.declared.status.Status.{Status}
use Rattle.command_runs.specs.declared.status.Status.TheVariants.{Done, Memory, Usage}
use Rattle.command_runs.specs.Endings.{Flushed, whole, part}
use Rattle.sflow_tool.specs.MadeTrials.{HasMade, HaveArrived, Makes, made_received, lacks_memory, reported}
use Rattle.books_spec.specs.declared.limits.Limits.{Limits}
use Rattle.sample_taps.specs.declared.brief.Brief.{Brief}
use Rattle.sample_taps.specs.Feeding.{Held}
use Rattle.sflow_tool.specs.Replays.{briefs_in}
use Rattle.sflow_tool.specs.Surroundings.{Surroundings}
use Rattle.sflow_tool.proofs.LinkRuns.{flushed_done, flushed_usage}

pub makes_lacks : (text : ShownTaps → List ℕ) (before : Surroundings) → Makes text before before Memory
makes_lacks text before = lacks_memory refl refl refl

pub makes_usage : (text : ShownTaps → List ℕ) (before after : Surroundings) → Makes text before after Usage → ⊥
makes_usage text before after (lacks_memory is ends link) = cc
makes_usage text before after (reported source link flush) = flushed_usage before.ends.sink after.ends.sink _ flush

pub turns_made : (text : ShownTaps → List ℕ) (before after : Surroundings) (status : Status) → Makes text before after status
    → ¬ Rose before.ends.sink.faults after.ends.sink.faults → (status ≡ Done) ⊎ (status ≡ Memory)
turns_made text before after status (lacks_memory lacks ends link) no_write = inr lacks
turns_made text before after status (reported source link flush) no_write =
    flushed_done before.ends.sink after.ends.sink _ status flush no_write

pub completes_makes : (text : ShownTaps → List ℕ) (input : List ℕ) (before after : Surroundings) (status ending : Status)
    → Makes text before after status → AreBytes input → before.ends.source.told ≡ Some input → ending ≡ Done
    → ¬ Rose before.ends.source.faults after.ends.source.faults
    → ¬ Rose before.ends.sink.faults after.ends.sink.faults → ¬ Rose before.link.faults after.link.faults
    → (status ≡ ending) ⊎ (status ≡ Memory)
completes_makes text input before after status ending ran are told is no_read no_write no_link =
    subst (λ (s : Status). (status ≡ s) ⊎ (status ≡ Memory)) (sym is) (turns_made text before after status ran no_write)

-- what was written
pub made_done : (text : ShownTaps → List ℕ) (before after : Surroundings) (status : Status) → Makes text before after status
    → status ≡ Done → Takes before.ends.sink after.ends.sink (text after.taps)
made_done text before after status (lacks_memory lacks ends link) done = absurd (let bad : Memory ≡ Done = sym lacks ∙ done in cc)
made_done text before after status (reported source link flush) done = go flush
  where
    go : Flushed before.ends.sink after.ends.sink (text after.taps) Done status → Takes before.ends.sink after.ends.sink (text after.taps)
    go (whole is taken) = taken
    go (part is taken) = cc

-- nothing was made before memory was found to be lacking
pub none_made : (takes : List Received → Type 0) (seed packets : ℕ) → takes [] → HasMade takes seed packets Memory
none_made takes seed packets none = record {
  entries = [];
  were = none;
  arrived = ([], record { later = made_deliveries seed packets; is = append-nil (made_deliveries seed packets) }, refl);
}

-- what the consumers were fed
pub made_fed : (l : Limits) (briefs : List Brief) (seed packets : ℕ) (status : Status)
    → HasMade (λ entries. briefs ≡ briefs_in l entries) seed packets status → status ≡ Done
    → briefs ≡ briefs_in l (made_received seed packets)
made_fed l briefs seed packets status h done =
    h.were ∙ ap (briefs_in l) (subst (HaveArrived seed packets h.entries) done h.arrived)

pub made_held : {X : Type 0} (step : X → Brief → X → Type 0) (done : X → Bool) (l : Limits) (briefs bs : List Brief)
    (seed packets : ℕ) (status : Status) (xs ys : List X) → HasMade (λ entries. briefs ≡ briefs_in l entries) seed packets status
    → status ≡ Done → briefs_in l (made_received seed packets) ≡ bs → Held step done briefs xs ys → Held step done bs xs ys
made_held step done l briefs bs seed packets status xs ys h is same held =
    subst (λ (b : List Brief). Held step done b xs ys) (made_fed l briefs seed packets status h is ∙ same) held
