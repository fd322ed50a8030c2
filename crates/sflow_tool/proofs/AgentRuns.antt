-- Runs of `agent`.
use Rattle.std.proofs.Common.{◌≡◌, ◌∙◌, ℕ, Bool, false, inl, inr, List, [], ◌++◌, Option, Ok, Err, refl, sym, ap}
use Rattle.std.specs.Io.KnownBytes.{IsAtEnd}
use Rattle.byte_ends.specs.Seen.{Seen}
use Rattle.sflow_io.specs.declared.capture.ReadRefusal.{ReadRefusal}
use Rattle.sflow_io.specs.declared.capture.ReadRefusal.TheVariants as refusals
use Rattle.script_spec.specs.Lines.{Line}
use Rattle.command_runs.specs.declared.status.Status.{Status}
use Rattle.command_runs.specs.declared.status.Status.TheVariants.{Done, WriteFault, Memory}
use Rattle.command_runs.specs.Endings.{Flushed, refusal_status}
use Rattle.command_runs.specs.Grammars.{scripts}
use Rattle.command_runs.specs.Outside.{Outside}
use Rattle.command_runs.specs.Readings.{ReadsTo}
use Rattle.command_runs.specs.Runs.{Runs, lacked_later}
use Rattle.command_runs.specs.Walks.{Moved}
use Rattle.command_runs.proofs.Ends.{flushed_after, flushed_more}
use Rattle.command_runs.proofs.ReadRuns as runs
use Rattle.sflow_tool.specs.Agents.{agent_act, agent_part, opening}
use Rattle.sflow_tool.specs.AgentWalks.{HasLineCause, Lacking, NotWritten, StopsBehind, TookLines, TookScript}
use Rattle.sflow_tool.specs.declared.agent.AgentStop.TheVariants as stops
use Rattle.sflow_tool.proofs.AgentTexts.{part_whole}

-- a refusal of the reader says how reading ended
ends_so : (lines : List Line) (input : List ℕ) (left : Option (List ℕ)) (r : ReadRefusal)
    → StopsBehind lines input left r → ReadsTo scripts agent_act input left lines (refusal_status r)
ends_so lines input left refusals.ReadFault h = h
ends_so lines input left (refusals.BadInput at kind) h = h
ends_so lines input left refusals.Spent h = h

refusal_cause : (source source' : Seen) (r : ReadRefusal) → HasLineCause source source' (Err (stops.Read r))
    → runs.HasRefusalCause source source' r
refusal_cause source source' r cause = record {
  failed = λ e. cause.failed (ap (λ (q : ReadRefusal). Err (stops.Read q)) e);
  kept = λ other. cause.kept (λ e. other cc);
}

module _ (source source' sink sink' sink'' : Seen) (page held : List ℕ) (empty : page ≡ []) where
  abbrev before : Outside
  before = record { source = source; sink = sink }

  abbrev after : Outside
  after = record { source = source'; sink = sink'' }

  abbrev moved : Moved
  moved = record { sink = sink; sink' = sink'; page = page; page' = held }

  -- a write failed at a line
  pub write_failed : NotWritten source moved → HasLineCause source source' (Err stops.Write)
      → Runs scripts agent_act before (record { source = source'; sink = sink' }) WriteFault
  write_failed seen cause =
      runs.write_failed scripts agent_act before (record { source = source'; sink = sink' }) seen.lines _
      (λ input are told. seen.begins input told)
      (λ input are told. ap (λ l. l ++ agent_part seen.lines) empty) (cause.kept (λ e. cc)) seen.put

  -- reading was refused, or a line breaks a rule
  pub refused : (refusal : ReadRefusal) (status result : Status) → status ≡ refusal_status refusal
      → TookLines source source' moved refusal → HasLineCause source source' (Err (stops.Read refusal))
      → Flushed sink' sink'' held status result → Runs scripts agent_act before after result
  refused refusal status result named seen cause flush =
      runs.refused scripts agent_act before after seen.lines _ refusal result
      (λ input are told. ends_so seen.lines input source'.told refusal (seen.ends input told))
      (λ input are told. ap (λ l. l ++ agent_part seen.lines) empty)
      (refusal_cause source source' refusal cause)
      (flushed_after sink sink' sink'' page held _ status (refusal_status refusal) result seen.put named flush)
      (λ late. absurd cc)

  -- all lines were taken
  pub finished : (opened : Bool) (result : Status) → TookScript source moved opened → IsAtEnd source'.told
      → HasLineCause source source' (Ok opened) → Flushed sink' sink'' (held ++ opening opened) Done result
      → Runs scripts agent_act before after result
  finished opened result seen at_end cause flush =
      runs.finished scripts agent_act before after seen.lines _ (λ input are told. seen.all input told)
      (λ input are told. ap (λ l. l ++ (agent_part seen.lines ++ opening opened)) empty
      ∙ ap (λ (o : Bool). agent_part seen.lines ++ opening o) seen.opened_is ∙ part_whole seen.lines)
      (λ found. absurd cc) at_end (cause.kept (λ e. cc)) false result refl
      (flushed_more sink sink' sink'' page held _ Done Done result seen.put refl _ flush)

  -- memory was lacking at a line
  pub lacking : Lacking source moved → HasLineCause source source' (Err stops.Memory)
      → Runs scripts agent_act before (record { source = source'; sink = sink' }) Memory
  lacking seen cause = record {
    may = tt;
    ends = λ input are told.
        lacked_later seen.lines (seen.begins input told) seen.put.gone held
        (ap (λ l. l ++ agent_part seen.lines) (sym empty) ∙ seen.put.whole) seen.put.taken;
    at_end = λ e. elim e [ inl e ↦ absurd cc | inr e ↦ absurd cc ];
    quiet = λ late not_done not_found not_failed. absurd cc;
    early = λ first e. absurd cc;
    read_fault = λ e. absurd cc;
    read_kept = λ other late. cause.kept (λ e. cc);
    write_fault = λ e. absurd cc;
    write_kept = λ e. seen.put.taken.kept;
    reads_once = inl (cause.kept (λ e. cc));
  }
