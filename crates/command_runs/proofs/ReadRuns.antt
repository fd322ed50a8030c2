-- Runs of a command whose reading has ended.
use Rattle.std.proofs.Common.{◌≡◌, ◌≢◌, ◌⊎◌, ℕ, Bool, true, false, inl, inr, if◌then◌else◌, List, Some, refl, sym, subst, ◌∙◌}
use Rattle.std.specs.Io.KnownBytes.{IsAtEnd}
use Rattle.wire_spec.specs.Bytes.{AreBytes}
use Rattle.sflow_io.specs.declared.capture.ReadRefusal.{ReadRefusal}
use Rattle.sflow_io.specs.declared.capture.ReadRefusal.TheVariants as refusals
use Rattle.byte_ends.specs.Seen.{Seen, Takes, TakesPart, next_count}
use Rattle.command_runs.specs.declared.status.Status.{Status}
use Rattle.command_runs.specs.declared.status.Status.TheVariants.{Done, Found, Usage, ReadFault, WriteFault, BadInput, Memory, LinkFault, Spent}
use Rattle.command_runs.specs.Acts.{Act}
use Rattle.command_runs.specs.Endings.{Flushed, whole, part, refusal_status}
use Rattle.command_runs.specs.Grammars.{Grammar}
use Rattle.command_runs.specs.Outside.{Outside}
use Rattle.command_runs.specs.Readings.{ReadsTo, text_at}
use Rattle.command_runs.specs.Runs.{Ends, MayEnd, Runs, Wrote, behind, midway}

-- ---- the statuses that say how reading ended

abbrev pub EndsReading : Status → Type 0
EndsReading Done = Unit {0}
EndsReading Found = Unit {0}
EndsReading ReadFault = Unit {0}
EndsReading (BadInput at kind) = Unit {0}
EndsReading Spent = Unit {0}
EndsReading _ = ⊥

no_write : (status : Status) → EndsReading status → status ≡ WriteFault → ⊥
no_write status ends e = subst EndsReading e ends

no_memory : (status : Status) → EndsReading status → status ≡ Memory → ⊥
no_memory status ends e = subst EndsReading e ends

may_end : {X : Type 0} (a : Act X) (status : Status) → EndsReading status → (status ≡ Found → a.may_find ≡ true)
    → MayEnd a status
may_end a Done ends may = tt
may_end a Found ends may = may refl
may_end a Usage ends may = ends
may_end a ReadFault ends may = tt
may_end a WriteFault ends may = tt
may_end a (BadInput at kind) ends may = tt
may_end a Memory ends may = tt
may_end a LinkFault ends may = ends
may_end a Spent ends may = tt

wrote_ends : {X : Type 0} (g : Grammar X) (a : Act X) (input : List ℕ) (before after : Outside) (status : Status)
    → EndsReading status → Wrote g a input before after status → Ends g a input before after status
wrote_ends g a input before after Done ends wrote = wrote
wrote_ends g a input before after Found ends wrote = wrote
wrote_ends g a input before after Usage ends wrote = wrote
wrote_ends g a input before after ReadFault ends wrote = wrote
wrote_ends g a input before after WriteFault ends wrote = absurd ends
wrote_ends g a input before after (BadInput at kind) ends wrote = wrote
wrote_ends g a input before after Memory ends wrote = absurd ends
wrote_ends g a input before after LinkFault ends wrote = wrote
wrote_ends g a input before after Spent ends wrote = wrote

-- ---- a run whose reading has ended behind this

-- what is known then, before what is left to write is written
pub record Read {X : Type 0} (g : Grammar X) (a : Act X) (before after : Outside) (x : X) (status : Status) : Type 0 where
  pub ends : EndsReading status
  pub may : status ≡ Found → a.may_find ≡ true
  pub reads : (input : List ℕ) → AreBytes input → before.source.told ≡ Some input
      → ReadsTo g a input after.source.told x status
  pub at_end : (status ≡ Done) ⊎ (status ≡ Found) → IsAtEnd after.source.told
  pub failed : status ≡ ReadFault → after.source.faults ≡ next_count before.source.faults
  pub kept : status ≢ ReadFault → after.source.faults ≡ before.source.faults
  pub once : (after.source.faults ≡ before.source.faults) ⊎ (after.source.faults ≡ next_count before.source.faults)

-- a command that writes at the end has written nothing where reading ended early
abbrev IsQuiet : {X : Type 0} → Act X → Outside → Outside → Status → Status → Type 0
IsQuiet a before after status result = a.at_end ≡ true → status ≢ Done → status ≢ Found
    → (result ≡ status) × (after.sink.told ≡ before.sink.told)

module _ {X : Type 0} (g : Grammar X) (a : Act X) (before after : Outside) (x : X) (status : Status)
    (read : Read g a before after x status) (text : List ℕ)
    (same : (input : List ℕ) → AreBytes input → before.source.told ≡ Some input → text ≡ text_at a x status) where
  written : Takes before.sink after.sink text → IsQuiet a before after status status
      → Runs g a before after status
  written taken quiet = record {
    may = may_end a status read.ends read.may;
    ends = λ input are told.
        wrote_ends g a input before after status read.ends
        (record {
          read = x;
          reads = read.reads input are told;
          taken = subst (Takes before.sink after.sink) (same input are told) taken;
        });
    at_end = read.at_end;
    quiet = λ late not_done not_found not_failed. (quiet late not_done not_found).1;
    early = λ first e. absurd (no_memory status read.ends e);
    read_fault = read.failed;
    read_kept = λ other late. read.kept other;
    write_fault = λ e. absurd (no_write status read.ends e);
    write_kept = λ e. taken.kept;
    reads_once = read.once;
  }

  not_written : TakesPart before.sink after.sink text
      → IsQuiet a before after status WriteFault → Runs g a before after WriteFault
  not_written taken quiet = record {
    may = tt;
    ends = λ input are told.
        behind x status (read.reads input are told) (subst (TakesPart before.sink after.sink) (same input are told) taken);
    at_end = λ e. elim e [ inl e ↦ absurd cc | inr e ↦ absurd cc ];
    quiet = λ late not_done not_found not_failed. absurd (not_failed refl);
    early = λ first e. absurd cc;
    read_fault = λ e. absurd cc;
    read_kept = λ other late. read.kept (λ e.
        let done : status ≢ Done = λ d. (let both : ReadFault ≡ Done = sym e ∙ d in cc) in
        let found : status ≢ Found = λ d. (let both : ReadFault ≡ Found = sym e ∙ d in cc) in
        let same : WriteFault ≡ ReadFault = (quiet (late refl) done found).0 ∙ e in
        cc);
    write_fault = λ e. taken.failed;
    write_kept = λ e. absurd (e refl);
    reads_once = read.once;
  }

  flushed : (result : Status) → Flushed before.sink after.sink text status result
      → IsQuiet a before after status result → Runs g a before after result
  flushed result (whole is taken) quiet =
      subst (Runs g a before after) (sym is) (written taken (λ late not_done not_found. (refl, (quiet late not_done not_found).1)))
  flushed result (part is taken) quiet =
      subst
      (Runs g a before after)
      (sym is)
      (not_written taken (λ late not_done not_found.
      (sym is ∙ (quiet late not_done not_found).0, (quiet late not_done not_found).1)))

-- at a read fault one call of the source failed, and at another refusal none
pub record HasRefusalCause (source source' : Seen) (refusal : ReadRefusal) : Type 0 where
  pub failed : refusal ≡ refusals.ReadFault → source'.faults ≡ next_count source.faults
  pub kept : refusal ≢ refusals.ReadFault → source'.faults ≡ source.faults

module _ {X : Type 0} (g : Grammar X) (a : Act X) (before after : Outside) (x : X) (text : List ℕ) where
  -- where the source told an input, the text is this
  abbrev IsText : List ℕ → Type 0
  IsText other = (input : List ℕ) → AreBytes input → before.source.told ≡ Some input → text ≡ other

  -- ---- a write failed while this was read

  pub write_failed : ((input : List ℕ) → AreBytes input → before.source.told ≡ Some input → g.begins x input)
      → IsText (a.part x) → after.source.faults ≡ before.source.faults → TakesPart before.sink after.sink text
      → Runs g a before after WriteFault
  write_failed begins same kept taken = record {
    may = tt;
    ends = λ input are told.
        midway x (begins input are told) kept (subst (TakesPart before.sink after.sink) (same input are told) taken);
    at_end = λ e. elim e [ inl e ↦ absurd cc | inr e ↦ absurd cc ];
    quiet = λ late not_done not_found not_failed. absurd (not_failed refl);
    early = λ first e. absurd cc;
    read_fault = λ e. absurd cc;
    read_kept = λ other late. kept;
    write_fault = λ e. taken.failed;
    write_kept = λ e. absurd (e refl);
    reads_once = inl kept;
  }

  -- ---- reading was refused behind this

  part_at : (r : ReadRefusal) → text_at a x (refusal_status r) ≡ a.part x
  part_at refusals.ReadFault = refl
  part_at (refusals.BadInput at kind) = refl
  part_at refusals.Spent = refl

  refusal_read : (r : ReadRefusal)
      → ((input : List ℕ) → AreBytes input → before.source.told ≡ Some input
      → ReadsTo g a input after.source.told x (refusal_status r))
      → HasRefusalCause before.source after.source r → Read g a before after x (refusal_status r)
  refusal_read refusals.ReadFault reads cause = record {
    ends = tt;
    may = λ e. absurd cc;
    reads = reads;
    at_end = λ e. elim e [ inl e ↦ absurd cc | inr e ↦ absurd cc ];
    failed = λ e. cause.failed refl;
    kept = λ e. absurd (e refl);
    once = inr (cause.failed refl);
  }
  refusal_read (refusals.BadInput at kind) reads cause = record {
    ends = tt;
    may = λ e. absurd cc;
    reads = reads;
    at_end = λ e. elim e [ inl e ↦ absurd cc | inr e ↦ absurd cc ];
    failed = λ e. absurd cc;
    kept = λ e. cause.kept (λ e. cc);
    once = inl (cause.kept (λ e. cc));
  }
  refusal_read refusals.Spent reads cause = record {
    ends = tt;
    may = λ e. absurd cc;
    reads = reads;
    at_end = λ e. elim e [ inl e ↦ absurd cc | inr e ↦ absurd cc ];
    failed = λ e. absurd cc;
    kept = λ e. cause.kept (λ e. cc);
    once = inl (cause.kept (λ e. cc));
  }

  pub refused : (r : ReadRefusal) (result : Status)
      → ((input : List ℕ) → AreBytes input → before.source.told ≡ Some input
      → ReadsTo g a input after.source.told x (refusal_status r))
      → IsText (a.part x) → HasRefusalCause before.source after.source r
      → Flushed before.sink after.sink text (refusal_status r) result
      → (a.at_end ≡ true → (result ≡ refusal_status r) × (after.sink.told ≡ before.sink.told))
      → Runs g a before after result
  refused r result reads same cause flush waits =
      flushed g a before after x (refusal_status r) (refusal_read r reads cause) text
      (λ input are told. same input are told ∙ sym (part_at r)) result flush
      (λ late not_done not_found. waits late)

  -- ---- all of the input was read

  abbrev named : Bool → Status
  named found = if found then Found else Done

  module _ (all : (input : List ℕ) → AreBytes input → before.source.told ≡ Some input → g.all x input)
      (same : IsText (a.whole x))
      (may : a.finds x ≡ true → a.may_find ≡ true) (at_end : IsAtEnd after.source.told)
      (kept : after.source.faults ≡ before.source.faults) where
    all_read : (found : Bool) → a.finds x ≡ found → Read g a before after x (named found)
    all_read true is = record {
      ends = tt;
      may = λ e. may is;
      reads = λ input are told. record { all = all input are told; found_is = is };
      at_end = λ e. at_end;
      failed = λ e. absurd cc;
      kept = λ e. kept;
      once = inl kept;
    }
    all_read false is = record {
      ends = tt;
      may = λ e. absurd cc;
      reads = λ input are told. record { all = all input are told; found_is = is };
      at_end = λ e. at_end;
      failed = λ e. absurd cc;
      kept = λ e. kept;
      once = inl kept;
    }

    whole_at : (found : Bool) → text_at a x (named found) ≡ a.whole x
    whole_at true = refl
    whole_at false = refl

    quiet_so : (found : Bool) (result : Status) → IsQuiet a before after (named found) result
    quiet_so true result late not_done not_found = absurd (not_found refl)
    quiet_so false result late not_done not_found = absurd (not_done refl)

    pub finished : (found : Bool) (result : Status) → a.finds x ≡ found
        → Flushed before.sink after.sink text (named found) result → Runs g a before after result
    finished found result is flush =
        flushed g a before after x (named found) (all_read found is) text
        (λ input are told. same input are told ∙ sym (whole_at found)) result flush (quiet_so found result)
