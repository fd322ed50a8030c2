-- The first answer, from the reading of the header.
use Rattle.std.proofs.Common.{◌≡◌, ℕ, List, ◌++◌, take, drop, Option, Err, refl, sym, ap, subst, ◌∙◌, arith, take_at, drop_at}
use Rattle.wire_spec.specs.Captures.{capture_header}
use Rattle.capture_spec.specs.declared.capture_version.CaptureVersion.{CaptureVersion}
use Rattle.capture_spec.specs.declared.capture_version.CaptureVersion.TheVariants.{One, Two}
use Rattle.capture_spec.specs.VersionedCaptures.{version_number}
use Rattle.capture_spec.proofs.VersionedWalks.{header_length}
use Rattle.sflow_io.specs.declared.capture.ReadRefusal.{ReadRefusal}
use Rattle.sflow_io.specs.declared.capture.ReadRefusal.TheVariants.{ReadFault, BadInput, Spent}
use Rattle.sflow_io.specs.declared.capture.Stage.TheVariants.{Start}
use Rattle.sflow_io.specs.CaptureAnswers.{Answer, AnswersBehind, AnswersStart, AnswersWithin, ReadsHeader, behind_header, stage_after}

apart : capture_header 1 ≡ capture_header 2 → ⊥
apart e = absurd cc

-- bytes have one version, and one rest behind its header
record SameHeader (v w : CaptureVersion) (rest more : List ℕ) : Type 0 where
  version : v ≡ w
  rest_is : rest ≡ more

header_front : (v : CaptureVersion) (bytes rest : List ℕ) → bytes ≡ capture_header (version_number v) ++ rest
    → take 8 bytes ≡ capture_header (version_number v)
header_front v bytes rest e = ap (take 8) e ∙ take_at (capture_header (version_number v)) rest 8 (header_length v)

header_rest : (v : CaptureVersion) (bytes rest : List ℕ) → bytes ≡ capture_header (version_number v) ++ rest
    → drop 8 bytes ≡ rest
header_rest v bytes rest e = ap (drop 8) e ∙ drop_at (capture_header (version_number v)) rest 8 (header_length v)

one_version : (v w : CaptureVersion) (front : List ℕ) → front ≡ capture_header (version_number v)
    → front ≡ capture_header (version_number w) → v ≡ w
one_version One One front e f = refl
one_version Two Two front e f = refl
one_version One Two front e f = absurd (apart (sym e ∙ f))
one_version Two One front e f = absurd (apart (sym f ∙ e))

one_header : (v w : CaptureVersion) (bytes rest more : List ℕ) → bytes ≡ capture_header (version_number v) ++ rest
    → bytes ≡ capture_header (version_number w) ++ more → SameHeader v w rest more
one_header v w bytes rest more e f = record {
  version = one_version v w (take 8 bytes) (header_front v bytes rest e) (header_front w bytes more f);
  rest_is = sym (header_rest v bytes rest e) ∙ header_rest w bytes more f;
}

pub starts_with_entry : (v : CaptureVersion) (bytes rest room : List ℕ) (left : Option (List ℕ)) (answer : Answer)
    → bytes ≡ capture_header (version_number v) ++ rest → AnswersWithin v 0 8 rest room left answer
    → AnswersStart bytes room left (stage_after (behind_header v) answer) answer
starts_with_entry v bytes rest room left answer header h = record {
  goes_on = λ w more has.
      let same = one_header v w bytes rest more header has in
      subst (λ l. AnswersBehind w l room left (stage_after (behind_header v) answer) answer) same.rest_is
      (subst (λ (x : CaptureVersion). AnswersBehind x rest room left (stage_after (behind_header v) answer) answer)
      same.version (record { front = h.goes_on (omega arith); stage_is = λ other. refl }));
  refuses = λ none. absurd (none v (rest, header));
}

pub starts_with_refusal : (bytes room : List ℕ) (mid left : Option (List ℕ)) (e : ReadRefusal)
    → ReadsHeader bytes mid (Err e) → AnswersStart bytes room left (stage_after Start (Err e)) (Err e)
starts_with_refusal bytes room mid left (BadInput at kind) h =
    record { goes_on = λ v rest has. absurd (h.0 v (rest, has)); refuses = λ none. (h.1, refl) }
starts_with_refusal bytes room mid left ReadFault h = record {
  goes_on = λ v rest has. record { front = tt; stage_is = λ other. absurd (other refl) };
  refuses = λ none. (tt, refl);
}
starts_with_refusal bytes room mid left Spent h = absurd h
