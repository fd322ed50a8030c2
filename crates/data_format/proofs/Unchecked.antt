-- A body whose records pass a test is read the same without it.
use Rattle.std.proofs.Common.{◌≡◌, Result, Ok, Err, refl, sym, subst, ◌∙◌}
use Rattle.std.specs.Prelude.{IsOk}
use Rattle.wire_spec.specs.declared.pad.Pad.TheVariants as pads
use Rattle.wire_spec.specs.declared.fault.Fault.{Fault}
use Rattle.wire_spec.specs.Fails.{Remaining}
use Rattle.wire_spec.specs.Reading.{word_at, members_at}
use Rattle.wire_spec.specs.Shapes.{Shapes}
use Rattle.wire_spec.proofs.FreePadding.{Keeps, itself, in_turn}
use Rattle.wire_spec.proofs.Runs.{all_kept}
use Rattle.data_format.specs.Frames.{Test, checked_at, frame_at, frames_at}
use Rattle.data_format.specs.Parts.{parts_at}
use Rattle.data_format.specs.Samples.{SampleParts, sample_reading}
use Rattle.data_format.proofs.Again.{frame_again}

-- no fault in any body
abbrev pub no_test : Test
no_test = λ _. Ok tt

frames_kept : (test : Test) (b : Remaining) → Keeps (frames_at pads.Any test b) (frames_at pads.Any no_test b)
frames_kept test b = in_turn (word_at b) (word_at b) _ _ (itself _)
    (λ n. all_kept (checked_at pads.Any test) frame_at (frame_again pads.Any test) n.0 n.1)

parts_kept : (ss : Shapes) (test : Test) (b : Remaining) → Keeps (parts_at pads.Any ss test b) (parts_at pads.Any ss no_test b)
parts_kept ss test b = in_turn (members_at pads.Any ss b) (members_at pads.Any ss b) _ _ (itself _)
    (λ h. in_turn (frames_at pads.Any test h.1) (frames_at pads.Any no_test h.1) _ _ (frames_kept test h.1) (λ fs. itself _))

the_same : {A : Type 0} (r q : Result A Fault) → Keeps r q → IsOk r → q ≡ r
the_same (Ok x) q keeps h = keeps x refl
the_same (Err f) q keeps h = absurd cc

pub without_test : (ss : Shapes) (test : Test) (b : Remaining) → IsOk (sample_reading pads.Any ss test b)
    → sample_reading pads.Any ss no_test b ≡ sample_reading pads.Any ss test b
without_test ss test b h = the_same (sample_reading pads.Any ss test b) (sample_reading pads.Any ss no_test b)
    (in_turn (parts_at pads.Any ss test b) (parts_at pads.Any ss no_test b) _ _ (parts_kept ss test b) (λ x. itself _)) h

-- so it isn't refused then
pub not_refused : (ss : Shapes) (test : Test) (b : Remaining) → IsOk (sample_reading pads.Any ss test b) → (e : Fault)
    → sample_reading pads.Any ss no_test b ≡ Err e → ⊥
not_refused ss test b there e refused =
    let P : Result SampleParts Fault → Type 0 = IsOk in
    let no : P (Err e) = subst P (sym (without_test ss test b there) ∙ refused) there in
    absurd cc
