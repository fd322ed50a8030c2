-- Frames whose test is a table's, in the words of the grammar.
use Rattle.std.proofs.Common.{◌≡◌, List, Result, Ok, Err, refl, subst}
use Rattle.std.specs.Prelude.{IfOk, IfErr}
use Rattle.wire_spec.specs.declared.pad.Pad.{Pad}
use Rattle.wire_spec.specs.declared.fault.Fault.{Fault}
use Rattle.wire_spec.specs.Bytes.{AreBytes}
use Rattle.wire_spec.specs.Fails.{Remaining, Fails}
use Rattle.wire_spec.specs.Reading.{reading}
use Rattle.wire_spec.specs.Shapes.{array, frame, Table, Tree}
use Rattle.wire_spec.specs.Spells.{Spells}
use Rattle.wire_spec.proofs.Grammar.{agrees}
use Rattle.xdr_words.specs.Readers.{Reader, Reads, Passes, remaining}
use Rattle.xdr_words.proofs.Said.{says_value, says_fault}
use Rattle.data_format.specs.Views.{FrameView}
use Rattle.data_format.specs.Frames.{Test, frames_at}
use Rattle.data_format.specs.Trees.{table_test, IsTestOf, frame_trees, AllPass}
use Rattle.data_format.proofs.Tables.{frames_as_array, frames_pass}

-- a test that answers as the table's does is the table's
pub same_test : (p : Pad) (T : Table) (test : Test) → IsTestOf p T test → test ≡ table_test p T
same_test p T test alike = λ i f. alike f i

-- what is read with a table's test
pub with_table : (p : Pad) (T : Table) (test : Test) (b : Remaining) (r : Result (List FrameView × Remaining) Fault)
    → IsTestOf p T test → frames_at p test b ≡ r → frames_at p (table_test p T) b ≡ r
with_table p T test b r alike e =
    let P : Test → Type 0 = λ t. frames_at p t b ≡ r in subst P (same_test p T test alike) e

module _ (p : Pad) (T : Table) (test : Test) (alike : IsTestOf p T test) (old new : Reader) where
  as_array : (r : Result (List FrameView) Fault)
      → Reads (λ fs. fs) (λ f. f) old new r (frames_at p test (remaining old))
      → Reads (λ fs. Tree.array (frame_trees T fs)) (λ f. f) old new r (reading p (array (frame T)) (remaining old))
  as_array (Ok fs) h =
      let b = remaining old in
      let read = with_table p T test b (Ok (fs, remaining new)) alike h.0 in
      (rw (frames_as_array p T b, read) refl, h.1)
  as_array (Err f) h =
      let b = remaining old in
      let read = with_table p T test b (Err f) alike h.0 in
      (rw (frames_as_array p T b, read) refl, h.1)

  pub array_spelled : (r : Result (List FrameView) Fault) → AreBytes old.bytes
      → Reads (λ fs. fs) (λ f. f) old new r (frames_at p test (remaining old))
      → IfOk r (λ fs. Passes (Spells p (array (frame T)) (Tree.array (frame_trees T fs))) old new)
  array_spelled r fits h =
      says_value (λ fs. Tree.array (frame_trees T fs)) (λ f. f) (Spells p (array (frame T))) (Fails p (array (frame T)))
      (reading p (array (frame T))) (agrees p (array (frame T))) old new r fits (as_array r h)

  pub array_fault : (r : Result (List FrameView) Fault) → AreBytes old.bytes
      → Reads (λ fs. fs) (λ f. f) old new r (frames_at p test (remaining old))
      → IfErr r (λ f. Fails p (array (frame T)) (remaining old) f)
  array_fault r fits h =
      says_fault (λ fs. Tree.array (frame_trees T fs)) (λ f. f) (Spells p (array (frame T))) (Fails p (array (frame T)))
      (reading p (array (frame T))) (agrees p (array (frame T))) old new r fits (as_array r h)

  pub array_passes : (r : Result (List FrameView) Fault)
      → Reads (λ fs. fs) (λ f. f) old new r (frames_at p test (remaining old)) → IfOk r (λ fs. AllPass T fs)
  array_passes (Ok fs) h =
      let b = remaining old in
      frames_pass p T b (fs, remaining new) (with_table p T test b (Ok (fs, remaining new)) alike h.0)
  array_passes (Err f) h = tt
