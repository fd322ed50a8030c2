-- What the call that reads a record answers, in the words of the grammar; and records that were written are read again.
use Rattle.std.proofs.Common.{◌≡◌, ℕ, List, ◌++◌, Result, Ok, Err, refl, ap, subst, ◌∙◌}
use Rattle.std.specs.Prelude.{IfOk, IfErr}
use Rattle.wire_spec.specs.declared.pad.Pad.{Pad}
use Rattle.wire_spec.specs.declared.fault.Fault.{Fault}
use Rattle.wire_spec.specs.Bytes.{AreBytes}
use Rattle.wire_spec.specs.Shapes.{Shape, Tree}
use Rattle.wire_spec.specs.Spells.{Spells}
use Rattle.wire_spec.specs.Spelling.{spell, IsLawful}
use Rattle.wire_spec.specs.Fails.{Remaining, Fails, past}
use Rattle.wire_spec.specs.Reading.{◌>>=◌, reading}
use Rattle.wire_spec.specs.Whole.{SpellsFront}
use Rattle.wire_spec.proofs.Grammar.{agrees}
use Rattle.wire_spec.proofs.Runs.{first_step, same_value}
use Rattle.wire_spec.proofs.Spellings.{lawful_spelled}
use Rattle.wire_spec.proofs.Steps.{IsSo}
use Rattle.xdr_words.specs.Readers.{Gives}
use Rattle.data_format.specs.Ranges.{EndsWith}
use Rattle.data_format.specs.Records.{Content, record_reading, record_bytes, IsReadFrom}

abbrev with_tail : Tree × Remaining → Result Content Fault
with_tail x = Ok (x.0, x.1.bytes)

content_spelled : (p : Pad) (s : Shape) (b : Remaining) (x : Content) → AreBytes b.bytes → record_reading p s b ≡ Ok x
    → SpellsFront p s b.bytes x
content_spelled p s b x fits e =
    let one = first_step (reading p s b) with_tail x e in
    let y = one.0 in
    let P : Result (Tree × Remaining) Fault → Type 0 = IsSo b (Spells p s) (Fails p s) in
    let so : P (Ok (y.0, y.1)) = subst P one.1 ((agrees p s).so b fits) in
    let Q : Content → Type 0 = SpellsFront p s b.bytes in
    subst Q {x = (y.0, y.1.bytes)} (same_value (y.0, y.1.bytes) x one.2) (so.0, y.1.bytes, so.1, refl, so.2)

content_fails : (p : Pad) (s : Shape) (b : Remaining) (f : Fault) → AreBytes b.bytes → record_reading p s b ≡ Err f
    → Fails p s b f
content_fails p s b f fits e =
    let P : Result (Tree × Remaining) Fault → Type 0 = IsSo b (Spells p s) (Fails p s) in
    subst P (failed (reading p s b) e) ((agrees p s).so b fits)
  where
    failed : (r : Result (Tree × Remaining) Fault) → (r >>= with_tail) ≡ Err f → r ≡ Err f
    failed (Ok y) e = absurd cc
    failed (Err g) e = let same : g ≡ f = cc in rw same refl

-- where the call gives what reading gives
module _ {X : Type 0} (content : X → Content) (s : Shape) (p : Pad) (b : Remaining) (r : Result X Fault)
    (fits : AreBytes b.bytes) (exact : Gives content (λ f. f) r (record_reading p s b)) where
  pub record_spelled : IfOk r (λ x. SpellsFront p s b.bytes (content x))
  record_spelled = go r exact
    where
      go : (r : Result X Fault) → Gives content (λ f. f) r (record_reading p s b)
          → IfOk r (λ x. SpellsFront p s b.bytes (content x))
      go (Ok x) e = content_spelled p s b (content x) fits e
      go (Err f) e = tt

  pub record_fault : IfErr r (λ f. Fails p s b f)
  record_fault = go r exact
    where
      go : (r : Result X Fault) → Gives content (λ f. f) r (record_reading p s b) → IfErr r (λ f. Fails p s b f)
      go (Ok x) e = tt
      go (Err f) e = content_fails p s b f fits e

  -- the tail is the rest of the body
  pub record_tail : IfOk r (λ x. EndsWith b.bytes ((content x).1))
  record_tail = go r exact
    where
      go : (r : Result X Fault) → Gives content (λ f. f) r (record_reading p s b)
          → IfOk r (λ x. EndsWith b.bytes ((content x).1))
      go (Ok x) e =
          let (front, rest, spelled, same, parts) = content_spelled p s b (content x) fits e in
          (front, parts ∙ ap (λ (t : List ℕ). front ++ t) same)
      go (Err f) e = tt

-- what is lawful is read from its body again
pub record_again : (s : Shape) (x : Content) → IsLawful s x.0 → IsReadFrom s (record_bytes x) x
record_again s x lawful = λ p at.
    let b : Remaining = record { at = at; bytes = record_bytes x } in
    let read : reading p s b ≡ Ok (x.0, past b (spell x.0) x.1) =
    (agrees p s).takes b x.0 (spell x.0) x.1 (lawful_spelled p s x.0 lawful) refl in
    rw read refl
