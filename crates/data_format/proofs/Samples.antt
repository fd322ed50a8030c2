-- What the reader of a sample's body answers, in the words of the grammar.
use Rattle.std.proofs.Common.{ℕ, Result, Ok, Err, ap, ◌∙◌}
use Rattle.std.specs.Prelude.{IfOk, IfErr}
use Rattle.wire_spec.specs.declared.pad.Pad.{Pad}
use Rattle.wire_spec.specs.declared.fault.Fault.{Fault}
use Rattle.wire_spec.specs.Bytes.{AreBytes}
use Rattle.wire_spec.specs.Shapes.{Shapes, Table, Tree, known, Trees}
use Rattle.wire_spec.specs.Fails.{Remaining, Fails}
use Rattle.wire_spec.specs.Reading.{◌>>=◌, reading}
use Rattle.wire_spec.specs.Whole.{SpellsFront}
use Rattle.xdr_words.specs.Readers.{Gives}
use Rattle.data_format.specs.Frames.{Test}
use Rattle.data_format.specs.Parts.{with_frames, parts_tree}
use Rattle.data_format.specs.Ranges.{StandIn, EndsWith}
use Rattle.data_format.specs.SampleBodies.{body_parts}
use Rattle.data_format.specs.Samples.{SampleView, SampleParts, sample_reading}
use Rattle.data_format.specs.Trees.{IsTestOf, AllPass}
use Rattle.data_format.proofs.Parts.{with_table, parts_inside, parts_spelled, parts_fault, parts_pass, body_stands}

-- of any kind: the head has these members, whose values are seen so
module _ {H : Type 0} (trees : H → Trees) (ss : Shapes) (p : Pad) (test : Test) (b : Remaining) where
  abbrev parts_of : SampleView H → SampleParts
  parts_of = body_parts trees

  pub sample_spelled : (r : Result (SampleView H) Fault) → AreBytes b.bytes
      → Gives parts_of (λ f. f) r (sample_reading p ss test b) → (T : Table) → IsTestOf p T test
      → IfOk r (λ s. SpellsFront p (with_frames ss T) b.bytes (parts_tree T (trees s.head, s.frames), s.tail))
  sample_spelled (Ok s) fits e T alike = parts_spelled p ss T test b (parts_of s) alike fits e
  sample_spelled (Err f) fits e T alike = tt

  pub sample_fault : (r : Result (SampleView H) Fault) → AreBytes b.bytes
      → Gives parts_of (λ f. f) r (sample_reading p ss test b) → (T : Table) → IsTestOf p T test
      → IfErr r (λ f. Fails p (with_frames ss T) b f)
  sample_fault (Ok s) fits e T alike = tt
  sample_fault (Err f) fits e T alike = parts_fault p ss T test b f alike fits e

  pub sample_passes : (r : Result (SampleView H) Fault) → Gives parts_of (λ f. f) r (sample_reading p ss test b)
      → (T : Table) → IsTestOf p T test → IfOk r (λ s. AllPass T s.frames)
  sample_passes (Ok s) e T alike = parts_pass p ss T test b (parts_of s) alike e
  sample_passes (Err f) e T alike = tt

  pub sample_ranges : (r : Result (SampleView H) Fault) → AreBytes b.bytes
      → Gives parts_of (λ f. f) r (sample_reading p ss test b) → IfOk r (λ s. StandIn b s.frames)
  sample_ranges (Ok s) fits e = (body_stands p ss test b (parts_of s) fits e).0
  sample_ranges (Err f) fits e = tt

  pub sample_tail : (r : Result (SampleView H) Fault) → AreBytes b.bytes
      → Gives parts_of (λ f. f) r (sample_reading p ss test b) → IfOk r (λ s. EndsWith b.bytes s.tail)
  sample_tail (Ok s) fits e = (body_stands p ss test b (parts_of s) fits e).1
  sample_tail (Err f) fits e = tt

  -- the value with its tail, as the inside of a frame of format k
  pub sample_value : (r : Result (SampleView H) Fault) → Gives parts_of (λ f. f) r (sample_reading p ss test b)
      → (T : Table) → IsTestOf p T test → (k : ℕ)
      → Gives (λ s. known k (parts_tree T (trees s.head, s.frames)) s.tail) (λ f. f) r
      (reading p (with_frames ss T) b >>= λ x. Ok (known k x.0 x.1.bytes))
  sample_value (Ok s) e T alike k =
      let step : Result SampleParts Fault → Result Tree Fault = λ q. q >>= λ x. Ok (known k (parts_tree T x.0) x.1) in
      parts_inside p ss T b k ∙ ap step (with_table p ss T test b (Ok (parts_of s)) alike e)
  sample_value (Err f) e T alike k =
      let step : Result SampleParts Fault → Result Tree Fault = λ q. q >>= λ x. Ok (known k (parts_tree T x.0) x.1) in
      parts_inside p ss T b k ∙ ap step (with_table p ss T test b (Err f) alike e)
