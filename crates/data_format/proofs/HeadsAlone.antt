-- Where a sample is read, the members of its head alone are.
use Rattle.std.proofs.Common.{◌≡◌, ℕ, List, Result, Ok, Err, refl, sym, subst}
use Rattle.std.specs.Prelude.{IsOk}
use Rattle.wire_spec.specs.declared.pad.Pad.TheVariants as pads
use Rattle.wire_spec.specs.declared.fault.Fault.{Fault}
use Rattle.wire_spec.specs.Fails.{Remaining}
use Rattle.wire_spec.specs.Reading.{◌>>=◌, members_at}
use Rattle.wire_spec.specs.Shapes.{Shapes, Trees}
use Rattle.data_format.specs.Frames.{Test, frames_at}
use Rattle.data_format.specs.Parts.{Parts, frames_behind}
use Rattle.data_format.specs.SampleBodies.{HasHead}
use Rattle.data_format.specs.Samples.{SampleParts, sample_reading}
use Rattle.data_format.specs.Views.{FrameView}

module _ (ss : Shapes) (test : Test) (b : Remaining) where
  -- the sample, where its members were read so
  abbrev behind : Result (Trees × Remaining) Fault → Result SampleParts Fault
  behind r = (r >>= frames_behind pads.Any test) >>= λ x. Ok (x.0, x.1.bytes)

  -- these members aren't refused
  pub head_there : (e : Fault) → IsOk (sample_reading pads.Any ss test b) → members_at pads.Any ss b ≡ Err e → ⊥
  head_there e there same =
      let P : Result (Trees × Remaining) Fault → Type 0 = λ r. IsOk (behind r) in
      let no : P (Err e) = subst P same there in
      absurd cc

  -- and they are those of the sample
  abbrev HasParts : Result SampleParts Fault → Trees → Type 0
  HasParts r ts = (fs : List FrameView) × (tail : List ℕ) × (r ≡ Ok ((ts, fs), tail))

  with_frames : (h : Trees) (r : Result (List FrameView × Remaining) Fault)
      → IsOk ((r >>= λ fs. let o : Result (Parts × Remaining) Fault = Ok ((h, fs.0), fs.1) in o)
      >>= λ x. let o : Result SampleParts Fault = Ok (x.0, x.1.bytes) in o)
      → HasParts ((r >>= λ fs. let o : Result (Parts × Remaining) Fault = Ok ((h, fs.0), fs.1) in o)
      >>= λ x. let o : Result SampleParts Fault = Ok (x.0, x.1.bytes) in o) h
  with_frames h (Ok fs) there = (fs.0, fs.1.bytes, refl)
  with_frames h (Err f) there = absurd cc

  pub head_found : (x : Trees × Remaining) → IsOk (sample_reading pads.Any ss test b) → members_at pads.Any ss b ≡ Ok x
      → HasHead ss test b x.0
  head_found x there same =
      let P : Result (Trees × Remaining) Fault → Type 0 = λ r. IsOk (behind r) in
      let Q : Result (Trees × Remaining) Fault → Type 0 = λ r. HasParts (behind r) x.0 in
      subst Q (sym same) (with_frames x.0 (frames_at pads.Any test x.1) (subst P same there))
