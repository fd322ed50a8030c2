-- Lists of samples, from a place on.
use Rattle.std.proofs.Common.{◌≡◌, ◌∙◌, ◌<◌, ◌≤◌, ◌+◌, ℕ, zero, suc, List, [], ◌∷◌, length, map, drop, get_or, refl, ap, arith}
use Rattle.books_spec.specs.Items.{SourceId}
use Rattle.agent_spec.specs.Samples.{Sample}
use Rattle.trial_premises.specs.declared.delivered.TrueSample.{TrueSample}
use Rattle.trial_premises.specs.Delivered.{IsSample, AreSamples}

pub ids-same : (ids : List SourceId) → map (λ (id : SourceId). id) ids ≡ ids
ids-same [] = refl
ids-same (id ∷ more) = ap (λ (rest : List SourceId). id ∷ rest) (ids-same more)

pub drop-past : {X : Type 0} (xs : List X) (n : ℕ) → length xs ≤ n → drop n xs ≡ []
drop-past [] zero h = refl
drop-past [] (suc n) h = refl
drop-past (x ∷ more) zero h = absurd (omega arith)
drop-past (x ∷ more) (suc n) h = drop-past more n (omega arith)

pub samples-length : (ids : List SourceId) (ts : List TrueSample) (ss : List Sample) → AreSamples ids ts ss
    → length ss ≡ length ts
samples-length ids [] [] h = refl
samples-length ids [] (s ∷ more) h = absurd h
samples-length ids (t ∷ rest) [] h = absurd h
samples-length ids (t ∷ rest) (s ∷ more) h =
    let e : length more ≡ length rest = samples-length ids rest more h.1 in omega (arith, e)

-- the sample at a place
pub record SampleAt (ids : List SourceId) (t : TrueSample) (ss : List Sample) (i : ℕ) : Type 0 where
  pub sample : Sample
  pub from : drop i ss ≡ sample ∷ drop (i + 1) ss
  pub is : IsSample ids t sample

pub sample-at : (ids : List SourceId) (ts : List TrueSample) (ss : List Sample) (i : ℕ) (d : TrueSample) → AreSamples ids ts ss
    → i < length ts → SampleAt ids (get_or ts i d) ss i
sample-at ids [] ss i d h within = absurd (omega arith)
sample-at ids (t ∷ ts) [] i d h within = absurd h
sample-at ids (t ∷ ts) (s ∷ ss) zero d h within = record { sample = s; from = refl; is = h.0 }
sample-at ids (t ∷ ts) (s ∷ ss) (suc i) d h within =
    let later : SampleAt ids (get_or ts i d) ss i = sample-at ids ts ss i d h.1 (omega arith) in
    let next : suc (i + 1) ≡ suc i + 1 = omega arith in
    record {
      sample = later.sample;
      from = later.from ∙ ap (λ (n : ℕ). later.sample ∷ drop n (s ∷ ss)) next;
      is = later.is;
    }
