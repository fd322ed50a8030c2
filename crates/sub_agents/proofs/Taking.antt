-- What comes of a packet, by the verdict on it.
use Rattle.std.proofs.Common.{◌≡◌, Bool, true, false, refl, sym, ◌∙◌}
use Rattle.agent_sampler.specs.Sampling.{verdict_on}
use Rattle.agent_sampler.specs.declared.sampler.Verdict.{Verdict}
use Rattle.agent_sampler.specs.declared.sampler.Verdict.TheVariants.{Marked, Passed}

pub isnt-marked : (m : Bool) (v : Verdict) → v ≡ verdict_on m → v ≡ Passed → m ≡ false
isnt-marked true v e passed = let bad : Marked ≡ Passed = sym e ∙ passed in absurd cc
isnt-marked false v e passed = refl

pub is-marked : (m : Bool) (v : Verdict) → v ≡ verdict_on m → v ≡ Marked → m ≡ true
is-marked true v e marked = refl
is-marked false v e marked = let bad : Passed ≡ Marked = sym e ∙ marked in absurd cc
