-- The fields of a sampler.
use Rattle.std.specs.Prelude.{◌≤◌, ◌<◌, length}
use Rattle.agent_sampler.specs.Skips.{AreSkips}
use Rattle.agent_sampler.specs.Sampling.{SamplerState}
use Rattle.agent_sampler.specs.declared.sampler.Sampler.TheInside.{Inside}

abbrev pub sampler_state : Inside → SamplerState
sampler_state s = record { skips = s.skips; begin = s.begin; marks = s.marks; place = s.place; left = s.left }

-- what each sampler keeps
pub record IsSampler (s : Inside) : Type 0 where
  pub skips_are : AreSkips s.skips
  pub place_in : s.place < length s.skips
  pub left_from : 1 ≤ s.left
