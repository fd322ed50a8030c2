-- Lists of skip numbers.
use Rattle.std.specs.Prelude.{ℕ, ◌≤◌, List, length}
use Rattle.std.specs.List.{AllByRecursion}
use Rattle.agent_sampler.specs.declared.skips.TheConstants.{MAX_SKIPS}

-- at least one number and not too many, and each at least 1
pub record AreSkips (skips : List ℕ) : Type 0 where
  pub some : 1 ≤ length skips
  pub few : length skips ≤ MAX_SKIPS
  pub least : AllByRecursion (λ (n : ℕ). 1 ≤ n) skips
