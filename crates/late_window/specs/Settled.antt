-- What a window's bits and its running figures have to do with each other.
use Rattle.std.specs.Prelude.{◌≡◌, ℕ, ◌<◌, not, min, Bool, true, false}
use Rattle.late_window.specs.Distances.{count_below}

-- of a window that counted some number: `held` tells of the distances below the newest number, of which those
-- from the width up don't matter
pub record IsSettled (held : ℕ → Bool) (width span pending : ℕ) : Type 0 where
  pub newest : held 0 ≡ true
  pub least : span < width → held span ≡ true
  pub beyond : (k : ℕ) → span < k → k < width → held k ≡ false
  pub missing : pending ≡ count_below (λ k. not (held k)) (min span width)

-- of a window that counted none
pub record IsEmpty (held : ℕ → Bool) (width span pending entered : ℕ) : Type 0 where
  pub no_span : span ≡ 0
  pub no_pending : pending ≡ 0
  pub no_entered : entered ≡ 0
  pub none : (k : ℕ) → k < width → held k ≡ false
