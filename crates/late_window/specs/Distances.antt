-- Tests of the distances below the newest number.
use Rattle.std.specs.Prelude.{ℕ, zero, suc, ◌+◌, Bool, cond, List, [], ◌∷◌}

-- at how many of 0, .., n - 1 the test is true
unfoldable pub count_below : (ℕ → Bool) → ℕ → ℕ
count_below test zero = 0
count_below test (suc n) = cond (test n) 1 0 + count_below test n

-- the test at 0, .., n - 1
unfoldable pub tabulated : (ℕ → Bool) → ℕ → List Bool
tabulated test zero = []
tabulated test (suc n) = test 0 ∷ tabulated (λ k. test (suc k)) n
