-- Which packets of a source are marked for a sample: as many as a skip number says are counted from one mark to the
-- next, the marked one among them (sFlow Version 5, packet flow sampling).
use Rattle.std.specs.Prelude.{◌≡◌, ℕ, zero, suc, ◌+◌, ◌%◌, ◌≤◌, ◌==◌, ◌||◌, Bool, false, List, length, get_or}

-- the skip number behind k others, taken cyclically
abbrev pub skip_number : List ℕ → ℕ → ℕ
skip_number skips k = get_or skips (k % length skips) 0

-- the sum of the first m skip numbers, taken cyclically
abbrev pub sum_of_skips : List ℕ → ℕ → ℕ
sum_of_skips skips zero = 0
sum_of_skips skips (suc m) = sum_of_skips skips m + skip_number skips m

-- the j-th packet, counted from 1, is marked: j is the sum of the first skip numbers, of at least one
pub record IsMarked (skips : List ℕ) (j : ℕ) : Type 0 where
  pub count : ℕ
  pub some : 1 ≤ count
  pub sum_is : sum_of_skips skips count ≡ j

-- whether j is the sum of the first skip numbers, of at least one and at most m
abbrev pub is_sum_within : List ℕ → ℕ → ℕ → Bool
is_sum_within skips j zero = false
is_sum_within skips j (suc m) = (sum_of_skips skips (suc m) == j) || is_sum_within skips j m

-- the test for it: a skip number is at least 1, so that no more than j of them make j
abbrev pub is_marked : List ℕ → ℕ → Bool
is_marked skips j = is_sum_within skips j j
