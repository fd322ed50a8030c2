-- The rise of a counter that goes on from its modulus less 1 to 0, over the numbers at which it was shown: the sum of
-- its steps, each less than the modulus. Counters of 32 bits have the modulus 2^32, those of 64 bits 2^64 (RFC 2863,
-- section 3.1.6). Every list has the LATEST FIRST.
use Rattle.std.specs.Prelude.{ℕ, ◌+◌, ◌-◌, ◌%◌, cond, List, [], ◌∷◌, int_lt}
use Rattle.count_spec.specs.Windows.{greatest, least}
use Rattle.count_spec.specs.Rise.{NumberedValue, numbers, value_at_greatest, value_at_least}

module _ (modulus : ℕ) where
  -- (to - from) mod the modulus
  abbrev pub step_between : ℕ → ℕ → ℕ
  step_between from to = (to + (modulus - from % modulus)) % modulus

  -- what a value adds to those before it: from the value at the greatest number to its own where it is a new
  -- greatest, and from its own to the value at the least number where it is a new least
  abbrev pub counter_step : List NumberedValue → NumberedValue → ℕ
  counter_step before v =
      cond (int_lt (greatest (numbers before)) v.number) (step_between (value_at_greatest before) v.value) 0
      + cond (int_lt v.number (least (numbers before))) (step_between v.value (value_at_least before)) 0

  -- the sum of these steps over the values after the first
  abbrev pub counter_rise : List NumberedValue → ℕ
  counter_rise [] = 0
  counter_rise (v ∷ []) = 0
  counter_rise (v ∷ u ∷ before) = counter_rise (u ∷ before) + counter_step (u ∷ before) v
