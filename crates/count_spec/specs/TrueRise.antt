-- What is asked of true values so that their rise can be told from what samples show of them: that they don't fall,
-- and that they rise by less than the modulus. Every list has the LATEST FIRST.
use Rattle.std.specs.Prelude.{ℕ, ◌+◌, ◌%◌, ◌≤◌, ◌<◌, ◌<ℤ◌, List, [], ◌∷◌}
use Rattle.count_spec.specs.Windows.{greatest, least}
use Rattle.count_spec.specs.Rise.{NumberedValue, numbers, value_at_greatest, value_at_least}

-- this stands between the value at each greatest number and at the next one, and between the value at each new least
-- number and at the least before
abbrev pub EachStep : (ℕ → ℕ → Type 0) → List NumberedValue → Type 0
EachStep R [] = Unit {0}
EachStep R (v ∷ []) = Unit {0}
EachStep R (v ∷ u ∷ before) =
    (greatest (numbers (u ∷ before)) <ℤ v.number → R (value_at_greatest (u ∷ before)) v.value)
    × (v.number <ℤ least (numbers (u ∷ before)) → R v.value (value_at_least (u ∷ before)))
    × EachStep R (u ∷ before)

-- true values don't fall
abbrev pub AreMonotone : List NumberedValue → Type 0
AreMonotone values = EachStep (λ from to. from ≤ to) values

-- true values rise by less than the modulus
abbrev pub RiseByLess : ℕ → List NumberedValue → Type 0
RiseByLess modulus values = EachStep (λ from to. to < from + modulus) values

-- what a sample shows of a true value
abbrev pub shown_by : ℕ → NumberedValue → NumberedValue
shown_by modulus v = record { number = v.number; value = v.value % modulus }
