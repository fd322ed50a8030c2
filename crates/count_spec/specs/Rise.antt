-- The rise of a 32-bit value, as the sample pool or the drops of a flow sample (sFlow Version 5, section 5),
-- over the First samples of one stretch of numbers. Every list has the LATEST FIRST.
use Rattle.std.specs.Prelude.{ℕ, ◌+◌, ◌-◌, ◌%◌, ◌≤◌, ◌<◌, ◌<ℤ◌, cond, List, [], ◌∷◌, map, ℤ, int_lt}
use Rattle.std.specs.Ordering.{int_eq}
use Rattle.count_spec.specs.Windows.{greatest, least, answer, counted}
use Rattle.count_spec.specs.declared.entered.Entered.{Entered}
use Rattle.count_spec.specs.declared.entered.Entered.TheVariants.{First, Repeat, Late}

-- a sample's counted number, and a value that the sample carries
pub record NumberedValue : Type 0 where
  pub number : ℤ
  pub value : ℕ

-- the numbers of these values
abbrev pub numbers : List NumberedValue → List ℤ
numbers values = map (λ (v : NumberedValue). v.number) values

-- the value at this number
abbrev pub value_at : List NumberedValue → ℤ → ℕ
value_at [] n = 0
value_at (v ∷ more) n = cond (int_eq v.number n) v.value (value_at more n)

-- the value at the greatest number
abbrev pub value_at_greatest : List NumberedValue → ℕ
value_at_greatest values = value_at values (greatest (numbers values))

-- the value at the least number
abbrev pub value_at_least : List NumberedValue → ℕ
value_at_least values = value_at values (least (numbers values))

-- (to - from) mod 2^32
abbrev pub rise_between : ℕ → ℕ → ℕ
rise_between from to = (to + (4294967296 - from % 4294967296)) % 4294967296

-- what a value adds to those before it: from the value at the greatest number to its own where it is a new
-- greatest, and from its own to the value at the least number where it is a new least
abbrev pub rise_step : List NumberedValue → NumberedValue → ℕ
rise_step before v =
    cond (int_lt (greatest (numbers before)) v.number) (rise_between (value_at_greatest before) v.value) 0
    + cond (int_lt v.number (least (numbers before))) (rise_between v.value (value_at_least before)) 0

-- the sum of these steps over the values after the first
abbrev pub rise : List NumberedValue → ℕ
rise [] = 0
rise (v ∷ []) = 0
rise (v ∷ u ∷ before) = rise (u ∷ before) + rise_step (u ∷ before) v

-- the values with one more, where this answer is First
abbrev pub with_value : Entered → ℕ → List NumberedValue → List NumberedValue
with_value (First place n) value before = record { number = n; value = value } ∷ before
with_value Repeat value before = before
with_value Late value before = before

-- the values of the First samples among these, by the mark and the value that each sample shows
abbrev pub first_values : {X : Type 0} → (X → ℕ) → (X → ℕ) → ℕ → List X → List NumberedValue
first_values mark value width [] = []
first_values mark value width (x ∷ before) =
    with_value (answer width (counted width (map mark before)) (mark x)) (value x)
    (first_values mark value width before)

-- the 32 bits that a sample shows of a true value
abbrev pub shown : NumberedValue → NumberedValue
shown v = record { number = v.number; value = v.value % 4294967296 }

-- the value doesn't fall, and rises by less than 2^32
abbrev pub RisesSlowly : ℕ → ℕ → Type 0
RisesSlowly from to = (from ≤ to) × (to < from + 4294967296)

-- true values rise slowly from each greatest number to the next, and from each new least to the least before
abbrev pub AreSlow : List NumberedValue → Type 0
AreSlow [] = Unit {0}
AreSlow (v ∷ []) = Unit {0}
AreSlow (v ∷ u ∷ before) =
    (greatest (numbers (u ∷ before)) <ℤ v.number → RisesSlowly (value_at_greatest (u ∷ before)) v.value)
    × (v.number <ℤ least (numbers (u ∷ before)) → RisesSlowly v.value (value_at_least (u ∷ before)))
    × AreSlow (u ∷ before)
