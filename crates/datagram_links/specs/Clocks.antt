-- What a clock shows, and what a call makes of it.
use Rattle.std.specs.Prelude.{◌≡◌, ℕ, List, [], ◌∷◌, Option, Result, MatchResult}
use Rattle.std.specs.Option.{option_map}
use Rattle.byte_ends.specs.Seen.{next_count}

-- the values in ms that a clock gives one after the other, and then the last one over and over, None where it doesn't
-- tell them; and how many of its calls have failed, up to 2^64 - 1
pub record ClockSeen : Type 0 where
  pub told : Option (List ℕ)
  pub faults : ℕ

-- the value that comes next
abbrev pub value_of : List ℕ → ℕ
value_of [] = 0
value_of (value ∷ more) = value

-- the values that come then
abbrev pub values_after : List ℕ → List ℕ
values_after [] = []
values_after (value ∷ []) = value ∷ []
values_after (value ∷ (next ∷ more)) = next ∷ more

-- it gave one value
abbrev pub told_time : ClockSeen → ClockSeen
told_time seen = record seen { told = option_map values_after seen.told }

-- a call failed, and did nothing else
abbrev pub failed_clock : ClockSeen → ClockSeen
failed_clock seen = record seen { faults = next_count seen.faults }

-- one call: it gave its next value, or it failed
abbrev pub Tells : {T E : Type 0} → ClockSeen → ClockSeen → Result T E → Type 0
Tells old new result = MatchResult result (λ _. new ≡ told_time old) (λ _. new ≡ failed_clock old)
