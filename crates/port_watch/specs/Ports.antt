use Rattle.std.specs.Prelude.{ℕ, Bool, false, List, [], ◌∷◌, Option, Some, None, codes, decimal, nat_lt}
use Rattle.std.specs.List.{concat}

-- a destination port is told, and above the threshold
abbrev pub is_above : ℕ → Option ℕ → Bool
is_above threshold None = false
is_above threshold (Some port) = nat_lt threshold port

abbrev pub watch_text : ℕ → ℕ → List ℕ
watch_text threshold count = concat (codes "tap above " ∷ decimal threshold ∷ codes " count " ∷ decimal count ∷ [])
