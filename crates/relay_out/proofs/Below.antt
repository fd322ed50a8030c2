-- Numbers that may rise.
use Rattle.std.proofs.Common.{◌≡◌, ◌<◌, ◌-◌, ◌^◌, ℕ, zero, suc, true, List, [], ◌∷◌, arith}
use Rattle.std.specs.List.{list_all}
use Rattle.std.proofs.lemmas.Bool.{and_parts, ltb-true}
use Rattle.relay_out.specs.declared.progress.Progress.{Progress}
use Rattle.relay_out.specs.Relays.{progress_at, may_pass}

pub below : (ps : List Progress) → list_all may_pass ps ≡ true → (place : ℕ) → (progress_at ps place).passed < 2 ^ 64 - 1
below [] all place = omega arith
below (p ∷ ps) all zero = ltb-true _ _ (and_parts (may_pass p) (list_all may_pass ps) all).0
below (p ∷ ps) all (suc place) = below ps (and_parts (may_pass p) (list_all may_pass ps) all).1 place
