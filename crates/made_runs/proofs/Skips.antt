-- The skip numbers of a run are at least 1 each.
use Rattle.std.proofs.Common.{◌≡◌, ℕ, zero, suc, ◌+◌, ◌<◌, List, [], ◌∷◌, length, map, get_or, refl, ap, subst, inl, inr, arith}
use Rattle.std.specs.Prelude.{Contains, Option, Some, None, IsSome, IsNone, ◌⊎◌}
use Rattle.trial_spec.specs.Made.{all_drawn, made_flow}

no-zero-at : (xs : List ℕ) (k : ℕ) → k < length (map (λ n. 1 + n) xs) → get_or (map (λ n. 1 + n) xs) k 0 ≡ 0 → ⊥
no-zero-at [] k lt e = omega arith
no-zero-at (x ∷ xs) zero lt e = omega (arith, e)
no-zero-at (x ∷ xs) (suc k) lt e = no-zero-at xs k (omega arith) e

-- a list of them is accepted
pub are-skips : (seed : ℕ) (numbers : List ℕ) → numbers ≡ (made_flow seed).skips
    → (length numbers ≡ 0) ⊎ ((1024 < length numbers) ⊎ Contains numbers 0) → ⊥
are-skips seed numbers e (inl none) =
    let many : length numbers ≡ 64 = ap length e in omega (arith, none, many)
are-skips seed numbers e (inr (inl great)) =
    let many : length numbers ≡ 64 = ap length e in omega (arith, great, many)
are-skips seed numbers e (inr (inr h)) =
    let there : Contains (map (λ n. 1 + n) (all_drawn 64 19 seed)) 0 = subst (λ xs. Contains xs 0) e h in
    no-zero-at (all_drawn 64 19 seed) there.0 there.1 there.2

-- what isn't none is some
pub some-of : {X : Type 0} (o : Option X) → (IsNone o → ⊥) → IsSome o
some-of None h = absurd (h refl)
some-of (Some x) h = refl
