-- The value at a place of a table.
use Rattle.std.proofs.Common.{◌≡◌, ℕ, zero, suc, Some, List, [], ◌∷◌, ◌++◌, length, map, ap, refl}
use Rattle.std.specs.Prelude.{slice_get}
use Rattle.indexmap.specs.IndexMap.{set_value_at}

-- the value at a place is that of the entry there
pub same-value : {K V : Type 0} (entries : List (K × V)) (place : ℕ) (k : K) (v w : V)
    → slice_get entries place ≡ Some (k, v) → slice_get (map (λ (e : K × V). e.1) entries) place ≡ Some w → w ≡ v
same-value [] place k v w at value = cc
same-value (e ∷ more) zero k v w at value = cc
same-value (e ∷ more) (suc n) k v w at value = same-value more n k v w at value

-- the entry at the place of a value
pub entry-of : {K V : Type 0} (entries : List (K × V)) (place : ℕ) (w : V)
    → slice_get (map (λ (e : K × V). e.1) entries) place ≡ Some w
    → (k : K) × (slice_get entries place ≡ Some (k, w))
entry-of [] place w value = absurd (cc)
entry-of (e ∷ more) zero w value = (e.0, let q : e.1 ≡ w = cc in ap (λ v. Some (e.0, v)) q)
entry-of (e ∷ more) (suc n) w value = entry-of more n w value

-- one place has one key
pub same-key : {K V : Type 0} (entries : List (K × V)) (place : ℕ) (k x : K) (v w : V)
    → slice_get entries place ≡ Some (k, v) → slice_get entries place ≡ Some (x, w) → k ≡ x
same-key {K} {V} entries place k x v w at other =
    let one : K × V = (k, v) in
    let two : K × V = (x, w) in
    let same : one ≡ two = cc in
    ap (λ (p : K × V). p.0) same

-- another value at a place, and one behind the last
pub at-set : {K V : Type 0} (entries : List (K × V)) (place : ℕ) (k : K) (v w : V)
    → slice_get entries place ≡ Some (k, v) → slice_get (set_value_at entries place w) place ≡ Some (k, w)
at-set [] place k v w at = absurd (cc)
at-set (e ∷ more) zero k v w at =
    let same_key : e.0 ≡ k = cc in
    ap (λ x. Some (x, w)) same_key
at-set (e ∷ more) (suc n) k v w at = at-set more n k v w at

pub at-last : {K V : Type 0} (entries : List (K × V)) (k : K) (v : V)
    → slice_get (entries ++ (k, v) ∷ []) (length entries) ≡ Some (k, v)
at-last [] k v = refl
at-last (e ∷ more) k v = at-last more k v
