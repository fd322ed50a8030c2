-- One more entry of a table, and another value at a place.
use Rattle.std.proofs.Common.{◌≡◌, ℕ, zero, suc, Bool, true, false, ◌||◌, Option, Some, None, List, [], ◌∷◌, ◌++◌, length, refl, sym, ap, subst, ◌∙◌, true≢false}
use Rattle.std.specs.Prelude.{slice_get}
use Rattle.indexmap.specs.IndexMap.{set_value_at}
use Rattle.books_spec.specs.Listing.{among, AreDistinct}
use Rattle.books_spec.proofs.Listings.{IsSame, symmetric}
use Rattle.collector_tables.specs.Tables.{keys_in, Each}

or-parts : (a b : Bool) → (a || b) ≡ false → (a ≡ false) × (b ≡ false)
or-parts true b h = absurd (true≢false h)
or-parts false b h = (refl, h)

or-more : (a b : Bool) → b ≡ true → (a || b) ≡ true
or-more true b h = refl
or-more false b h = h

is_none : {X : Type 0} → Option X → Bool
is_none None = true
is_none (Some x) = false

-- what is kept at a place
pub each-at : {K V S : Type 0} (key : K → S) (P : S → V → Type 0) (entries : List (K × V)) (place : ℕ) (k : K) (v : V)
    → slice_get entries place ≡ Some (k, v) → Each key P entries → P (key k) v
unfolding is_none
each-at key P [] place k v at all = absurd (true≢false (ap is_none at))
each-at {K} {V} key P (e ∷ more) zero k v at all =
    let same_entry : e ≡ (k, v) = cc in
    let R : K × V → Type 0 = λ x. P (key x.0) x.1 in
    subst R same_entry all.0
each-at key P (e ∷ more) (suc n) k v at all = each-at key P more n k v at all.1

-- a key that isn't there differs from the one at a place
each-differs : {K V S : Type 0} (key : K → S) (same : S → S → Bool) (s : S) (es : List (K × V))
    → among same (keys_in key es) s ≡ false → Each key (λ (t : S) (u : V). same s t ≡ false) es
each-differs key same s [] none = tt
each-differs key same s (e ∷ more) none =
    let parts = or-parts (same s (key e.0)) (among same (keys_in key more) s) none in
    (parts.0, each-differs key same s more parts.1)

module _ {K V S : Type 0} (key : K → S) (same : S → S → Bool) where
  -- where the key isn't there, what is kept at the others goes on
  pub each-others : (P Q : S → V → Type 0) (entries : List (K × V)) (s : S) → among same (keys_in key entries) s ≡ false
      → ((t : S) (v : V) → same s t ≡ false → P t v → Q t v) → Each key P entries → Each key Q entries
  each-others P Q [] s none step all = tt
  each-others P Q (e ∷ more) s none step all =
      let parts = or-parts (same s (key e.0)) (among same (keys_in key more) s) none in
      (step (key e.0) e.1 parts.0 all.0, each-others P Q more s parts.1 step all.1)

  -- where it is new, it goes last
  pub each-push : (P : S → V → Type 0) (entries : List (K × V)) (k : K) (v : V) → Each key P entries → P (key k) v
      → Each key P (entries ++ (k, v) ∷ [])
  each-push P [] k v all new = (new, tt)
  each-push P (e ∷ more) k v all new = (all.0, each-push P more k v all.1 new)

  pub keys-push : (entries : List (K × V)) (k : K) (v : V)
      → keys_in key (entries ++ (k, v) ∷ []) ≡ keys_in key entries ++ key k ∷ []
  keys-push [] k v = refl
  keys-push (e ∷ more) k v = ap (λ rest. key e.0 ∷ rest) (keys-push more k v)

  pub keys-length : (entries : List (K × V)) → length (keys_in key entries) ≡ length entries
  keys-length [] = refl
  keys-length (e ∷ more) = ap suc (keys-length more)

  -- the key at a place is one of the table
  pub among-at : (laws : IsSame same) (entries : List (K × V)) (place : ℕ) (k : K) (v : V)
      → slice_get entries place ≡ Some (k, v) → among same (keys_in key entries) (key k) ≡ true
  unfolding is_none
  among-at laws [] place k v at = absurd (true≢false (ap is_none at))
  among-at laws (e ∷ more) zero k v at =
      let same_key : e.0 ≡ k = cc in
      let here : same (key k) (key e.0) ≡ true = ap (λ x. same (key k) (key x)) same_key ∙ laws.self (key k) in
      ap (λ b. b || among same (keys_in key more) (key k)) here
  among-at laws (e ∷ more) (suc n) k v at =
      or-more (same (key k) (key e.0)) (among same (keys_in key more) (key k)) (among-at laws more n k v at)

  keys-at : (entries : List (K × V)) (place : ℕ) (k : K) (v : V) (s : S) → slice_get entries place ≡ Some (k, v)
      → among same (keys_in key entries) s ≡ false → same s (key k) ≡ false
  keys-at entries place k v s at none =
      each-at key (λ (t : S) (u : V). same s t ≡ false) entries place k v at (each-differs key same s entries none)

  pub keys-set : (entries : List (K × V)) (place : ℕ) (w : V)
      → keys_in key (set_value_at entries place w) ≡ keys_in key entries
  keys-set [] place w = refl
  keys-set (e ∷ more) zero w = refl
  keys-set (e ∷ more) (suc n) w = ap (λ rest. key e.0 ∷ rest) (keys-set more n w)

  -- another value at a place: what is kept at the other keys goes on
  pub each-set : (laws : IsSame same) (P Q : S → V → Type 0) (entries : List (K × V)) (place : ℕ) (k : K) (v w : V)
      → slice_get entries place ≡ Some (k, v) → AreDistinct same (keys_in key entries)
      → ((t : S) (u : V) → same (key k) t ≡ false → P t u → Q t u) → Q (key k) w
      → Each key P entries → Each key Q (set_value_at entries place w)
  each-set laws P Q [] place k v w at distinct step new all = tt
  each-set laws P Q (e ∷ more) zero k v w at distinct step new all =
      let same_key : e.0 ≡ k = cc in
      let absent : among same (keys_in key more) (key k) ≡ false =
      ap (λ x. among same (keys_in key more) (key x)) (sym same_key) ∙ distinct.0 in
      let R : K → Type 0 = λ x. Q (key x) w in
      (subst R (sym same_key) new, each-others P Q more (key k) absent step all.1)
  each-set laws P Q (e ∷ more) (suc n) k v w at distinct step new all =
      let other : same (key k) (key e.0) ≡ false =
      symmetric same laws (key e.0) (key k) (keys-at more n k v (key e.0) at distinct.0) in
      (step (key e.0) e.1 other all.0, each-set laws P Q more n k v w at distinct.1 step new all.1)

  -- what is so at each key goes on
  pub each-map : (P Q : S → V → Type 0) (entries : List (K × V)) → ((t : S) (u : V) → P t u → Q t u)
      → Each key P entries → Each key Q entries
  each-map P Q [] step all = tt
  each-map P Q (e ∷ more) step all = (step (key e.0) e.1 all.0, each-map P Q more step all.1)

-- under other names that are the same at each key, the table is the same
module _ {K V S : Type 0} (key other : K → S) where
  pub each-renamed : (P : S → V → Type 0) (entries : List (K × V)) → Each (λ (k : K). k) (λ k v. key k ≡ other k) entries
      → Each key P entries → Each other P entries
  each-renamed P [] same all = tt
  each-renamed P (e ∷ more) same all =
      let R : S → Type 0 = λ x. P x e.1 in
      (subst R same.0 all.0, each-renamed P more same.1 all.1)

  pub keys-renamed : (entries : List (K × V)) → Each (λ (k : K). k) (λ k v. key k ≡ other k) entries
      → keys_in key entries ≡ keys_in other entries
  keys-renamed [] same = refl
  keys-renamed (e ∷ more) same =
      let here = same.0 in
      let later = keys-renamed more same.1 in
      λ j. here j ∷ later j
