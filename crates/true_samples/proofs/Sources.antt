-- Sources that are told apart.
use Rattle.std.proofs.Common.{◌≡◌, ◌∙◌, ℕ, zero, suc, inl, inr, Bool, true, false, ◌||◌, Some, List, [], ◌∷◌, map, set, drop, refl, sym, ap, subst}
use Rattle.std.specs.Prelude.{slice_get, ◌==◌, ◌&&◌}
use Rattle.std.specs.List.{AllByRecursion}
use Rattle.std.proofs.lemmas.Bool.{cases_Bool, true≢false, eq-eqb}
use Rattle.std.proofs.lemmas.Option.{same_Some}
use Rattle.data_format.specs.declared.source.SourceId.{SourceId}
use Rattle.books_spec.specs.Listing.{among, AreDistinct}
use Rattle.agent_spec.specs.Sources.{Source, same_kind, same_source}
use Rattle.agent_spec.specs.Boots.{IsAmong}
use Rattle.agent_spec.proofs.Keys.{source-eq, source-self}
use Rattle.agent_setups.specs.Ids.{is_among, same_id}
use Rattle.true_samples.specs.Counts.{id_in}

or-false : (a b : Bool) → (a || b) ≡ false → (a ≡ false) × (b ≡ false)
or-false true b e = absurd (true≢false e)
or-false false b e = (refl, e)

turned : (s t : Source) → same_source s t ≡ false → same_source t s ≡ false
turned s t e = elim (cases_Bool (same_source t s)) [
  | inl same ↦
      let q : t ≡ s = source-eq t s same in
      absurd (true≢false (sym (source-self s) ∙ ap (same_source s) (sym q) ∙ e))
  | inr other ↦ other
]

pub kinds-differ : (s t : Source) → s.flow ≡ true → t.flow ≡ false → same_source s t ≡ false
kinds-differ s t e f = ap (λ (b : Bool). b) (lemma s.flow t.flow s t e f refl refl)
  where
    lemma : (a b : Bool) (x y : Source) → a ≡ true → b ≡ false → a ≡ x.flow → b ≡ y.flow → same_source x y ≡ false
    lemma a b x y g h p q =
        let kind : same_kind x.flow y.flow ≡ false = (λ i. same_kind (sym p i) (sym q i)) ∙ (λ i. same_kind (g i) (h i)) in
        rw kind refl

pub kinds-differ-too : (s t : Source) → s.flow ≡ false → t.flow ≡ true → same_source s t ≡ false
kinds-differ-too s t e f = turned t s (kinds-differ t s f e)

module _ {K : Type 0} (key : K → Source) where
  apart-get : (k : Source) (xs : List K) (i : ℕ) (x : K) → among same_source (map key xs) k ≡ false
      → slice_get xs i ≡ Some x → same_source k (key x) ≡ false
  apart-get k [] i x none at = absurd cc
  apart-get k (z ∷ more) zero x none at =
      subst (λ (y : K). same_source k (key y) ≡ false) (same_Some z x at)
      (or-false (same_source k (key z)) (among same_source (map key more) k) none).0
  apart-get k (z ∷ more) (suc i) x none at =
      apart-get k more i x (or-false (same_source k (key z)) (among same_source (map key more) k) none).1 at

  apart-among : (k : Source) (xs : List K) (x : K) → among same_source (map key xs) k ≡ false → IsAmong x xs
      → same_source k (key x) ≡ false
  apart-among k [] x none h = absurd h
  apart-among k (z ∷ more) x none (inl e) =
      subst (λ (y : K). same_source k (key y) ≡ false) (sym e)
      (or-false (same_source k (key z)) (among same_source (map key more) k) none).0
  apart-among k (z ∷ more) x none (inr h) =
      apart-among k more x (or-false (same_source k (key z)) (among same_source (map key more) k) none).1 h

  -- of one source there is one item
  pub one-of-source : (xs : List K) (i : ℕ) (x y : K) → AreDistinct same_source (map key xs) → slice_get xs i ≡ Some x
      → IsAmong y xs → key x ≡ key y → x ≡ y
  one-of-source [] i x y apart at h same = absurd h
  one-of-source (z ∷ more) zero x y apart at (inl e) same = sym (same_Some z x at) ∙ sym e
  one-of-source (z ∷ more) zero x y apart at (inr h) same =
      let other : same_source (key z) (key y) ≡ false = apart-among (key z) more y apart.0 h in
      let one : key z ≡ key y = ap key (same_Some z x at) ∙ same in
      absurd (true≢false (sym (source-self (key z)) ∙ ap (same_source (key z)) one ∙ other))
  one-of-source (z ∷ more) (suc i) x y apart at (inl e) same =
      let other : same_source (key z) (key x) ≡ false = apart-get (key z) more i x apart.0 at in
      let one : key z ≡ key x = ap key (sym e) ∙ sym same in
      absurd (true≢false (sym (source-self (key z)) ∙ ap (same_source (key z)) one ∙ other))
  one-of-source (z ∷ more) (suc i) x y apart at (inr h) same = one-of-source more i x y apart.1 at h same

  module _ {X : Type 0} (f g : K → X) where
    others-same : (k : Source) (xs : List K) → among same_source (map key xs) k ≡ false
        → ((z : K) → same_source (key z) k ≡ false → f z ≡ g z) → map f xs ≡ map g xs
    others-same k [] none to = refl
    others-same k (z ∷ more) none to =
        let parts = or-false (same_source k (key z)) (among same_source (map key more) k) none in
        λ j. to z (turned k (key z) parts.0) j ∷ others-same k more parts.1 to j

    -- at the place of one source another value, and at those of others the same
    pub map-at : (xs : List K) (i : ℕ) (x : K) → AreDistinct same_source (map key xs) → slice_get xs i ≡ Some x
        → ((z : K) → same_source (key z) (key x) ≡ false → f z ≡ g z) → set (map f xs) i (g x) ≡ map g xs
    map-at [] i x apart at to = absurd cc
    map-at (z ∷ more) zero x apart at to =
        let one : z ≡ x = same_Some z x at in
        let rest : map f more ≡ map g more =
        others-same (key x) more (subst (λ (y : K). among same_source (map key more) (key y) ≡ false) one apart.0) to in
        λ j. g (sym one j) ∷ rest j
    map-at (z ∷ more) (suc i) x apart at to =
        λ j. to z (apart-get (key z) more i x apart.0 at) j ∷ map-at more i x apart.1 at to j

module _ {K : Type 0} (key : K → Source) where
  all-differ : (k : Source) (xs : List K) → among same_source (map key xs) k ≡ false
      → AllByRecursion (λ (z : K). same_source (key z) k ≡ false) xs
  all-differ k [] none = tt
  all-differ k (z ∷ more) none =
      let parts = or-false (same_source k (key z)) (among same_source (map key more) k) none in
      (turned k (key z) parts.0, all-differ k more parts.1)

  -- those behind it are of other sources
  pub later-differ : (xs : List K) (i : ℕ) (x : K) → AreDistinct same_source (map key xs) → slice_get xs i ≡ Some x
      → AllByRecursion (λ (z : K). same_source (key z) (key x) ≡ false) (drop (suc i) xs)
  later-differ [] i x apart at = absurd cc
  later-differ (z ∷ more) zero x apart at =
      all-differ (key x) more (subst (λ (y : K). among same_source (map key more) (key y) ≡ false) (same_Some z x at) apart.0)
  later-differ (z ∷ more) (suc i) x apart at = later-differ more i x apart.1 at

-- ---- ids

id-self : (id : SourceId) → same_id id id ≡ true
id-self id = and-yes (id.class == id.class) (id.index == id.index) (eq-eqb id.class id.class refl) (eq-eqb id.index id.index refl)
  where
    and-yes : (a b : Bool) → a ≡ true → b ≡ true → (a && b) ≡ true
    and-yes a b e f = rw (e, f) refl

or-yes : (a b : Bool) → a ≡ true → (a || b) ≡ true
or-yes a b e = rw e refl

or-later : (a b : Bool) → b ≡ true → (a || b) ≡ true
or-later true b e = refl
or-later false b e = e

-- the id of an item is among theirs
pub among-ids : {K : Type 0} (key : K → SourceId) (xs : List K) (x : K) → IsAmong x xs → is_among (key x) (map key xs) ≡ true
among-ids key [] x h = absurd h
among-ids key (z ∷ more) x (inl e) =
    or-yes (same_id (key z) (key x)) (is_among (key x) (map key more))
    (subst (λ (y : _). same_id (key y) (key x) ≡ true) e (id-self (key x)))
among-ids key (z ∷ more) x (inr h) =
    or-later (same_id (key z) (key x)) (is_among (key x) (map key more)) (among-ids key more x h)

-- a kind and an id are a source
pub source-of : (s t : Source) → s.flow ≡ t.flow → id_in s ≡ id_in t → s ≡ t
source-of s t kind id = λ i. record { flow = kind i; class = (id i).class; index = (id i).index }
