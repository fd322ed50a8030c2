-- Lists of the sources that are due, and of what a meter gave.
use Rattle.std.proofs.Common.{◌≡◌, ℕ, zero, suc, ◌+◌, inl, inr, Bool, true, false, List, [], ◌∷◌, ◌++◌, length, map, take, filter, refl, sym, ap, subst, ◌∙◌, arith}
use Rattle.std.specs.Prelude.{slice_get}
use Rattle.std.proofs.lemmas.Bool.{cases_Bool}
use Rattle.std.specs.declared.option.Option.TheVariants.{Some}
use Rattle.wire_spec.specs.Shapes.{Tree}
use Rattle.data_format.specs.Records.{Content}
use Rattle.data_format.specs.declared.source.SourceId.{SourceId}
use Rattle.agent_spec.proofs.Lists.{filter-yes, filter-no}
use Rattle.sub_agents.specs.Polls.{Gave}
use Rattle.sub_agents.proofs.Lists.{some-eq, none-some}

module _ {X : Type 0} where
  pub take-next : (xs : List X) (n : ℕ) (x : X) → slice_get xs n ≡ Some x → take (suc n) xs ≡ take n xs ++ x ∷ []
  take-next [] n x e = none-some x e
  take-next (z ∷ more) zero x e = ap (λ (y : X). y ∷ []) (some-eq z x e)
  take-next (z ∷ more) (suc n) x e = ap (λ (l : List X). z ∷ l) (take-next more n x e)

  pub get-map : {Y : Type 0} (f : X → Y) (xs : List X) (n : ℕ) (x : X) → slice_get xs n ≡ Some x
      → slice_get (map f xs) n ≡ Some (f x)
  get-map f [] n x e = none-some x e
  get-map f (z ∷ more) zero x e = ap (λ (y : X). Some (f y)) (some-eq z x e)
  get-map f (z ∷ more) (suc n) x e = get-map f more n x e

  module _ (p : X → Bool) where
    -- an element that passes stands behind those before it that pass
    pub filter-at : (xs : List X) (i : ℕ) (x : X) → slice_get xs i ≡ Some x → p x ≡ true
        → slice_get (filter p xs) (length (filter p (take i xs))) ≡ Some x
    filter-at [] i x e due_now = none-some x e
    filter-at (z ∷ more) zero x e due_now =
        let first : p z ≡ true = ap p (some-eq z x e) ∙ due_now in
        subst (λ (l : List X). slice_get l 0 ≡ Some x) (sym (filter-yes p z more first)) e
    filter-at (z ∷ more) (suc i) x e due_now =
        let rest : slice_get (filter p more) (length (filter p (take i more))) ≡ Some x = filter-at more i x e due_now in
        elim (cases_Bool (p z)) [
          | inl passes ↦
              (λ j. slice_get (filter-yes p z more passes j) (length (filter-yes p z (take i more) passes j))) ∙ rest
          | inr fails ↦
              (λ j. slice_get (filter-no p z more fails j) (length (filter-no p z (take i more) fails j))) ∙ rest
        ]

    pub front-length : (xs ys : List X) → length (filter p (xs ++ ys)) ≡ length (filter p xs) + length (filter p ys)
    front-length [] ys = omega arith
    front-length (z ∷ more) ys =
        let rest : length (filter p (more ++ ys)) ≡ length (filter p more) + length (filter p ys) = front-length more ys in
        elim (cases_Bool (p z)) [
          | inl passes ↦
              omega (arith, rest, ap length (filter-yes p z (more ++ ys) passes), ap length (filter-yes p z more passes))
          | inr fails ↦
              omega (arith, rest, ap length (filter-no p z (more ++ ys) fails), ap length (filter-no p z more fails))
        ]

    pub one-more : (xs : List X) (i : ℕ) (x : X) → slice_get xs i ≡ Some x → p x ≡ true
        → length (filter p (take (i + 1) xs)) ≡ length (filter p (take i xs)) + 1
    one-more xs i x e due_now =
        let next : i + 1 ≡ suc i = omega arith in
        let parts : take (i + 1) xs ≡ take i xs ++ x ∷ [] = ap (λ (k : ℕ). take k xs) next ∙ take-next xs i x e in
        ap (λ (l : List X). length (filter p l)) parts ∙ front-length (take i xs) (x ∷ [])
        ∙ ap (λ (l : List X). length (filter p (take i xs)) + length l) (filter-yes p x [] due_now)

    pub no-more : (xs : List X) (i : ℕ) (x : X) → slice_get xs i ≡ Some x → p x ≡ false
        → length (filter p (take (i + 1) xs)) ≡ length (filter p (take i xs))
    no-more xs i x e later =
        let next : i + 1 ≡ suc i = omega arith in
        let parts : take (i + 1) xs ≡ take i xs ++ x ∷ [] = ap (λ (k : ℕ). take k xs) next ∙ take-next xs i x e in
        let none : length (filter p (x ∷ [])) ≡ 0 = ap length (filter-no p x [] later) in
        let both : length (filter p (take (i + 1) xs)) ≡ length (filter p (take i xs)) + length (filter p (x ∷ [])) =
        ap (λ (l : List X). length (filter p l)) parts ∙ front-length (take i xs) (x ∷ []) in
        omega (arith, both, none)

-- ---- what a meter gave

module _ {M : Type 0} (gives : M → SourceId → Content → M → Type 0) (faults : M → ℕ) where
  pub gave-last : (ids : List SourceId) (rs : List Tree) (id : SourceId) (r : Tree) (old mid new : M)
      → Gave gives faults ids rs old mid → gives mid id (r, []) new
      → Gave gives faults (ids ++ id ∷ []) (rs ++ r ∷ []) old new
  gave-last [] [] id r old mid new h g =
      (new, subst (λ (k : M). gives k id (r, []) new) (sym h) g, refl)
  gave-last [] (x ∷ rs) id r old mid new h g = absurd h
  gave-last (y ∷ ids) [] id r old mid new h g = absurd h
  gave-last (y ∷ ids) (x ∷ rs) id r old mid new h g = (h.0, h.1, gave-last ids rs id r h.0 mid new h.2 g)
