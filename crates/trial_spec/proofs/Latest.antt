-- The items of the newest index, with one item more.
use Rattle.std.proofs.Common.{◌≡◌, ℕ, ◌<◌, inl, inr, Bool, cond, List, [], ◌∷◌, arith, refl, ap, ◌∙◌}
use Rattle.std.specs.Prelude.{◌==◌}
use Rattle.std.specs.List.{filter}
use Rattle.std.proofs.lemmas.Bool.{cases_lt, cases_order, eq-eqb, ne_eqb}
use Rattle.count_spec.specs.TrueStretches.{newest_index}

-- there is a first one
pub record HasOne {X : Type 0} (xs : List X) : Type 0 where
  pub head : X
  pub tail : List X
  pub are : xs ≡ head ∷ tail

module _ {X : Type 0} (index : X → ℕ) where
  abbrev pub of_index : ℕ → List X → List X
  of_index i xs = filter (λ (y : X). index y == i) xs

  abbrev pub own : List X → List X
  own xs = of_index (newest_index index xs) xs

  pub none-of : (i : ℕ) (xs : List X) → newest_index index xs < i → of_index i xs ≡ []
  none-of i [] h = refl
  none-of i (x ∷ xs) h =
      ap (λ (b : Bool). cond b (x ∷ of_index i xs) (of_index i xs)) (ne_eqb (index x) i (λ e. omega arith))
      ∙ none-of i xs (omega arith)

  pub own-later : (x : X) (xs : List X) → newest_index index xs < index x → own (x ∷ xs) ≡ x ∷ []
  own-later x xs h =
      let m : newest_index index (x ∷ xs) ≡ index x = omega arith in
      ap (λ (n : ℕ). of_index n (x ∷ xs)) m
      ∙ ap (λ (b : Bool). cond b (x ∷ of_index (index x) xs) (of_index (index x) xs)) (eq-eqb (index x) (index x) refl)
      ∙ ap (λ (ys : List X). x ∷ ys) (none-of (index x) xs h)

  pub own-same : (x : X) (xs : List X) → index x ≡ newest_index index xs → own (x ∷ xs) ≡ x ∷ own xs
  own-same x xs h =
      let m : newest_index index (x ∷ xs) ≡ newest_index index xs = omega arith in
      ap (λ (n : ℕ). of_index n (x ∷ xs)) m
      ∙ ap (λ (b : Bool). cond b (x ∷ own xs) (own xs)) (eq-eqb (index x) (newest_index index xs) h)

  pub own-earlier : (x : X) (xs : List X) → index x < newest_index index xs → own (x ∷ xs) ≡ own xs
  own-earlier x xs h =
      let m : newest_index index (x ∷ xs) ≡ newest_index index xs = omega arith in
      ap (λ (n : ℕ). of_index n (x ∷ xs)) m
      ∙ ap (λ (b : Bool). cond b (x ∷ own xs) (own xs)) (ne_eqb (index x) (newest_index index xs) (λ e. omega arith))

  pub own-some : (x : X) (xs : List X) → HasOne (own (x ∷ xs))
  own-some x [] = elim (cases_lt 0 (index x)) [
    | inl above ↦ record { head = x; tail = []; are = own-later x [] above }
    | inr low ↦ record { head = x; tail = own []; are = own-same x [] (omega arith) }
  ]
  own-some x (y ∷ more) = elim (cases_order (index x) (newest_index index (y ∷ more))) [
    | inl equal ↦ record { head = x; tail = own (y ∷ more); are = own-same x (y ∷ more) equal }
    | inr other ↦ elim other [
      | inl below ↦
          let c : HasOne (own (y ∷ more)) = own-some y more in
          record { head = c.head; tail = c.tail; are = own-earlier x (y ∷ more) below ∙ c.are }
      | inr above ↦ record { head = x; tail = []; are = own-later x (y ∷ more) above }
    ]
  ]

  pub own-one : (x : X) → own (x ∷ []) ≡ x ∷ []
  own-one x =
      let m : newest_index index (x ∷ []) ≡ index x = omega arith in
      ap (λ (n : ℕ). of_index n (x ∷ [])) m
      ∙ ap (λ (b : Bool). cond b (x ∷ []) []) (eq-eqb (index x) (index x) refl)
