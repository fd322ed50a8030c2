-- The datagrams of a send: values cut into longest prefixes.
use Rattle.std.proofs.Common.{◌≡◌, ℕ, zero, suc, ◌≤◌, Bool, cond, List, [], ◌∷◌, length, map, take, drop, refl, sym, ap, ◌∙◌, arith, length-drop}
use Rattle.agent_spec.specs.Packing.{longest, prefixes, cut}
use Rattle.agent_spec.proofs.Prefixes.{longest-some}

module _ {X : Type 0} (fits : List X → Bool) where
  -- as many prefixes as items are all of them
  same-most : (m n : ℕ) (items : List X) → length items ≤ m → length items ≤ n → prefixes fits m items ≡ prefixes fits n items
  same-most zero zero items h g = refl
  same-most zero (suc n) [] h g = refl
  same-most zero (suc n) (x ∷ more) h g = absurd (omega (arith, h))
  same-most (suc m) zero [] h g = refl
  same-most (suc m) zero (x ∷ more) h g = absurd (omega (arith, g))
  same-most (suc m) (suc n) [] h g = refl
  same-most (suc m) (suc n) (x ∷ more) h g =
      let size : ℕ = longest fits (x ∷ more) (length (x ∷ more)) in
      let some : 1 ≤ size = longest-some fits (x ∷ more) (length (x ∷ more)) in
      let rest : List X = drop size (x ∷ more) in
      let fewer : length rest ≤ length more = omega (arith, length-drop size (x ∷ more), some) in
      ap (λ (ds : List (List X)). take size (x ∷ more) ∷ ds)
      (same-most m n rest (omega (arith, fewer, h)) (omega (arith, fewer, g)))

  enough : (most : ℕ) (items : List X) → length items ≤ most → prefixes fits most items ≡ cut fits items
  enough most items h = same-most most (length items) items h (omega arith)

  -- the first of the prefixes, and those of what is left
  pub cut-next : (items : List X) → 1 ≤ length items
      → cut fits items ≡ take (longest fits items (length items)) items
      ∷ cut fits (drop (longest fits items (length items)) items)
  cut-next [] h = absurd (omega (arith, h))
  cut-next (x ∷ more) h =
      let size : ℕ = longest fits (x ∷ more) (length (x ∷ more)) in
      let some : 1 ≤ size = longest-some fits (x ∷ more) (length (x ∷ more)) in
      let rest : List X = drop size (x ∷ more) in
      ap (λ (ds : List (List X)). take size (x ∷ more) ∷ ds)
      (enough (length more) rest (omega (arith, length-drop size (x ∷ more), some)))

module _ {X Y : Type 0} (f : X → Y) where
  pub map-take : (n : ℕ) (xs : List X) → map f (take n xs) ≡ take n (map f xs)
  map-take zero xs = refl
  map-take (suc n) [] = refl
  map-take (suc n) (x ∷ more) = ap (λ ys. f x ∷ ys) (map-take n more)

  pub map-drop : (n : ℕ) (xs : List X) → map f (drop n xs) ≡ drop n (map f xs)
  map-drop zero xs = refl
  map-drop (suc n) [] = refl
  map-drop (suc n) (x ∷ more) = map-drop n more

  pub map-length : (xs : List X) → length (map f xs) ≡ length xs
  map-length [] = refl
  map-length (x ∷ more) = ap suc (map-length more)

  module _ (fits : List Y → Bool) where
    longest-map : (k : ℕ) (xs : List X) → longest (λ (ys : List X). fits (map f ys)) xs k ≡ longest fits (map f xs) k
    longest-map zero xs = refl
    longest-map (suc k) xs =
        ap (λ (l : List Y). cond (fits l) (suc k) (longest (λ (ys : List X). fits (map f ys)) xs k)) (map-take (suc k) xs)
        ∙ ap (λ (n : ℕ). cond (fits (take (suc k) (map f xs))) (suc k) n) (longest-map k xs)

    prefixes-map : (most : ℕ) (xs : List X)
        → map (map f) (prefixes (λ (ys : List X). fits (map f ys)) most xs) ≡ prefixes fits most (map f xs)
    prefixes-map zero xs = refl
    prefixes-map (suc most) [] = refl
    prefixes-map (suc most) (x ∷ more) =
        let n : ℕ = longest (λ (ys : List X). fits (map f ys)) (x ∷ more) (length (x ∷ more)) in
        let m : ℕ = longest fits (map f (x ∷ more)) (length (map f (x ∷ more))) in
        let same : n ≡ m = longest-map (length (x ∷ more)) (x ∷ more)
        ∙ ap (longest fits (map f (x ∷ more))) (sym (map-length (x ∷ more))) in
        ap (λ (d : List Y). d ∷ map (map f) (prefixes (λ (ys : List X). fits (map f ys)) most (drop n (x ∷ more))))
        (map-take n (x ∷ more))
        ∙ ap (λ (ds : List (List Y)). take n (map f (x ∷ more)) ∷ ds)
        (prefixes-map most (drop n (x ∷ more)) ∙ ap (prefixes fits most) (map-drop n (x ∷ more)))
        ∙ ap (λ (k : ℕ). take k (map f (x ∷ more)) ∷ prefixes fits most (drop k (map f (x ∷ more)))) same

    -- what is cut by the values of items is cut as the values are
    pub cut-map : (xs : List X) → map (map f) (cut (λ (ys : List X). fits (map f ys)) xs) ≡ cut fits (map f xs)
    cut-map xs = prefixes-map (length xs) xs ∙ ap (λ (n : ℕ). prefixes fits n (map f xs)) (sym (map-length xs))
