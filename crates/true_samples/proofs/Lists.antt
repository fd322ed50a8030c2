-- Lists, two of them side by side, and lists in which one item is another.
use Rattle.std.proofs.Common.{◌≡◌, ◌∙◌, ◌<◌, ◌+◌, ℕ, zero, suc, inl, inr, Some, List, [], ◌∷◌, ◌++◌, length, map, take, drop, reverse, get_or, refl, sym, ap, subst, arith}
use Rattle.std.specs.Prelude.{slice_get}
use Rattle.std.specs.List.{AllByRecursion}
use Rattle.std.proofs.lemmas.Option.{same_Some}
use Rattle.std.proofs.lemmas.List.{reverse-append}
use Rattle.agent_spec.specs.Boots.{IsAmong}
use Rattle.true_samples.specs.Pairs.{Each}

module _ {A B : Type 0} (P : A → B → Type 0) where
  pub each-length : (xs : List A) (ys : List B) → Each P xs ys → length xs ≡ length ys
  each-length [] [] h = refl
  each-length [] (y ∷ ys) h = absurd h
  each-length (x ∷ xs) [] h = absurd h
  each-length (x ∷ xs) (y ∷ ys) h = ap suc (each-length xs ys h.1)

  pub each-push : (xs : List A) (ys : List B) (x : A) (y : B) → Each P xs ys → P x y → Each P (xs ++ x ∷ []) (ys ++ y ∷ [])
  each-push [] [] x y h p = (p, tt)
  each-push [] (b ∷ ys) x y h p = absurd h
  each-push (a ∷ xs) [] x y h p = absurd h
  each-push (a ∷ xs) (b ∷ ys) x y h p = (h.0, each-push xs ys x y h.1 p)

  -- the second list has its LATEST FIRST
  pub each-next : (xs : List A) (ys : List B) (x : A) (y : B) → Each P xs (reverse ys) → P x y
      → Each P (xs ++ x ∷ []) (reverse (y ∷ ys))
  each-next xs ys x y h p =
      subst (Each P (xs ++ x ∷ [])) (sym (reverse-append (y ∷ []) ys)) (each-push xs (reverse ys) x y h p)

  pub each-take : (n : ℕ) (xs : List A) (ys : List B) → Each P xs ys → Each P (take n xs) (take n ys)
  each-take zero xs ys h = tt
  each-take (suc n) [] [] h = tt
  each-take (suc n) [] (y ∷ ys) h = absurd h
  each-take (suc n) (x ∷ xs) [] h = absurd h
  each-take (suc n) (x ∷ xs) (y ∷ ys) h = (h.0, each-take n xs ys h.1)

  pub each-drop : (n : ℕ) (xs : List A) (ys : List B) → Each P xs ys → Each P (drop n xs) (drop n ys)
  each-drop zero xs ys h = h
  each-drop (suc n) [] [] h = tt
  each-drop (suc n) [] (y ∷ ys) h = absurd h
  each-drop (suc n) (x ∷ xs) [] h = absurd h
  each-drop (suc n) (x ∷ xs) (y ∷ ys) h = each-drop n xs ys h.1

  pub each-at : (xs : List A) (ys : List B) (i : ℕ) (x : A) → Each P xs ys → slice_get xs i ≡ Some x
      → (y : B) × (slice_get ys i ≡ Some y) × P x y
  each-at [] ys i x h at = absurd cc
  each-at (a ∷ xs) [] i x h at = absurd h
  each-at (a ∷ xs) (b ∷ ys) zero x h at = (b, refl, subst (λ (z : A). P z b) (same_Some a x at) h.0)
  each-at (a ∷ xs) (b ∷ ys) (suc i) x h at = each-at xs ys i x h.1 at

module _ {X Y : Type 0} where
  pub get-mapped : (f : X → Y) (xs : List X) (i : ℕ) (y : Y) → slice_get (map f xs) i ≡ Some y
      → (x : X) × (slice_get xs i ≡ Some x) × (f x ≡ y)
  get-mapped f [] i y at = absurd cc
  get-mapped f (x ∷ xs) zero y at = (x, refl, same_Some (f x) y at)
  get-mapped f (x ∷ xs) (suc i) y at = get-mapped f xs i y at

  pub get-map : (f : X → Y) (xs : List X) (i : ℕ) (x : X) → slice_get xs i ≡ Some x → slice_get (map f xs) i ≡ Some (f x)
  get-map f [] i x at = absurd cc
  get-map f (z ∷ xs) zero x at = ap (λ (k : X). Some (f k)) (same_Some z x at)
  get-map f (z ∷ xs) (suc i) x at = get-map f xs i x at

  pub map-length : (f : X → Y) (xs : List X) → length (map f xs) ≡ length xs
  map-length f [] = refl
  map-length f (x ∷ xs) = ap suc (map-length f xs)

  pub map-same : (f g : X → Y) (P : X → Type 0) (xs : List X) → ((x : X) → P x → f x ≡ g x) → AllByRecursion P xs
      → map f xs ≡ map g xs
  map-same f g P [] to h = refl
  map-same f g P (x ∷ xs) to h = λ i. to x h.0 i ∷ map-same f g P xs to h.1 i

module _ {X : Type 0} where
  pub get-front : (xs ys : List X) (i : ℕ) (x : X) → slice_get xs i ≡ Some x → slice_get (xs ++ ys) i ≡ Some x
  get-front [] ys i x at = absurd cc
  get-front (z ∷ xs) ys zero x at = at
  get-front (z ∷ xs) ys (suc i) x at = get-front xs ys i x at

  pub get-behind : (xs ys : List X) (i : ℕ) (x : X) → slice_get ys i ≡ Some x → slice_get (xs ++ ys) (length xs + i) ≡ Some x
  get-behind [] ys i x at = let e : i ≡ 0 + i = omega arith in subst (λ (n : ℕ). slice_get ys n ≡ Some x) e at
  get-behind (z ∷ xs) ys i x at =
      let e : suc (length xs + i) ≡ length (z ∷ xs) + i = omega arith in
      subst (λ (n : ℕ). slice_get (z ∷ xs ++ ys) n ≡ Some x) e (get-behind xs ys i x at)

  pub all-get : (P : X → Type 0) (xs : List X) (i : ℕ) (x : X) → AllByRecursion P xs → slice_get xs i ≡ Some x → P x
  all-get P [] i x h at = absurd cc
  all-get P (z ∷ xs) zero x h at = subst P (same_Some z x at) h.0
  all-get P (z ∷ xs) (suc i) x h at = all-get P xs i x h.1 at

  pub all-among : (P : X → Type 0) (xs : List X) (x : X) → AllByRecursion P xs → IsAmong x xs → P x
  all-among P [] x h among = absurd among
  all-among P (z ∷ xs) x h (inl e) = subst P (sym e) h.0
  all-among P (z ∷ xs) x h (inr among) = all-among P xs x h.1 among

  pub drop-next : (xs : List X) (i : ℕ) (x : X) → i < length xs → x ≡ get_or xs i x → drop i xs ≡ x ∷ drop (i + 1) xs
  drop-next [] i x within at = absurd (omega (arith, within))
  drop-next (z ∷ xs) zero x within at = ap (λ (y : X). y ∷ xs) (sym at)
  drop-next (z ∷ xs) (suc i) x within at =
      let next : suc (i + 1) ≡ suc i + 1 = omega arith in
      drop-next xs i x (omega (arith, within)) at ∙ ap (λ (n : ℕ). x ∷ drop n (z ∷ xs)) next

  pub drop-at : (xs : List X) (i : ℕ) (x : X) → slice_get xs i ≡ Some x → drop i xs ≡ x ∷ drop (suc i) xs
  drop-at [] i x at = absurd cc
  drop-at (z ∷ xs) zero x at = ap (λ (y : X). y ∷ xs) (same_Some z x at)
  drop-at (z ∷ xs) (suc i) x at = drop-at xs i x at

  pub all-both : (P Q R : X → Type 0) (xs : List X) → ((x : X) → P x → Q x → R x) → AllByRecursion P xs → AllByRecursion Q xs
      → AllByRecursion R xs
  all-both P Q R [] to h k = tt
  all-both P Q R (x ∷ xs) to h k = (to x h.0 k.0, all-both P Q R xs to h.1 k.1)

  pub all-same : {Y : Type 0} (f : X → Y) (xs : List X) → AllByRecursion (λ (x : X). f x ≡ f x) xs
  all-same f [] = tt
  all-same f (x ∷ xs) = (refl, all-same f xs)
