-- Lists of which something holds of each.
use Rattle.std.proofs.Common.{ℕ, zero, suc, inl, inr, List, [], ◌∷◌, ◌++◌, reverse, take, drop, sym, subst}
use Rattle.std.specs.List.{AllByRecursion}
use Rattle.std.proofs.lemmas.List.{reverse-append}
use Rattle.agent_spec.specs.Packing.{joined}
use Rattle.agent_spec.specs.Boots.{IsAmong}

module _ {X : Type 0} (P : X → Type 0) where
  pub all-append : (xs ys : List X) → AllByRecursion P xs → AllByRecursion P ys → AllByRecursion P (xs ++ ys)
  all-append [] ys p q = q
  all-append (x ∷ xs) ys p q = (p.0, all-append xs ys p.1 q)

  all-front : (xs ys : List X) → AllByRecursion P (xs ++ ys) → AllByRecursion P xs
  all-front [] ys h = tt
  all-front (x ∷ xs) ys h = (h.0, all-front xs ys h.1)

  all-behind : (xs ys : List X) → AllByRecursion P (xs ++ ys) → AllByRecursion P ys
  all-behind [] ys h = h
  all-behind (x ∷ xs) ys h = all-behind xs ys h.1

  pub all-reverse : (xs : List X) → AllByRecursion P xs → AllByRecursion P (reverse xs)
  all-reverse [] h = tt
  all-reverse (x ∷ xs) h =
      subst (AllByRecursion P) (sym (reverse-append (x ∷ []) xs)) (all-append (reverse xs) (x ∷ []) (all-reverse xs h.1) (h.0, tt))

  pub all-drop : (n : ℕ) (xs : List X) → AllByRecursion P xs → AllByRecursion P (drop n xs)
  all-drop zero xs h = h
  all-drop (suc n) [] h = h
  all-drop (suc n) (x ∷ xs) h = all-drop n xs h.1

  pub all-take : (n : ℕ) (xs : List X) → AllByRecursion P xs → AllByRecursion P (take n xs)
  all-take zero xs h = tt
  all-take (suc n) [] h = tt
  all-take (suc n) (x ∷ xs) h = (h.0, all-take n xs h.1)

  pub all-among : (x : X) (xs : List X) → IsAmong x xs → AllByRecursion P xs → P x
  all-among x [] a h = absurd a
  all-among x (y ∷ more) (inl e) h = subst P (sym e) h.0
  all-among x (y ∷ more) (inr a) h = all-among x more a h.1

  -- of the parts of a list
  pub all-parts : (ds : List (List X)) → AllByRecursion P (joined ds) → AllByRecursion (AllByRecursion P) ds
  all-parts [] h = tt
  all-parts (d ∷ more) h = (all-front d (joined more) h, all-parts more (all-behind d (joined more) h))

pub all-both : {X : Type 0} (P Q R : X → Type 0) → ((x : X) → P x → Q x → R x) → (xs : List X)
    → AllByRecursion P xs → AllByRecursion Q xs → AllByRecursion R xs
all-both P Q R f [] p q = tt
all-both P Q R f (x ∷ xs) p q = (f x p.0 q.0, all-both P Q R f xs p.1 q.1)
