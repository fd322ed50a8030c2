-- Lists, their ends and their numbered items.
use Rattle.std.proofs.Common.{◌≡◌, ◌∙◌, ◌-◌, ◌==◌, ◌++◌, ◌⊎◌, inl, inr, ℕ, zero, suc, Bool, true, false, List, [], ◌∷◌, map, reverse, filter_map, Option, Some, None, refl, ap, sym, subst, if◌then◌else◌, slice_get, is_some, option_and_then}
use Rattle.std.specs.List.{AllByRecursion, cons_option}
use Rattle.std.proofs.lemmas.Bool.{or_from, or_parts}
use Rattle.std.proofs.lemmas.List.{reverse-append}
use Rattle.std.proofs.lemmas.List.Elements.{filter_map-append}
use Rattle.std.proofs.lemmas.Option.{same_Some}
use Rattle.books_spec.specs.Listing.{among, AreDistinct}
use Rattle.agent_spec.specs.Boots.{IsAmong}
use Rattle.script_spec.specs.Agents.{numbered}

-- ---- options

-- what two steps give is given by both
pub record Found {X Y : Type 0} (next : X → Option Y) (o : Option X) (y : Y) : Type 0 where
  pub item : X
  pub there : o ≡ Some item
  pub gives : next item ≡ Some y

pub found : {X Y : Type 0} (next : X → Option Y) (o : Option X) (y : Y) → option_and_then next o ≡ Some y → Found next o y
found next None y e = absurd cc
found next (Some x) y e = record { item = x; there = refl; gives = e }

pub some_item : {X : Type 0} (o : Option X) → is_some o ≡ true → (x : X) × (o ≡ Some x)
some_item None e = absurd cc
some_item (Some x) e = (x, refl)

-- ---- what holds of all items

pub all_end : {X : Type 0} (P : X → Type 0) (xs : List X) (y : X) → AllByRecursion P xs → P y
    → AllByRecursion P (xs ++ y ∷ [])
all_end P [] y h p = (p, tt)
all_end P (x ∷ more) y h p = (h.0, all_end P more y h.1 p)

pub turned : {X : Type 0} (x : X) (xs : List X) → reverse (x ∷ xs) ≡ reverse xs ++ x ∷ []
turned x xs = reverse-append (x ∷ []) xs

pub all_turned : {X : Type 0} (P : X → Type 0) (xs : List X) → AllByRecursion P xs → AllByRecursion P (reverse xs)
all_turned P [] h = tt
all_turned P (x ∷ more) h =
    subst (AllByRecursion P) (sym (turned x more)) (all_end P (reverse more) x (all_turned P more h.1) h.0)

pub all_imply : {X : Type 0} (P Q : X → Type 0) → ((x : X) → P x → Q x) → (xs : List X) → AllByRecursion P xs
    → AllByRecursion Q xs
all_imply P Q h [] a = tt
all_imply P Q h (x ∷ more) a = (h x a.0, all_imply P Q h more a.1)

pub all_map : {X Y : Type 0} (P : Y → Type 0) (to : X → Y) (xs : List X) → AllByRecursion (λ (x : X). P (to x)) xs
    → AllByRecursion P (map to xs)
all_map P to [] h = tt
all_map P to (x ∷ more) h = (h.0, all_map P to more h.1)

pub each_own : {X : Type 0} (P : X → Type 0) → ((x : X) → P x) → (xs : List X) → AllByRecursion P xs
each_own P h [] = tt
each_own P h (x ∷ more) = (h x, each_own P h more)

pub all_later : {X : Type 0} (P : X → Type 0) (o : Option X) (xs : List X) → AllByRecursion P (cons_option o xs)
    → AllByRecursion P xs
all_later P None xs h = h
all_later P (Some x) xs h = h.1

-- ---- maps

pub map_map : {X Y Z : Type 0} (f : X → Y) (g : Y → Z) (xs : List X) → map g (map f xs) ≡ map (λ (x : X). g (f x)) xs
map_map f g [] = refl
map_map f g (x ∷ more) = ap (λ zs. g (f x) ∷ zs) (map_map f g more)

pub map_same : {X Y : Type 0} (f g : X → Y) (xs : List X) → ((x : X) → f x ≡ g x) → map f xs ≡ map g xs
map_same f g [] h = refl
map_same f g (x ∷ more) h = ap (λ y. y ∷ map f more) (h x) ∙ ap (λ ys. g x ∷ ys) (map_same f g more h)

pub filter_map_same : {X Y : Type 0} (f g : X → Option Y) (xs : List X) → AllByRecursion (λ (x : X). f x ≡ g x) xs
    → filter_map f xs ≡ filter_map g xs
filter_map_same f g [] h = refl
filter_map_same f g (x ∷ more) h =
    ap (λ o. cons_option o (filter_map f more)) h.0 ∙ ap (cons_option (g x)) (filter_map_same f g more h.1)

pub filter_map_none : {X Y : Type 0} (f : X → Option Y) → ((x : X) → f x ≡ None) → (xs : List X) → filter_map f xs ≡ []
filter_map_none f h [] = refl
filter_map_none f h (x ∷ more) = ap (λ o. cons_option o (filter_map f more)) (h x) ∙ filter_map_none f h more

one_turned : {Y : Type 0} (o : Option Y) (ys : List Y) → reverse (cons_option o ys) ≡ reverse ys ++ cons_option o []
one_turned None ys = append_nothing (reverse ys)
  where
    append_nothing : {Z : Type 0} (zs : List Z) → zs ≡ zs ++ []
    append_nothing [] = refl
    append_nothing (z ∷ more) = ap (λ l. z ∷ l) (append_nothing more)
one_turned (Some y) ys = turned y ys

pub filter_map_turned : {X Y : Type 0} (f : X → Option Y) (xs : List X)
    → filter_map f (reverse xs) ≡ reverse (filter_map f xs)
filter_map_turned f [] = refl
filter_map_turned f (x ∷ more) =
    ap (filter_map f) (turned x more) ∙ filter_map-append f (reverse more) (x ∷ [])
    ∙ ap (λ l. l ++ filter_map f (x ∷ [])) (filter_map_turned f more)
    ∙ sym (one_turned (f x) (filter_map f more))

-- ---- distinct keys

module _ {X K : Type 0} (same : K → K → Bool) (key : X → K) where
  none_end : (k : K) (xs : List X) (y : X) → among same (map key xs) k ≡ false → same k (key y) ≡ false
      → among same (map key (xs ++ y ∷ [])) k ≡ false
  none_end k [] y h e = or_from (same k (key y)) false e refl
  none_end k (x ∷ more) y h e =
      let parts = or_parts (same k (key x)) (among same (map key more) k) h in
      or_from (same k (key x)) (among same (map key (more ++ y ∷ [])) k) parts.0 (none_end k more y parts.1 e)

  pub distinct_end : (xs : List X) (y : X) → AreDistinct same (map key xs)
      → AllByRecursion (λ (x : X). same (key x) (key y) ≡ false) xs → AreDistinct same (map key (xs ++ y ∷ []))
  distinct_end [] y h a = (refl, tt)
  distinct_end (x ∷ more) y h a = (none_end (key x) more y h.0 a.0, distinct_end more y h.1 a.1)

  -- of a list that has the latest first
  pub distinct_turned : (x : X) (xs : List X) → AreDistinct same (map key (reverse xs))
      → AllByRecursion (λ (y : X). same (key y) (key x) ≡ false) xs → AreDistinct same (map key (reverse (x ∷ xs)))
  distinct_turned x xs h a =
      subst (λ (l : List X). AreDistinct same (map key l)) (sym (turned x xs))
      (distinct_end (reverse xs) x h (all_turned (λ (y : X). same (key y) (key x) ≡ false) xs a))

-- ---- numbered items

pub among_at : {X : Type 0} (xs : List X) (k : ℕ) (x : X) → slice_get xs k ≡ Some x → IsAmong x xs
among_at [] k x e = absurd cc
among_at (y ∷ more) zero x e = inl (sym (same_Some _ _ e))
among_at (y ∷ more) (suc k) x e = inr (among_at more k x e)

pub at_front : {X : Type 0} (xs ys : List X) (k : ℕ) (x : X) → slice_get xs k ≡ Some x → slice_get (xs ++ ys) k ≡ Some x
at_front [] ys k x e = absurd cc
at_front (y ∷ more) ys zero x e = e
at_front (y ∷ more) ys (suc k) x e = at_front more ys k x e

-- where the last item is another
pub at_last : {X : Type 0} (xs : List X) (b c : X) (k : ℕ) (x : X) → slice_get (xs ++ b ∷ []) k ≡ Some x
    → (slice_get (xs ++ c ∷ []) k ≡ Some x) ⊎ ((x ≡ b) × (slice_get (xs ++ c ∷ []) k ≡ Some c))
at_last [] b c zero x e = inr (sym (same_Some _ _ e), refl)
at_last [] b c (suc k) x e = absurd cc
at_last (y ∷ more) b c zero x e = inl e
at_last (y ∷ more) b c (suc k) x e = at_last more b c k x e

pub numbered_at : {X : Type 0} (xs : List X) (n : ℕ) (x : X) → numbered xs n ≡ Some x → slice_get xs (n - 1) ≡ Some x
numbered_at {X} xs n x e = go (n == 0) e
  where
    go : (b : Bool) → (if b then None else slice_get xs (n - 1)) ≡ Some x → slice_get xs (n - 1) ≡ Some x
    go true h = absurd cc
    go false h = h

pub numbered_by : {X Y : Type 0} (xs : List X) (ys : List Y) (n : ℕ) (x : X) (y : Y) → numbered xs n ≡ Some x
    → slice_get ys (n - 1) ≡ Some y → numbered ys n ≡ Some y
numbered_by {X} {Y} xs ys n x y e is = go (n == 0) e
  where
    go : (b : Bool) → (if b then None else slice_get xs (n - 1)) ≡ Some x → (if b then None else slice_get ys (n - 1)) ≡ Some y
    go true h = absurd cc
    go false h = is
