-- True stretches: what holds of a list holds of each; and the current stretch.
use Rattle.std.proofs.Common.{◌≡◌, ℕ, ◌<◌, ◌≤◌, inl, inr, Bool, true, false, cond, not, ◌&&◌, List, [], ◌∷◌, map, refl, sym, ap, subst, ◌∙◌, arith}
use Rattle.std.specs.Prelude.{nat_lt, ◌==◌}
use Rattle.std.specs.List.{AllByRecursion, filter}
use Rattle.std.proofs.lemmas.Bool.{cases_order, lt-ltb, le-ltb, eqb-true, eq-eqb, ne_eqb, and_parts}
use Rattle.count_spec.specs.Stretches.{placed, with_stale}
use Rattle.count_spec.specs.TrueStretches.{newest_index, is_past, stretch_of, indexes, true_stretches, true_place}
use Rattle.count_spec.specs.declared.stretch_place.StretchPlace.{StretchPlace}
use Rattle.count_spec.specs.declared.stretch_place.StretchPlace.TheVariants.{Current, Next, Stale}
use Rattle.count_spec.proofs.TrueStretches.{AreNumbered, true_stretches-step}
use Rattle.account_laws.proofs.Lists.{AllPairs}

-- ---- a stretch with one item more

pub placed-map : {X Y : Type 0} (f : X → Y) (p : StretchPlace) (x : X) (ss : List (List X))
    → placed p (f x) (map (map f) ss) ≡ map (map f) (placed p x ss)
placed-map f Current x [] = refl
placed-map f Current x (current ∷ closed) = refl
placed-map f Next x ss = refl
placed-map f Stale x ss = refl

pub stale-map : {X Y : Type 0} (f : X → Y) (p : StretchPlace) (x : X) (xs : List X)
    → with_stale p (f x) (map f xs) ≡ map f (with_stale p x xs)
stale-map f Current x xs = refl
stale-map f Next x xs = refl
stale-map f Stale x xs = refl

-- what holds of each stretch with one item more held of each before
pub each-before : {X : Type 0} (Q : List X → Type 0) → ((x : X) (xs : List X) → Q (x ∷ xs) → Q xs) → (p : StretchPlace)
    (x : X) (ss : List (List X)) → AllByRecursion Q (placed p x ss) → AllByRecursion Q ss
each-before Q tail Current x [] h = tt
each-before Q tail Current x (current ∷ closed) h = (tail x current h.0, h.1)
each-before Q tail Next x ss h = h.1
each-before Q tail Stale x ss h = h

module _ {X : Type 0} (index : X → ℕ) where
  abbrev pub AllOf : ℕ → List X → Type 0
  AllOf i xs = AllByRecursion (λ x. index x ≡ i) xs

  -- ---- what is so of a list, and of each stretch

  abbrev in_it : ℕ → X → List X → Bool
  in_it i x before = (index x == i) && not (is_past index before x)

  pub stretch-all : (P : X → Type 0) (i : ℕ) (xs : List X) → AllByRecursion P xs → AllByRecursion P (stretch_of index i xs)
  stretch-all P i [] h = tt
  stretch-all P i (x ∷ before) h = go (in_it i x before) (stretch-all P i before h.1)
    where
      go : (b : Bool) → AllByRecursion P (stretch_of index i before)
          → AllByRecursion P (cond b (x ∷ stretch_of index i before) (stretch_of index i before))
      go true later = (h.0, later)
      go false later = later

  pub stretch-index : (i : ℕ) (xs : List X) → AllOf i (stretch_of index i xs)
  stretch-index i [] = tt
  stretch-index i (x ∷ before) = go (in_it i x before) refl (stretch-index i before)
    where
      go : (b : Bool) → in_it i x before ≡ b → AllOf i (stretch_of index i before)
          → AllOf i (cond b (x ∷ stretch_of index i before) (stretch_of index i before))
      go true e later = (eqb-true (index x) i (and_parts _ _ e).0, later)
      go false e later = later

  pub stretch-pairs : (R : X → X → Type 0) (i : ℕ) (xs : List X) → AllPairs R xs → AllPairs R (stretch_of index i xs)
  stretch-pairs R i [] h = tt
  stretch-pairs R i (x ∷ before) h = go (in_it i x before) (stretch-pairs R i before h.1)
    where
      go : (b : Bool) → AllPairs R (stretch_of index i before)
          → AllPairs R (cond b (x ∷ stretch_of index i before) (stretch_of index i before))
      go true later = (stretch-all (R x) i before h.0, later)
      go false later = later

  -- what is so of each stretch of an index
  pub each-stretch : (Q : List X → Type 0) (xs : List X) → ((i : ℕ) → Q (stretch_of index i xs))
      → AllByRecursion Q (true_stretches index xs)
  each-stretch Q xs f = go (indexes index xs)
    where
      go : (is : List ℕ) → AllByRecursion Q (map (λ i. stretch_of index i xs) is)
      go [] = tt
      go (i ∷ is) = (f i, go is)

  -- ---- the true place

  pub place-past : (x : X) (xs : List X) → index x < newest_index index xs → true_place index xs x ≡ Stale
  place-past x xs h =
      ap (λ b. cond b Stale (cond (nat_lt (newest_index index xs) (index x)) Next Current)) (lt-ltb (index x) (newest_index index xs) h)

  pub place-later : (x : X) (xs : List X) → newest_index index xs < index x → true_place index xs x ≡ Next
  place-later x xs h =
      ap (λ b. cond b Stale (cond (nat_lt (newest_index index xs) (index x)) Next Current))
      (le-ltb (index x) (newest_index index xs) (omega arith))
      ∙ ap (λ b. cond b Next Current) (lt-ltb (newest_index index xs) (index x) h)

  pub place-same : (x : X) (xs : List X) → index x ≡ newest_index index xs → true_place index xs x ≡ Current
  place-same x xs h =
      ap (λ b. cond b Stale (cond (nat_lt (newest_index index xs) (index x)) Next Current))
      (le-ltb (index x) (newest_index index xs) (omega arith))
      ∙ ap (λ b. cond b Next Current) (le-ltb (newest_index index xs) (index x) (omega arith))

  -- ---- the current stretch: all items of the newest index

  abbrev pub all_of : ℕ → List X → List X
  all_of i xs = filter (λ x. index x == i) xs

  pub record HasCurrent (xs : List X) : Type 0 where
    pub head : X
    pub tail : List X
    pub closed : List (List X)
    pub are : true_stretches index xs ≡ (head ∷ tail) ∷ closed
    pub is : head ∷ tail ≡ stretch_of index (newest_index index xs) xs

  -- of the newest index none is past
  pub whole : (i : ℕ) (xs : List X) → newest_index index xs ≤ i → stretch_of index i xs ≡ all_of i xs
  whole i [] h = refl
  whole i (x ∷ before) h =
      step (index x == i) refl ∙ ap (λ s. cond (index x == i) (x ∷ s) s) (whole i before (omega arith))
    where
      s : List X
      s = stretch_of index i before

      step : (b : Bool) → (index x == i) ≡ b
          → cond (b && not (is_past index before x)) (x ∷ s) s ≡ cond b (x ∷ s) s
      step true e =
          let same : index x ≡ i = eqb-true (index x) i e in
          ap (λ c. cond (not c) (x ∷ s) s) (le-ltb (index x) (newest_index index before) (omega arith))
      step false e = refl

  -- an item of an index that isn't past is in that stretch
  pub joins : (x : X) (before : List X) → newest_index index before ≤ index x
      → stretch_of index (index x) (x ∷ before) ≡ x ∷ stretch_of index (index x) before
  joins x before h =
      let s : List X = stretch_of index (index x) before in
      ap (λ b. cond (b && not (is_past index before x)) (x ∷ s) s) (eq-eqb (index x) (index x) refl)
      ∙ ap (λ c. cond (not c) (x ∷ s) s) (le-ltb (index x) (newest_index index before) h)

  -- of a later index there is none
  pub none-yet : (i : ℕ) (xs : List X) → newest_index index xs < i → stretch_of index i xs ≡ []
  none-yet i [] h = refl
  none-yet i (x ∷ before) h =
      let s : List X = stretch_of index i before in
      ap (λ b. cond (b && not (is_past index before x)) (x ∷ s) s)
      (ne_eqb (index x) i (λ e. omega arith))
      ∙ none-yet i before (omega arith)

  -- an item of a later index begins a stretch
  opens : (x : X) (before : List X) → AreNumbered index (x ∷ before) → newest_index index before < index x
      → HasCurrent (x ∷ before)
  opens x before numbered above =
      let top : newest_index index (x ∷ before) ≡ index x = omega arith in
      record {
        head = x;
        tail = [];
        closed = true_stretches index before;
        are = true_stretches-step index x before numbered
            ∙ ap (λ p. placed p x (true_stretches index before)) (place-later x before above);
        is = sym (ap (λ i. stretch_of index i (x ∷ before)) top ∙ joins x before (omega arith)
            ∙ ap (λ s. x ∷ s) (none-yet (index x) before above));
      }

  -- a past one changes nothing
  passes : (x : X) (us : List X) → AreNumbered index (x ∷ us) → HasCurrent us → index x < newest_index index us
      → HasCurrent (x ∷ us)
  passes x us numbered c earlier =
      let top : newest_index index (x ∷ us) ≡ newest_index index us = omega arith in
      let s : List X = stretch_of index (newest_index index us) us in
      let other : stretch_of index (newest_index index us) (x ∷ us) ≡ s =
      ap (λ b. cond (b && not (is_past index us x)) (x ∷ s) s) (ne_eqb (index x) (newest_index index us) (λ e. omega arith)) in
      record {
        head = c.head;
        tail = c.tail;
        closed = c.closed;
        are = true_stretches-step index x us numbered
            ∙ ap (λ p. placed p x (true_stretches index us)) (place-past x us earlier) ∙ c.are;
        is = c.is ∙ sym (ap (λ i. stretch_of index i (x ∷ us)) top ∙ other);
      }

  -- one of the same index joins it
  stays : (x : X) (us : List X) → AreNumbered index (x ∷ us) → HasCurrent us → index x ≡ newest_index index us
      → HasCurrent (x ∷ us)
  stays x us numbered c same =
      let top : newest_index index (x ∷ us) ≡ index x = omega arith in
      record {
        head = x;
        tail = c.head ∷ c.tail;
        closed = c.closed;
        are = true_stretches-step index x us numbered
            ∙ ap (λ p. placed p x (true_stretches index us)) (place-same x us same)
            ∙ ap (λ ss. placed Current x ss) c.are;
        is = sym (ap (λ i. stretch_of index i (x ∷ us)) top ∙ joins x us (omega arith)
            ∙ ap (λ i. x ∷ stretch_of index i us) same ∙ ap (λ s. x ∷ s) (sym c.is));
      }

  pub current : (x : X) (before : List X) → AreNumbered index (x ∷ before) → HasCurrent (x ∷ before)
  current x [] numbered = let one : 1 ≤ index x = numbered.0 in opens x [] numbered (omega arith)
  current x (y ∷ more) numbered =
      let c : HasCurrent (y ∷ more) = current y more numbered.1 in
      elim (cases_order (index x) (newest_index index (y ∷ more))) [
        | inl same ↦ stays x (y ∷ more) numbered c same
        | inr other ↦ elim other [
          | inl earlier ↦ passes x (y ∷ more) numbered c earlier
          | inr above ↦ opens x (y ∷ more) numbered above
        ]
      ]

  -- the current stretch is all there is of the newest index
  pub current-all : (xs : List X) (c : HasCurrent xs) → c.head ∷ c.tail ≡ all_of (newest_index index xs) xs
  current-all xs c = c.is ∙ whole (newest_index index xs) xs (omega arith)

  pub current-of : (xs : List X) (c : HasCurrent xs) → AllOf (newest_index index xs) (c.head ∷ c.tail)
  current-of xs c = subst (AllOf (newest_index index xs)) (sym c.is) (stretch-index (newest_index index xs) xs)

  pub current-has : (P : X → Type 0) (xs : List X) (c : HasCurrent xs) → AllByRecursion P xs
      → AllByRecursion P (c.head ∷ c.tail)
  current-has P xs c h = subst (AllByRecursion P) (sym c.is) (stretch-all P (newest_index index xs) xs h)

  pub current-pairs : (R : X → X → Type 0) (xs : List X) (c : HasCurrent xs) → AllPairs R xs → AllPairs R (c.head ∷ c.tail)
  current-pairs R xs c h = subst (AllPairs R) (sym c.is) (stretch-pairs R (newest_index index xs) xs h)
