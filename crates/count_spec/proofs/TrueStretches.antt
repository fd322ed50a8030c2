-- True stretches, one item further.
use Rattle.std.proofs.Common.{◌≡◌, ◌≢◌, ℕ, ◌<◌, ◌≤◌, max, inl, inr, Bool, true, false, cond, not, ◌&&◌, List, [], ◌∷◌, map, refl, sym, ap, subst, ◌∙◌, arith}
use Rattle.std.specs.Prelude.{nat_lt, ◌==◌}
use Rattle.std.specs.List.{AllByRecursion}
use Rattle.std.proofs.lemmas.Bool.{cases_lt, lt-ltb, le-ltb, eq-eqb, ne_eqb}
use Rattle.count_spec.specs.Stretches.{placed, with_stale}
use Rattle.count_spec.specs.TrueStretches.{newest_index, is_past, stretch_of, indexes, true_stretches, past_items, true_place}
use Rattle.count_spec.specs.declared.stretch_place.StretchPlace.TheVariants.{Current, Next, Stale}

-- each is less
abbrev pub AreBelow : ℕ → List ℕ → Type 0
AreBelow n is = AllByRecursion (λ i. i < n) is

below-more : (n m : ℕ) (is : List ℕ) → n ≤ m → AreBelow n is → AreBelow m is
below-more n m [] h b = tt
below-more n m (i ∷ is) h b = let first : i < n = b.0 in (omega arith, below-more n m is h b.1)

module _ {X : Type 0} (index : X → ℕ) where
  -- ---- one stretch

  -- an item of another index, or a past one, leaves a stretch as it is
  other-index : (i : ℕ) (x : X) (before : List X) → index x ≢ i
      → stretch_of index i (x ∷ before) ≡ stretch_of index i before
  other-index i x before apart =
      ap (λ b. cond (b && not (is_past index before x)) (x ∷ stretch_of index i before) (stretch_of index i before))
      (ne_eqb (index x) i apart)

  past-item : (i : ℕ) (x : X) (before : List X) → is_past index before x ≡ true
      → stretch_of index i (x ∷ before) ≡ stretch_of index i before
  past-item i x before past = go (index x == i)
    where
      go : (b : Bool) → cond (b && not (is_past index before x)) (x ∷ stretch_of index i before) (stretch_of index i before)
          ≡ stretch_of index i before
      go true = ap (λ c. cond (not c) (x ∷ stretch_of index i before) (stretch_of index i before)) past
      go false = refl

  own-item : (x : X) (before : List X) → is_past index before x ≡ false
      → stretch_of index (index x) (x ∷ before) ≡ x ∷ stretch_of index (index x) before
  own-item x before present =
      let s : List X = stretch_of index (index x) before in
      ap (λ b. cond (b && not (is_past index before x)) (x ∷ s) s) (eq-eqb (index x) (index x) refl)
      ∙ ap (λ c. cond (not c) (x ∷ s) s) present

  -- of a later index there is none yet
  none-yet : (i : ℕ) (xs : List X) → newest_index index xs < i → stretch_of index i xs ≡ []
  none-yet i [] h = refl
  none-yet i (x ∷ before) h =
      other-index i x before (λ e. omega arith) ∙ none-yet i before (omega arith)

  -- stretches of lesser indexes stay as they are
  lesser-stay : (x : X) (before : List X) (is : List ℕ) → AreBelow (index x) is
      → map (λ i. stretch_of index i (x ∷ before)) is ≡ map (λ i. stretch_of index i before) is
  lesser-stay x before [] h = refl
  lesser-stay x before (i ∷ is) h =
      let first : i < index x = h.0 in
      let here = other-index i x before (λ e. omega arith) in
      let later = lesser-stay x before is h.1 in
      λ j. here j ∷ later j

  past-stay : (x : X) (before : List X) (is : List ℕ) → is_past index before x ≡ true
      → map (λ i. stretch_of index i (x ∷ before)) is ≡ map (λ i. stretch_of index i before) is
  past-stay x before [] past = refl
  past-stay x before (i ∷ is) past =
      let here = past-item i x before past in
      let later = past-stay x before is past in
      λ j. here j ∷ later j

  -- ---- the indexes: the newest, and lesser ones

  pub record Newest (xs : List X) : Type 0 where
    pub others : List ℕ
    pub are : indexes index xs ≡ newest_index index xs ∷ others
    pub below : AreBelow (newest_index index xs) others

  newest-more : (x : X) (xs : List X) → Newest xs → Newest (x ∷ xs)
  newest-more x xs h =
      elim (cases_lt (newest_index index xs) (index x)) [
        | inl above ↦
            let e : nat_lt (newest_index index xs) (index x) ≡ true = lt-ltb (newest_index index xs) (index x) above in
            let m : max (index x) (newest_index index xs) ≡ index x = omega arith in
            record {
              others = newest_index index xs ∷ h.others;
              are = ap (λ b. cond b (index x ∷ indexes index xs) (indexes index xs)) e
                  ∙ (λ j. sym m j ∷ h.are j);
              below = subst (λ (n : ℕ). AreBelow n (newest_index index xs ∷ h.others)) (sym m)
                  (above, below-more (newest_index index xs) (index x) h.others (omega arith) h.below);
            }
        | inr not_above ↦
            let e : nat_lt (newest_index index xs) (index x) ≡ false =
            le-ltb (newest_index index xs) (index x) not_above in
            let m : max (index x) (newest_index index xs) ≡ newest_index index xs = omega arith in
            record {
              others = h.others;
              are = ap (λ b. cond b (index x ∷ indexes index xs) (indexes index xs)) e ∙ h.are
                  ∙ ap (λ n. n ∷ h.others) (sym m);
              below = subst (λ (n : ℕ). AreBelow n h.others) (sym m) h.below;
            }
      ]

  -- indexes are counted from 1
  abbrev pub AreNumbered : List X → Type 0
  AreNumbered xs = AllByRecursion (λ x. 1 ≤ index x) xs

  newest-of : (x : X) (before : List X) → AreNumbered (x ∷ before) → Newest (x ∷ before)
  newest-of x [] h =
      let one : 1 ≤ index x = h.0 in
      let e : nat_lt 0 (index x) ≡ true = lt-ltb 0 (index x) (omega arith) in
      let m : max (index x) 0 ≡ index x = omega arith in
      record {
        others = [];
        are = ap (λ b. cond b (index x ∷ []) []) e ∙ ap (λ n. n ∷ []) (sym m);
        below = tt;
      }
  newest-of x (y ∷ before) h = newest-more x (y ∷ before) (newest-of y before h.1)

  -- ---- one item more

  step-past : (x : X) (before : List X) → index x < newest_index index before
      → true_stretches index (x ∷ before) ≡ placed (true_place index before x) x (true_stretches index before)
  step-past x before past =
      let e : is_past index before x ≡ true = lt-ltb (index x) (newest_index index before) past in
      let f : nat_lt (newest_index index before) (index x) ≡ false =
      le-ltb (newest_index index before) (index x) (omega arith) in
      let place : true_place index before x ≡ Stale =
      ap (λ b. cond b Stale (cond (nat_lt (newest_index index before) (index x)) Next Current)) e in
      ap (λ b. map (λ i. stretch_of index i (x ∷ before)) (cond b (index x ∷ indexes index before) (indexes index before))) f
      ∙ past-stay x before (indexes index before) e
      ∙ ap (λ p. placed p x (true_stretches index before)) (sym place)

  -- those of the newest index and of others are all less than a later one
  lesser : (i : ℕ) (before : List X) → AreNumbered before → newest_index index before < i
      → AreBelow i (indexes index before)
  lesser i [] h above = tt
  lesser i (y ∷ before) h above =
      let n = newest-of y before h in
      subst (λ (is : List ℕ). AreBelow i is) (sym n.are)
      (above, below-more (newest_index index (y ∷ before)) i n.others (omega arith) n.below)

  step-next : (x : X) (before : List X) → AreNumbered before → newest_index index before < index x
      → true_stretches index (x ∷ before) ≡ placed (true_place index before x) x (true_stretches index before)
  step-next x before numbered above =
      let e : is_past index before x ≡ false = le-ltb (index x) (newest_index index before) (omega arith) in
      let f : nat_lt (newest_index index before) (index x) ≡ true =
      lt-ltb (newest_index index before) (index x) above in
      let place : true_place index before x ≡ Next =
      ap (λ b. cond b Stale (cond (nat_lt (newest_index index before) (index x)) Next Current)) e
      ∙ ap (λ b. cond b Next Current) f in
      let first : stretch_of index (index x) (x ∷ before) ≡ x ∷ [] =
      own-item x before e ∙ ap (λ s. x ∷ s) (none-yet (index x) before above) in
      let others = lesser-stay x before (indexes index before) (lesser (index x) before numbered above) in
      ap (λ b. map (λ i. stretch_of index i (x ∷ before)) (cond b (index x ∷ indexes index before) (indexes index before))) f
      ∙ (λ j. first j ∷ others j)
      ∙ ap (λ p. placed p x (true_stretches index before)) (sym place)

  step-current : (x y : X) (before : List X) → AreNumbered (y ∷ before) → index x ≡ newest_index index (y ∷ before)
      → true_stretches index (x ∷ y ∷ before)
      ≡ placed (true_place index (y ∷ before) x) x (true_stretches index (y ∷ before))
  step-current x y before numbered same =
      let us : List X = y ∷ before in
      let n = newest-of y before numbered in
      let e : is_past index us x ≡ false = le-ltb (index x) (newest_index index us) (omega arith) in
      let f : nat_lt (newest_index index us) (index x) ≡ false =
      le-ltb (newest_index index us) (index x) (omega arith) in
      let place : true_place index us x ≡ Current =
      ap (λ b. cond b Stale (cond (nat_lt (newest_index index us) (index x)) Next Current)) e
      ∙ ap (λ b. cond b Next Current) f in
      let are : indexes index us ≡ index x ∷ n.others = n.are ∙ ap (λ i. i ∷ n.others) (sym same) in
      let first = own-item x us e in
      let others = lesser-stay x us n.others (subst (λ (i : ℕ). AreBelow i n.others) (sym same) n.below) in
      ap (λ b. map (λ i. stretch_of index i (x ∷ us)) (cond b (index x ∷ indexes index us) (indexes index us))) f
      ∙ ap (λ is. map (λ i. stretch_of index i (x ∷ us)) is) are
      ∙ (λ j. first j ∷ others j)
      ∙ ap (λ is. placed Current x (map (λ i. stretch_of index i us) is)) (sym are)
      ∙ ap (λ p. placed p x (true_stretches index us)) (sym place)

  pub true_stretches-step : (x : X) (before : List X) → AreNumbered (x ∷ before)
      → true_stretches index (x ∷ before) ≡ placed (true_place index before x) x (true_stretches index before)
  true_stretches-step x before numbered =
      elim (cases_lt (index x) (newest_index index before)) [
        | inl past ↦ step-past x before past
        | inr not_past ↦
            elim (cases_lt (newest_index index before) (index x)) [
              | inl above ↦ step-next x before numbered.1 above
              | inr not_above ↦ same before numbered (omega arith)
            ]
      ]
    where
      same : (xs : List X) → AreNumbered (x ∷ xs) → index x ≡ newest_index index xs
          → true_stretches index (x ∷ xs) ≡ placed (true_place index xs x) x (true_stretches index xs)
      same [] h e = let one : 1 ≤ index x = h.0 in absurd (omega arith)
      same (y ∷ more) h e = step-current x y more h.1 e

  -- the past items alike
  pub past_items-step : (x : X) (before : List X)
      → past_items index (x ∷ before) ≡ with_stale (true_place index before x) x (past_items index before)
  past_items-step x before = go (is_past index before x) (nat_lt (newest_index index before) (index x))
    where
      go : (b c : Bool) → cond b (x ∷ past_items index before) (past_items index before)
          ≡ with_stale (cond b Stale (cond c Next Current)) x (past_items index before)
      go true c = refl
      go false true = refl
      go false false = refl
