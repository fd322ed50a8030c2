-- Places stand in one order, and the greatest of them is the greatest.
use Rattle.std.proofs.Common.{◌≡◌, ◌<◌, ◌⊎◌, inl, inr, Bool, true, false, cond, ◌||◌, ◌&&◌, List, [], ◌∷◌, ◌<ℤ◌, refl, sym, ap, ◌∙◌, true≢false, arith}
use Rattle.std.specs.Prelude.{int_lt, nat_lt}
use Rattle.std.specs.Ordering.{int_eq}
use Rattle.std.specs.List.{AllByRecursion}
use Rattle.std.proofs.lemmas.Int.{ints}
use Rattle.std.proofs.lemmas.Bool.{cases_Bool, cases_lt, lt-ltb, le-ltb}
use Rattle.count_spec.proofs.Integers.{int_lt-true, int_lt-false, int_eq-same, int_eq-is}
use Rattle.books_spec.specs.declared.sample_place.SamplePlace.{SamplePlace}
use Rattle.books_spec.specs.Generations.{is_before, later, greatest_place}

-- one place is before another where its datagram is, or its index in the same datagram
abbrev pub Before : SamplePlace → SamplePlace → Type 0
Before p q = (p.datagram <ℤ q.datagram) ⊎ ((p.datagram ≡ q.datagram) × (p.index < q.index))

pub before-is : (p q : SamplePlace) → is_before p q ≡ true → Before p q
before-is p q e = go (int_lt p.datagram q.datagram) refl
  where
    within : (c : Bool) → int_eq p.datagram q.datagram ≡ c → (c && nat_lt p.index q.index) ≡ true → Before p q
    within true same h = inr (int_eq-is p.datagram q.datagram same, less h)
      where
        less : nat_lt p.index q.index ≡ true → p.index < q.index
        less h =
            elim (cases_lt p.index q.index) [
              | inl below ↦ below
              | inr not_below ↦ absurd (true≢false (sym h ∙ le-ltb p.index q.index not_below))
            ]
    within false same h = absurd (true≢false (sym h))

    go : (b : Bool) → int_lt p.datagram q.datagram ≡ b → Before p q
    go true f = inl (omega (arith, ints))
    go false f =
        within (int_eq p.datagram q.datagram) refl
        (ap (λ b. b || (int_eq p.datagram q.datagram && nat_lt p.index q.index)) (sym f) ∙ e)

pub is-before : (p q : SamplePlace) → Before p q → is_before p q ≡ true
is-before p q (inl below) =
    ap (λ b. b || (int_eq p.datagram q.datagram && nat_lt p.index q.index)) (int_lt-true p.datagram q.datagram below)
is-before p q (inr h) =
    let same = h.0 in
    let less = h.1 in
    let not_below : int_lt p.datagram q.datagram ≡ false = int_lt-false p.datagram q.datagram (omega (arith, ints, same)) in
    let equal : int_eq p.datagram q.datagram ≡ true =
    ap (λ z. int_eq p.datagram z) (sym same) ∙ int_eq-same p.datagram in
    ap (λ b. b || (int_eq p.datagram q.datagram && nat_lt p.index q.index)) not_below
    ∙ ap (λ b. b && nat_lt p.index q.index) equal ∙ lt-ltb p.index q.index less

not-before : (p q : SamplePlace) → (Before p q → ⊥) → is_before p q ≡ false
not-before p q never = go (is_before p q) refl
  where
    go : (b : Bool) → is_before p q ≡ b → is_before p q ≡ false
    go true e = absurd (never (before-is p q e))
    go false e = e

pub before-itself : (p : SamplePlace) → is_before p p ≡ false
before-itself p = not-before p p never
  where
    never : Before p p → ⊥
    never (inl below) = omega (arith, ints)
    never (inr h) = let less : p.index < p.index = h.1 in omega arith

pub before-both : (p q r : SamplePlace) → is_before p q ≡ true → is_before q r ≡ true → is_before p r ≡ true
before-both p q r e f = is-before p r (go (before-is p q e) (before-is q r f))
  where
    go : Before p q → Before q r → Before p r
    go (inl a) (inl b) = inl (omega (arith, ints))
    go (inl a) (inr h) = let same : q.datagram ≡ r.datagram = h.0 in inl (omega (arith, ints))
    go (inr h) (inl b) = let same : p.datagram ≡ q.datagram = h.0 in inl (omega (arith, ints))
    go (inr h) (inr k) =
        let less : p.index < q.index = h.1 in
        let also : q.index < r.index = k.1 in
        inr (h.0 ∙ k.0, omega arith)

pub before-either : (p q : SamplePlace) → is_before p q ≡ false → is_before q p ≡ false → p ≡ q
before-either p q e f =
    let same = datagrams in
    let index = indexes same in
    λ j. record { datagram = same j; index = index j }
  where
    datagrams : p.datagram ≡ q.datagram
    datagrams =
        elim (cases_Bool (int_lt p.datagram q.datagram)) [
          | inl below ↦ absurd (true≢false (sym (is-before p q (inl (omega (arith, ints)))) ∙ e))
          | inr not_below ↦
              elim (cases_Bool (int_lt q.datagram p.datagram)) [
                | inl above ↦ absurd (true≢false (sym (is-before q p (inl (omega (arith, ints)))) ∙ f))
                | inr not_above ↦ omega (arith, ints)
              ]
        ]

    indexes : p.datagram ≡ q.datagram → p.index ≡ q.index
    indexes same =
        elim (cases_lt p.index q.index) [
          | inl below ↦ absurd (true≢false (sym (is-before p q (inr (same, below))) ∙ e))
          | inr not_below ↦
              elim (cases_lt q.index p.index) [
                | inl above ↦ absurd (true≢false (sym (is-before q p (inr (sym same, above))) ∙ f))
                | inr not_above ↦ omega arith
              ]
        ]

-- ---- the greatest place

-- where a place isn't before another, and that isn't before a third, it isn't before the third
not-before-both : (p q r : SamplePlace) → is_before q p ≡ false → is_before r q ≡ false → is_before r p ≡ false
not-before-both p q r e f = go (is_before r p) refl
  where
    go : (b : Bool) → is_before r p ≡ b → is_before r p ≡ false
    go false h = h
    go true h =
        elim (cases_Bool (is_before q r)) [
          | inl there ↦ absurd (true≢false (sym (before-both q r p there h) ∙ e))
          | inr none ↦ absurd (true≢false (sym h ∙ ap (λ x. is_before x p) (before-either r q f none) ∙ e))
        ]

later-both : (p q : SamplePlace) → (is_before (later p q) p ≡ false) × (is_before (later p q) q ≡ false)
later-both p q = go (is_before p q) refl
  where
    back : is_before p q ≡ true → (b : Bool) → is_before q p ≡ b → is_before q p ≡ false
    back e true h = absurd (true≢false (sym (before-both p q p e h) ∙ before-itself p))
    back e false h = h

    go : (b : Bool) → is_before p q ≡ b
        → (is_before (cond b q p) p ≡ false) × (is_before (cond b q p) q ≡ false)
    go true e = (back e (is_before q p) refl, before-itself q)
    go false e = (before-itself p, e)

-- the greatest is before none of the places
abbrev pub IsBeforeNone : SamplePlace → List SamplePlace → Type 0
IsBeforeNone p qs = AllByRecursion (λ q. is_before p q ≡ false) qs

none-later : (p q : SamplePlace) (more : List SamplePlace) → is_before p q ≡ false → IsBeforeNone q more → IsBeforeNone p more
none-later p q [] e h = tt
none-later p q (r ∷ more) e h = (not-before-both r q p h.0 e, none-later p q more e h.1)

pub greatest-last : (p : SamplePlace) (more : List SamplePlace) → IsBeforeNone (greatest_place (p ∷ more)) (p ∷ more)
greatest-last p [] = (before-itself p, tt)
greatest-last p (q ∷ more) =
    let both = later-both p (greatest_place (q ∷ more)) in
    let rest = greatest-last q more in
    (both.0, none-later (later p (greatest_place (q ∷ more))) (greatest_place (q ∷ more)) (q ∷ more) both.1 rest)
