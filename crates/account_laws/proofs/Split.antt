-- Where resets are apparent the generations that the rule finds are the true ones.
use Rattle.std.proofs.Common.{◌≡◌, ℕ, ◌<◌, ◌≤◌, ◌⊎◌, inl, inr, Bool, true, false, cond, List, [], ◌∷◌, ℤ, arith, refl, sym, ap, subst, ◌∙◌}
use Rattle.std.specs.List.{AllByRecursion}
use Rattle.std.proofs.lemmas.Bool.{cases_order}
use Rattle.count_spec.specs.Windows.{greatest}
use Rattle.count_spec.specs.Stretches.{placed, with_stale}
use Rattle.count_spec.specs.TrueStretches.{true_stretches, past_items, true_place}
use Rattle.count_spec.specs.declared.stretch_place.StretchPlace.{StretchPlace}
use Rattle.count_spec.specs.declared.stretch_place.StretchPlace.TheVariants.{Current, Next, Stale}
use Rattle.count_spec.proofs.TrueStretches.{AreNumbered, true_stretches-step, past_items-step}
use Rattle.books_spec.specs.declared.sample_place.SamplePlace.{SamplePlace}
use Rattle.books_spec.specs.Generations.{is_before, opens, is_before_opening, generation_place, generations, stale_samples}
use Rattle.account_spec.specs.TrueNumbers.{AreClose}
use Rattle.account_spec.specs.Arrivals.{Arrived, generation_of, sample_number, sample_numbers}
use Rattle.account_spec.specs.Apparent.{first_generation, DoesNotRise}
use Rattle.account_laws.specs.Found.{EachIsClose, first_of, IsNotBefore, EachIsApparent}
use Rattle.account_laws.proofs.Lists.{all-both}
use Rattle.account_laws.proofs.Parts.{AllOf, each-before, place-past, place-later, place-same, HasCurrent, current, current-all, current-of, current-has, current-pairs}
use Rattle.account_laws.proofs.Orders.{AreTwo, AreInOrder, before-moved, earlier-before}
use Rattle.account_laws.proofs.Opened.{newest, mark_shown, place_less, newest-all, truly_opens, opens-is, not-before, same-not, later-opens, opening-is, first-all}

-- ---- how many generations there are

abbrev closed_of : List (List Arrived) → List (List Arrived)
closed_of [] = []
closed_of (current ∷ closed) = closed

-- there are others exactly where the first sample isn't of the newest generation
pub record HasOthers (closed : List (List Arrived)) : Type 0 where
  pub last : List Arrived
  pub more : List (List Arrived)
  pub are : closed ≡ last ∷ more

abbrev IsOneOrMore : List Arrived → Type 0
IsOneOrMore xs =
    ((first_generation xs ≡ newest xs) × (closed_of (true_stretches generation_of xs) ≡ []))
    ⊎ ((first_generation xs < newest xs) × HasOthers (closed_of (true_stretches generation_of xs)))

one-or-more : (x : Arrived) (before : List Arrived) → AreNumbered generation_of (x ∷ before) → EachIsApparent (x ∷ before)
    → IsOneOrMore (x ∷ before)
one-or-more x [] numbered apparent =
    let one : 1 ≤ generation_of x = numbered.0 in
    inl (
      omega arith,
      ap closed_of (true_stretches-step generation_of x [] numbered
          ∙ ap (λ p. placed p x []) (place-later generation_of x [] (omega arith))),
    )
one-or-more x (y ∷ more) numbered apparent =
    let us : List Arrived = y ∷ more in
    let known : first_generation us ≤ generation_of x = apparent.0.known in
    let c : HasCurrent generation_of us = current generation_of y more numbered.1 in
    let step = true_stretches-step generation_of x us numbered in
    elim (cases_order (generation_of x) (newest us)) [
      | inl same ↦ stays c (step ∙ ap (λ p. placed p x (true_stretches generation_of us)) (place-same generation_of x us same)
          ∙ ap (λ ss. placed Current x ss) c.are) (omega arith) (one-or-more y more numbered.1 apparent.1)
      | inr other ↦ elim other [
        | inl earlier ↦ passes (step ∙ ap (λ p. placed p x (true_stretches generation_of us)) (place-past generation_of x us earlier))
            (omega arith) (omega arith) (one-or-more y more numbered.1 apparent.1)
        | inr above ↦ opened c (step ∙ ap (λ p. placed p x (true_stretches generation_of us)) (place-later generation_of x us above)
            ∙ ap (λ ss. (x ∷ []) ∷ ss) c.are) (one-or-more y more numbered.1 apparent.1) above
      ]
    ]
  where
    us : List Arrived
    us = y ∷ more

    stays : (c : HasCurrent generation_of us)
        → true_stretches generation_of (x ∷ us) ≡ (x ∷ c.head ∷ c.tail) ∷ c.closed
        → newest (x ∷ us) ≡ newest us → IsOneOrMore us → IsOneOrMore (x ∷ us)
    stays c are top (inl (e, none)) = inl (e ∙ sym top, ap closed_of are ∙ sym (ap closed_of c.are) ∙ none)
    stays c are top (inr (less, others)) = inr (
      omega arith,
      record {
        last = others.last;
        more = others.more;
        are = ap closed_of are ∙ sym (ap closed_of c.are) ∙ others.are;
      },
    )

    passes : true_stretches generation_of (x ∷ us) ≡ true_stretches generation_of us → newest (x ∷ us) ≡ newest us
        → first_generation us < newest us → IsOneOrMore us → IsOneOrMore (x ∷ us)
    passes are top less (inl (e, none)) = absurd (omega arith)
    passes are top less (inr (l, others)) = inr (
      omega arith,
      record {
        last = others.last;
        more = others.more;
        are = ap closed_of are ∙ others.are;
      },
    )

    opened : (c : HasCurrent generation_of us)
        → true_stretches generation_of (x ∷ us) ≡ (x ∷ []) ∷ (c.head ∷ c.tail) ∷ c.closed
        → IsOneOrMore us → newest us < generation_of x → IsOneOrMore (x ∷ us)
    opened c are known above = inr (low known, record { last = c.head ∷ c.tail; more = c.closed; are = ap closed_of are })
      where
        low : IsOneOrMore us → first_generation (x ∷ us) < newest (x ∷ us)
        low (inl (e, none)) = omega arith
        low (inr (l, others)) = omega arith

-- ---- one sample

pub record AreSound (xs : List Arrived) : Type 0 where
  pub numbered : AreNumbered generation_of xs
  pub order : AreInOrder xs
  pub close : EachIsClose generation_of sample_number xs
  pub apparent : EachIsApparent xs

pub close-tail : (n : ℤ) (ns : List ℤ) → AreClose (n ∷ ns) → AreClose ns
close-tail n ns h = h.1

pub sound-before : (x y : Arrived) (before : List Arrived) → AreSound (x ∷ y ∷ before) → AreSound (y ∷ before)
sound-before x y before h = record {
  numbered = h.numbered.1;
  order = h.order.1;
  close = each-before (λ (s : List Arrived). AreClose (sample_numbers s)) (λ z zs k. k.1)
      (true_place generation_of (y ∷ before) x) x (true_stretches generation_of (y ∷ before))
      (subst (AllByRecursion (λ (s : List Arrived). AreClose (sample_numbers s)))
      (true_stretches-step generation_of x (y ∷ before) h.numbered) h.close);
  apparent = h.apparent.1;
}

module _ (c : ℤ) (width : ℕ) (x y : Arrived) (before : List Arrived) (sound : AreSound (x ∷ y ∷ before)) where
  abbrev us : List Arrived
  us = y ∷ before

  abbrev cur : HasCurrent generation_of us
  cur = current generation_of y before sound.numbered.1

  abbrev place_after : List (List Arrived) → StretchPlace
  place_after closed = generation_place (place_less c) mark_shown width ((cur.head ∷ cur.tail) ∷ closed) x

  of : AllOf generation_of (newest us) (cur.head ∷ cur.tail)
  of = current-of generation_of us cur

  order : AreInOrder (cur.head ∷ cur.tail)
  order = current-pairs generation_of AreTwo us cur sound.order.1

  two : AllByRecursion (AreTwo x) (cur.head ∷ cur.tail)
  two = current-has generation_of (AreTwo x) us cur sound.order.0

  close : AreClose (sample_numbers (cur.head ∷ cur.tail))
  close = (subst (AllByRecursion (λ (s : List Arrived). AreClose (sample_numbers s))) cur.are
      (sound-before x y before sound).close).0

  opens-truly : opens (place_less c) mark_shown width (cur.head ∷ cur.tail) x ≡ truly_opens c width cur.head cur.tail x
  opens-truly = opens-is c width (newest us) cur.head cur.tail x of order close

  by : (closed : List (List Arrived)) (b d : Bool) (p : StretchPlace)
      → opens (place_less c) mark_shown width (cur.head ∷ cur.tail) x ≡ b
      → is_before_opening (place_less c) mark_shown (cur.head ∷ cur.tail) closed x ≡ d
      → cond b Next (cond d Stale Current) ≡ p → place_after closed ≡ p
  by closed b d p e f g = (λ j. cond (e j) Next (cond (f j) Stale Current)) ∙ g

  -- of a later generation
  on_later : newest us < generation_of x → place_after cur.closed ≡ Next
  on_later above =
      by cur.closed true (is_before_opening (place_less c) mark_shown (cur.head ∷ cur.tail) cur.closed x) Next
      (opens-truly ∙ later-opens c width (newest us) cur.head cur.tail x above of two
      (subst (λ (xs : List Arrived). DoesNotRise (sample_number x) (greatest (sample_numbers xs)))
      (sym (current-all generation_of us cur)) (sound.apparent.0.number above)))
      refl refl

  before_opening : (last : List Arrived) (more : List (List Arrived)) (b : Bool)
      → is_before x.place (first_of cur.head cur.tail).place ≡ b
      → is_before_opening (place_less c) mark_shown (cur.head ∷ cur.tail) (last ∷ more) x ≡ b
  before_opening last more b e =
      ap (λ (p : SamplePlace). is_before (place_less c x) p) (opening-is c width cur.head cur.tail)
      ∙ before-moved c x.place (first_of cur.head cur.tail).place ∙ e

  -- of an earlier one
  on_earlier : generation_of x < newest us → HasOthers cur.closed → place_after cur.closed ≡ Stale
  on_earlier earlier others =
      let each = all-both (AreTwo x) (λ (z : Arrived). generation_of z ≡ newest us)
      (λ (z : Arrived). is_before x.place z.place ≡ true)
      (λ z t e. earlier-before x z t (omega arith)) (cur.head ∷ cur.tail) two of in
      ap place_after others.are
      ∙ by (others.last ∷ others.more) false true Stale
      (opens-truly ∙ not-before c width cur.head cur.tail x
      (newest-all (λ (z : Arrived). is_before x.place z.place ≡ true) cur.head cur.tail each))
      (before_opening others.last others.more true
      (first-all (λ (z : Arrived). is_before x.place z.place ≡ true) cur.head cur.tail each)) refl

  -- of the same one
  near_x : generation_of x ≡ newest us → AreClose (sample_numbers (x ∷ cur.head ∷ cur.tail))
  near_x same = (subst (AllByRecursion (λ (s : List Arrived). AreClose (sample_numbers s)))
      (true_stretches-step generation_of x us sound.numbered
      ∙ ap (λ p. placed p x (true_stretches generation_of us)) (place-same generation_of x us same)
      ∙ ap (λ ss. placed Current x ss) cur.are) sound.close).0

  on_same : generation_of x ≡ newest us → (cur.closed ≡ []) ⊎ (HasOthers cur.closed × (first_generation us < newest us))
      → place_after cur.closed ≡ Current
  on_same same (inl none) =
      ap place_after none
      ∙ by [] false false Current
      (opens-truly ∙ same-not c width (newest us) cur.head cur.tail x same of two (near_x same)) refl refl
  on_same same (inr (others, less)) =
      ap place_after others.are
      ∙ by (others.last ∷ others.more) false false Current
      (opens-truly ∙ same-not c width (newest us) cur.head cur.tail x same of two (near_x same))
      (before_opening others.last others.more false
      (subst (IsNotBefore x.place) (sym (current-all generation_of us cur)) (sound.apparent.0.behind same less))) refl

  closed_is : cur.closed ≡ closed_of (true_stretches generation_of us)
  closed_is = sym (ap closed_of cur.are)

  by-count : IsOneOrMore us → place_after cur.closed ≡ true_place generation_of us x
  by-count count = elim (cases_order (generation_of x) (newest us)) [
    | inl same ↦ on_same same (shape count) ∙ sym (place-same generation_of x us same)
    | inr other ↦ elim other [
      | inl earlier ↦ on_earlier earlier (others earlier count) ∙ sym (place-past generation_of x us earlier)
      | inr above ↦ on_later above ∙ sym (place-later generation_of x us above)
    ]
  ]
    where
      shape : IsOneOrMore us → (cur.closed ≡ []) ⊎ (HasOthers cur.closed × (first_generation us < newest us))
      shape (inl (e, none)) = inl (closed_is ∙ none)
      shape (inr (less, o)) = inr (record { last = o.last; more = o.more; are = closed_is ∙ o.are }, less)

      others : generation_of x < newest us → IsOneOrMore us → HasOthers cur.closed
      others earlier (inl (e, none)) = let k : first_generation us ≤ generation_of x = sound.apparent.0.known in absurd (omega arith)
      others earlier (inr (less, o)) = record { last = o.last; more = o.more; are = closed_is ∙ o.are }

  -- The rule finds the true place
  pub place-is : generation_place (place_less c) mark_shown width (true_stretches generation_of us) x ≡ true_place generation_of us x
  place-is = ap (λ ss. generation_place (place_less c) mark_shown width ss x) cur.are
      ∙ by-count (one-or-more y before sound.numbered.1 sound.apparent.1)

-- ---- all samples

pub generations-are : (c : ℤ) (width : ℕ) (xs : List Arrived) → AreSound xs
    → generations (place_less c) mark_shown width xs ≡ true_stretches generation_of xs
generations-are c width [] sound = refl
generations-are c width (x ∷ []) sound =
    let one : 1 ≤ generation_of x = sound.numbered.0 in
    sym (true_stretches-step generation_of x [] sound.numbered
    ∙ ap (λ p. placed p x []) (place-later generation_of x [] (omega arith)))
generations-are c width (x ∷ y ∷ before) sound =
    ap (λ gs. placed (generation_place (place_less c) mark_shown width gs x) x gs)
    (generations-are c width (y ∷ before) (sound-before x y before sound))
    ∙ ap (λ p. placed p x (true_stretches generation_of (y ∷ before))) (place-is c width x y before sound)
    ∙ sym (true_stretches-step generation_of x (y ∷ before) sound.numbered)

pub stale-are : (c : ℤ) (width : ℕ) (xs : List Arrived) → AreSound xs
    → stale_samples (place_less c) mark_shown width xs ≡ past_items generation_of xs
stale-are c width [] sound = refl
stale-are c width (x ∷ []) sound =
    let one : 1 ≤ generation_of x = sound.numbered.0 in
    sym (past_items-step generation_of x []
    ∙ ap (λ p. with_stale p x []) (place-later generation_of x [] (omega arith)))
stale-are c width (x ∷ y ∷ before) sound =
    ap (λ gs. with_stale (generation_place (place_less c) mark_shown width gs x) x
    (stale_samples (place_less c) mark_shown width (y ∷ before)))
    (generations-are c width (y ∷ before) (sound-before x y before sound))
    ∙ ap (λ p. with_stale p x (stale_samples (place_less c) mark_shown width (y ∷ before))) (place-is c width x y before sound)
    ∙ ap (with_stale (true_place generation_of (y ∷ before) x) x) (stale-are c width (y ∷ before) (sound-before x y before sound))
    ∙ sym (past_items-step generation_of x (y ∷ before))
