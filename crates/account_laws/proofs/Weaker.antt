-- What is assumed of the whole implies what is found out item by item.
use Rattle.std.proofs.Common.{◌≡◌, ℕ, ◌<◌, ◌≤◌, inl, inr, Bool, true, false, cond, not, ◌&&◌, List, [], ◌∷◌, map, ℤ, arith, refl, sym, ap, subst, ◌∙◌}
use Rattle.std.specs.Prelude.{◌==◌}
use Rattle.std.specs.List.{AllByRecursion, filter}
use Rattle.std.proofs.lemmas.Bool.{cases_order, eqb-true, eq-eqb, ne_eqb, ltb-false}
use Rattle.count_spec.specs.TrueStretches.{newest_index, is_past, stretch_of}
use Rattle.books_spec.specs.declared.sample_place.SamplePlace.{SamplePlace}
use Rattle.books_spec.specs.Generations.{is_before}
use Rattle.account_spec.specs.TrueNumbers.{IsClose, AreClose}
use Rattle.account_spec.specs.Arrivals.{Arrived, generation_of}
use Rattle.account_spec.specs.Close.{AreCloseEach}
use Rattle.account_spec.specs.Apparent.{first_generation, of_generation, StandsBehind, OpenApparently, AreApparent}
use Rattle.account_laws.specs.Found.{EachIsClose, IsNotBefore, EachIsApparent}
use Rattle.account_laws.proofs.Parts.{whole, each-stretch}
use Rattle.account_laws.proofs.Opened.{newest}
use Rattle.std.proofs.lemmas.Bool.{cases_lt}
use Rattle.std.proofs.Common.{◌++◌}
use Rattle.books_spec.specs.declared.limits.Limits.{Limits}
use Rattle.agent_spec.specs.Sources.{Source}
use Rattle.account_spec.specs.Histories.{SubAgent, stream_in, flow_sources, counter_sources}
use Rattle.account_spec.specs.Deliveries.{Delivery, boot_of, number_of, deliveries_of, id_of}
use Rattle.account_spec.specs.Arrivals.{sample_number, source_boots}
use Rattle.account_spec.specs.Close.{AreCloseSamples}
use Rattle.account_spec.specs.Premises.{OfEachSource, Premises}
use Rattle.account_laws.specs.Found.{AreFound, LesserPremises}
use Rattle.account_laws.proofs.Lists.{all-both, all-imply}

-- ---- numbers

module _ {X : Type 0} (index : X → ℕ) (number : X → ℤ) where
  close-stretch : (xs : List X) → AreCloseEach index number xs → (i : ℕ) → AreClose (map number (stretch_of index i xs))
  close-stretch [] h i = tt
  close-stretch (x ∷ before) h i =
      go (index x == i) (is_past index before x) refl refl (close-stretch before h.1 i)
    where
      s : List X
      s = stretch_of index i before

      go : (a b : Bool) → (index x == i) ≡ a → is_past index before x ≡ b → AreClose (map number s)
          → AreClose (map number (cond (a && not b) (x ∷ s) s))
      go false b e f later = later
      go true true e f later = later
      go true false e f later = (subst (λ (ys : List X). IsClose (map number ys) (number x)) all h.0, later)
        where
          same : index x ≡ i
          same = eqb-true (index x) i e

          top : newest_index index before ≤ i
          top =
              let l : newest_index index before ≤ index x = ltb-false (index x) (newest_index index before) f in
              let k : index x ≡ i = same in
              omega arith

          all : filter (λ (y : X). index y == index x) before ≡ s
          all = ap (λ (k : ℕ). filter (λ (y : X). index y == k) before) same ∙ sym (whole index i before top)

  pub each-close : (xs : List X) → AreCloseEach index number xs → EachIsClose index number xs
  each-close xs h = each-stretch index (λ (s : List X). AreClose (map number s)) xs (close-stretch xs h)

-- ---- resets

-- x is one of these
abbrev IsIn : List Arrived → Arrived → Type 1
IsIn after x = (P : Arrived → Type 0) → AllByRecursion P after → P x

-- what is apparent is so with fewer that come afterwards
weaken : (after fewer xs : List Arrived) → ((P : Arrived → Type 0) → AllByRecursion P after → AllByRecursion P fewer)
    → OpenApparently after xs → OpenApparently fewer xs
weaken after fewer [] sub h = tt
weaken after fewer (x ∷ []) sub h = tt
weaken after fewer (x ∷ y ∷ before) sub h = (
  (λ later. record { number = (h.0 later).number; first = sub (StandsBehind x) (h.0 later).first }),
  weaken (x ∷ after) (x ∷ fewer) (y ∷ before) (λ P q. (q.0, sub P q.1)) h.1,
)

apparent-before : (x y : Arrived) (before : List Arrived) → AreApparent (x ∷ y ∷ before) → AreApparent (y ∷ before)
apparent-before x y before h = record {
  none_before = h.none_before.1;
  opened = weaken (x ∷ []) [] (y ∷ before) (λ P q. tt) h.opened.1;
}

none-of : (g : ℕ) (xs : List Arrived) → newest xs < g → of_generation g xs ≡ []
none-of g [] h = refl
none-of g (x ∷ xs) h =
    ap (λ (b : Bool). cond b (x ∷ of_generation g xs) (of_generation g xs)) (ne_eqb (generation_of x) g (λ e. omega arith))
    ∙ none-of g xs (omega arith)

-- the newest generation has a sample
record HasOne (xs : List Arrived) : Type 0 where
  head : Arrived
  tail : List Arrived
  are : head ∷ tail ≡ xs

own-newest : (x : Arrived) (before : List Arrived) → newest (x ∷ before) ≡ generation_of x
    → HasOne (of_generation (newest (x ∷ before)) (x ∷ before))
own-newest x before m =
    subst (λ (n : ℕ). HasOne (of_generation n (x ∷ before))) (sym m)
    (subst (λ (b : Bool). HasOne (cond b (x ∷ of_generation (generation_of x) before) (of_generation (generation_of x) before)))
    (sym (eq-eqb (generation_of x) (generation_of x) refl))
    (record { head = x; tail = of_generation (generation_of x) before; are = refl }))

newest-some : (x : Arrived) (before : List Arrived) → 1 ≤ newest (x ∷ before)
    → HasOne (of_generation (newest (x ∷ before)) (x ∷ before))
newest-some x [] h = own-newest x [] (omega arith)
newest-some x (y ∷ more) h = elim (cases_lt (generation_of x) (newest (y ∷ more))) [
  | inl below ↦
      let us : List Arrived = y ∷ more in
      let m : newest (x ∷ us) ≡ newest us = omega arith in
      let e = ne_eqb (generation_of x) (newest us) (λ q. omega arith) in
      subst (λ (n : ℕ). HasOne (of_generation n (x ∷ us))) (sym m)
      (subst (λ (b : Bool). HasOne (cond b (x ∷ of_generation (newest us) us) (of_generation (newest us) us))) (sym e)
      (newest-some y more (omega arith)))
  | inr above ↦ own-newest x (y ∷ more) (omega arith)
]

-- one more in front doesn't change which is the first
further : (p : SamplePlace) (y z : Arrived) (rest xs : List Arrived) → z ∷ rest ≡ xs → IsNotBefore p xs → IsNotBefore p (y ∷ xs)
further p y z rest xs e h = subst (λ (zs : List Arrived). IsNotBefore p (y ∷ zs)) e (subst (IsNotBefore p) (sym e) h)

-- a sample of the newest generation doesn't stand before the one that opened it
opening-kept : (after : List Arrived) (x y : Arrived) (before : List Arrived) → IsIn after x → OpenApparently after (y ∷ before)
    → generation_of x ≡ newest (y ∷ before)
    → first_generation (y ∷ before) < newest (y ∷ before)
    → IsNotBefore x.place (of_generation (newest (y ∷ before)) (y ∷ before))
opening-kept after x y [] here opened same less = absurd (omega arith)
opening-kept after x y (u ∷ more) here opened same less =
    let us : List Arrived = u ∷ more in
    elim (cases_order (generation_of y) (newest us)) [
      | inl equal ↦
          let m : newest (y ∷ us) ≡ newest us = omega arith in
          let c : HasOne (of_generation (newest us) us) = newest-some u more (omega arith) in
          let later = opening-kept (y ∷ after) x u more (λ P h. here P h.1) opened.1 (omega arith) (omega arith) in
          at us m true (eq-eqb (generation_of y) (newest us) equal)
          (further x.place y c.head c.tail (of_generation (newest us) us) c.are later)
      | inr other ↦ elim other [
        | inl below ↦
            let m : newest (y ∷ us) ≡ newest us = omega arith in
            let later = opening-kept (y ∷ after) x u more (λ P h. here P h.1) opened.1 (omega arith) (omega arith) in
            at us m false (ne_eqb (generation_of y) (newest us) (λ e. omega arith)) later
        | inr above ↦
            let m : newest (y ∷ us) ≡ generation_of y = omega arith in
            let kept : is_before x.place y.place ≡ false =
            here (StandsBehind y) (opened.0 above).first (omega arith) in
            alone us m (none-of (generation_of y) us above) kept
      ]
    ]
  where
    at : (us : List Arrived) → newest (y ∷ us) ≡ newest us → (b : Bool) → (generation_of y == newest us) ≡ b
        → IsNotBefore x.place (cond b (y ∷ of_generation (newest us) us) (of_generation (newest us) us))
        → IsNotBefore x.place (of_generation (newest (y ∷ us)) (y ∷ us))
    at us m b e h =
        subst (λ (n : ℕ). IsNotBefore x.place (of_generation n (y ∷ us))) (sym m)
        (subst (λ (c : Bool). IsNotBefore x.place (cond c (y ∷ of_generation (newest us) us) (of_generation (newest us) us))) (sym e) h)

    alone : (us : List Arrived) → newest (y ∷ us) ≡ generation_of y → of_generation (generation_of y) us ≡ []
        → is_before x.place y.place ≡ false → IsNotBefore x.place (of_generation (newest (y ∷ us)) (y ∷ us))
    alone us m none h =
        subst (λ (n : ℕ). IsNotBefore x.place (of_generation n (y ∷ us))) (sym m)
        (subst (λ (c : Bool). IsNotBefore x.place (cond c (y ∷ of_generation (generation_of y) us) (of_generation (generation_of y) us)))
        (sym (eq-eqb (generation_of y) (generation_of y) refl))
        (subst (λ (zs : List Arrived). IsNotBefore x.place (y ∷ zs)) (sym none) h))

pub each-apparent : (xs : List Arrived) → AreApparent xs → EachIsApparent xs
each-apparent [] h = tt
each-apparent (x ∷ []) h = tt
each-apparent (x ∷ y ∷ before) h = (
  record {
    known = h.none_before.0;
    number = λ later. (h.opened.0 later).number;
    behind = λ same less. opening-kept (x ∷ []) x y before (λ P q. q.0) h.opened.1 same less;
  },
  each-apparent (y ∷ before) (apparent-before x y before h),
)

-- ---- of all sources

pub lesser : (l : Limits) (history : List SubAgent) (ds : List Delivery) → Premises l history ds → LesserPremises l history ds
lesser l history ds p = record {
  history_is = p.history_is;
  sent = p.sent;
  visible = p.visible;
  datagrams = all-imply (λ (a : SubAgent). AreCloseEach boot_of number_of (deliveries_of (stream_in a) ds))
      (λ (a : SubAgent). EachIsClose boot_of number_of (deliveries_of (stream_in a) ds))
      (λ a h. each-close boot_of number_of (deliveries_of (stream_in a) ds) h) history p.close.datagrams;
  samples = all-both (OfEachSource (AreCloseSamples l.sample_width) l.datagram_width ds) (OfEachSource AreApparent l.datagram_width ds)
      (OfEachSource (AreFound l.sample_width) l.datagram_width ds) of-agent history p.close.samples p.apparent;
  roomy = p.roomy;
}
  where
    of-boot : (xs : List Arrived) → AreCloseSamples l.sample_width xs → AreApparent xs → AreFound l.sample_width xs
    of-boot xs c h = record {
      close = each-close generation_of sample_number xs c.numbers;
      rise = c.rise;
      apparent = each-apparent xs h;
    }

    of-source : (a : SubAgent) (s : Source)
        → AllByRecursion (AreCloseSamples l.sample_width) (source_boots l.datagram_width (id_of s) (deliveries_of (stream_in a) ds))
        → AllByRecursion AreApparent (source_boots l.datagram_width (id_of s) (deliveries_of (stream_in a) ds))
        → AllByRecursion (AreFound l.sample_width) (source_boots l.datagram_width (id_of s) (deliveries_of (stream_in a) ds))
    of-source a s c h = all-both (AreCloseSamples l.sample_width) AreApparent (AreFound l.sample_width) of-boot
        (source_boots l.datagram_width (id_of s) (deliveries_of (stream_in a) ds)) c h

    of-agent : (a : SubAgent) → OfEachSource (AreCloseSamples l.sample_width) l.datagram_width ds a
        → OfEachSource AreApparent l.datagram_width ds a → OfEachSource (AreFound l.sample_width) l.datagram_width ds a
    of-agent a c h = all-both
        (λ (s : Source). AllByRecursion (AreCloseSamples l.sample_width) (source_boots l.datagram_width (id_of s) (deliveries_of (stream_in a) ds)))
        (λ (s : Source). AllByRecursion AreApparent (source_boots l.datagram_width (id_of s) (deliveries_of (stream_in a) ds)))
        (λ (s : Source). AllByRecursion (AreFound l.sample_width) (source_boots l.datagram_width (id_of s) (deliveries_of (stream_in a) ds)))
        (of-source a) (flow_sources a.setup ++ counter_sources a.setup) c h
