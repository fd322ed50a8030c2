-- The samples of a source that are delivered in a boot differ, and their places tell the order of issue.
use Rattle.std.proofs.Common.{◌≡◌, ◌≢◌, ℕ, suc, ◌+◌, ◌<◌, ◌≤◌, ◌⊎◌, inl, inr, Bool, true, false, cond, not, ◌&&◌, ◌||◌, List, [], ◌∷◌, length, map, ℤ, pos, arith, refl, sym, ap, subst, ◌∙◌}
use Rattle.std.specs.Prelude.{int_lt, nat_lt}
use Rattle.std.specs.Ordering.{int_eq}
use Rattle.std.specs.List.{AllByRecursion, filter}
use Rattle.std.proofs.lemmas.Int.{ints}
use Rattle.std.proofs.lemmas.Bool.{lt-ltb}
use Rattle.count_spec.specs.Windows.{has}
use Rattle.count_spec.proofs.Integers.{int_lt-true, int_eq-same}
use Rattle.count_spec.proofs.Sets.{or-right}
use Rattle.books_spec.specs.declared.sample_place.SamplePlace.{SamplePlace}
use Rattle.books_spec.specs.Items.{SourceId}
use Rattle.books_spec.specs.Listing.{same_id}
use Rattle.books_spec.specs.Generations.{is_before}
use Rattle.books_spec.specs.Books.{onto}
use Rattle.books_spec.proofs.Keys.{id-same}
use Rattle.books_spec.proofs.Listings.{IsSame}
use Rattle.books_spec.proofs.PlaceOrder.{before-both}
use Rattle.agent_spec.specs.Sources.{Source, same_source}
use Rattle.agent_spec.specs.Samples.{Sample, Datagram, Setup}
use Rattle.agent_spec.specs.Events.{Event}
use Rattle.agent_spec.specs.Boots.{Boot, happened, IsAmong}
use Rattle.agent_spec.specs.Sending.{samples_sent, AreCountedFrom}
use Rattle.agent_spec.proofs.Keys.{source-self}
use Rattle.agent_spec.proofs.Sent.{whole, counted}
use Rattle.account_spec.specs.Deliveries.{Delivery, number_of, numbers_of, id_of, id_in}
use Rattle.account_spec.specs.TrueNumbers.{is_late, in_time}
use Rattle.account_spec.specs.Arrivals.{Arrived, generation_of, is_first_in_time, arrived_from, brought, arrived, arrived_of}
use Rattle.account_laws.proofs.Lists.{all-imply, all-both, all-among, all-behind, all-filter, all-passing, all-onto, all-mapped, AllPairs, pairs-both, pairs-behind, pairs-mapped, pairs-filter, of-two, onto-is, map-onto, among-onto}
use Rattle.account_laws.proofs.Orders.{ComesBefore, IsEarlier, AreTwo, AreInOrder}
use Rattle.account_laws.proofs.Issued.{Mine, IsIssued}

-- ---- all samples sent in a boot, each at its place

abbrev pub placed_sent : ℕ → List Datagram → List Arrived
placed_sent boot [] = []
placed_sent boot (d ∷ before) = onto (arrived_from boot (pos d.number) 0 d.samples) (placed_sent boot before)

abbrev sample_of : Arrived → Sample
sample_of x = x.sample

samples-from : (boot : ℕ) (n : ℤ) (i : ℕ) (ss : List Sample) → map sample_of (arrived_from boot n i ss) ≡ ss
samples-from boot n i [] = refl
samples-from boot n i (s ∷ more) = ap (λ (r : List Sample). s ∷ r) (samples-from boot n (suc i) more)

samples-placed : (boot : ℕ) (sent : List Datagram) → map sample_of (placed_sent boot sent) ≡ samples_sent sent
samples-placed boot [] = refl
samples-placed boot (d ∷ before) =
    map-onto sample_of (arrived_from boot (pos d.number) 0 d.samples) (placed_sent boot before)
    ∙ (let here = samples-from boot (pos d.number) 0 d.samples in let later = samples-placed boot before in λ j. onto (here j) (later j))
    ∙ onto-is d.samples (samples_sent before)

-- ---- their places go up

abbrev at : ℤ → ℕ → SamplePlace
at n i = record { datagram = n; index = i }

abbrev Below : SamplePlace → Arrived → Type 0
Below p y = is_before y.place p ≡ true

abbrev IsBelow : Arrived → Arrived → Type 0
IsBelow x y = is_before y.place x.place ≡ true

next-index : (n : ℤ) (i : ℕ) → is_before (at n i) (at n (suc i)) ≡ true
next-index n i =
    or-right (int_lt n n) (int_eq n n && nat_lt i (suc i))
    (let a = int_eq-same n in let b = lt-ltb i (suc i) (omega arith) in λ j. a j && b j)

next-datagram : (n m : ℕ) (i : ℕ) → n < m → is_before (at (pos n) i) (at (pos m) 0) ≡ true
next-datagram n m i less =
    ap (λ (b : Bool). b || (int_eq (pos n) (pos m) && nat_lt i 0)) (int_lt-true (pos n) (pos m) (omega (arith, ints)))

below-more : (p q : SamplePlace) (xs : List Arrived) → is_before p q ≡ true → AllByRecursion (Below p) xs → AllByRecursion (Below q) xs
below-more p q xs e h = all-imply (Below p) (Below q) (λ y b. before-both y.place p q b e) xs h

-- the samples of one datagram put behind others
record GoUp (last : SamplePlace) (xs : List Arrived) : Type 0 where
  below : AllByRecursion (Below last) xs
  order : AllPairs IsBelow xs

go-up : (boot n m i : ℕ) (ss : List Sample) (acc : List Arrived) → n < m → GoUp (at (pos n) i) acc
    → GoUp (at (pos m) 0) (onto (arrived_from boot (pos n) i ss) acc)
go-up boot n m i [] acc less h = record {
  below = below-more (at (pos n) i) (at (pos m) 0) acc (next-datagram n m i less) h.below;
  order = h.order;
}
go-up boot n m i (s ∷ more) acc less h =
    go-up boot n m (suc i) more (record { boot = boot; place = at (pos n) i; sample = s } ∷ acc) less (record {
      below = (next-index (pos n) i, below-more (at (pos n) i) (at (pos n) (suc i)) acc (next-index (pos n) i) h.below);
      order = (h.below, h.order);
    })

all-go-up : (boot first : ℕ) (sent : List Datagram) → AreCountedFrom first sent
    → GoUp (at (pos (first + length sent)) 0) (placed_sent boot sent)
all-go-up boot first [] h = record { below = tt; order = tt }
all-go-up boot first (d ∷ before) h =
    let e : d.number ≡ first + length before = h.0 in
    let up = all-go-up boot first before h.1 in
    go-up boot d.number (first + length (d ∷ before)) 0 d.samples (placed_sent boot before) (omega arith)
    (subst (λ (n : ℕ). GoUp (at (pos n) 0) (placed_sent boot before)) (sym e) up)

-- ---- each that arrives was sent

pub among-from : (boot : ℕ) (d : Datagram) (x : Arrived) (sent : List Datagram) → IsAmong d sent
    → IsAmong x (arrived_from boot (pos d.number) 0 d.samples) → IsAmong x (placed_sent boot sent)
among-from boot d x [] h k = absurd h
among-from boot d x (e ∷ more) (inl same) k =
    among-onto x (arrived_from boot (pos e.number) 0 e.samples) (placed_sent boot more)
    (inl (subst (λ (y : Datagram). IsAmong x (arrived_from boot (pos y.number) 0 y.samples)) same k))
among-from boot d x (e ∷ more) (inr h) k =
    among-onto x (arrived_from boot (pos e.number) 0 e.samples) (placed_sent boot more) (inr (among-from boot d x more h k))

pub self-all : {X : Type 0} (P : X → Type 0) (xs : List X) → ((x : X) → IsAmong x xs → P x) → AllByRecursion P xs
self-all P [] f = tt
self-all P (x ∷ xs) f = (f x (inl refl), self-all P xs (λ y a. f y (inr a)))

-- deliveries of one boot
abbrev pub AreOfBoot : ℕ → List Datagram → List Delivery → Type 0
AreOfBoot boot sent ds = AllByRecursion (λ (d : Delivery). (d.boot ≡ boot) × IsAmong d.datagram sent) ds

all-sent : (boot width : ℕ) (sent : List Datagram) (ds : List Delivery) → AreOfBoot boot sent ds
    → AllByRecursion (λ (x : Arrived). IsAmong x (placed_sent boot sent)) (arrived width ds)
all-sent boot width sent [] h = tt
all-sent boot width sent (d ∷ before) h =
    all-onto (λ (x : Arrived). IsAmong x (placed_sent boot sent)) (brought width before d) (arrived width before)
    (go (is_first_in_time width before d)) (all-sent boot width sent before h.1)
  where
    go : (b : Bool) → AllByRecursion (λ (x : Arrived). IsAmong x (placed_sent boot sent))
        (cond b (arrived_from d.boot (number_of d) 0 d.datagram.samples) [])
    go false = tt
    go true = self-all (λ (x : Arrived). IsAmong x (placed_sent boot sent)) (arrived_from d.boot (number_of d) 0 d.datagram.samples)
        (λ x a. among-from boot d.datagram x sent h.0.1
        (subst (λ (k : ℕ). IsAmong x (arrived_from k (number_of d) 0 d.datagram.samples)) h.0.0 a))

-- ---- no two that arrive are the same

abbrev Differs : Arrived → Arrived → Type 0
Differs x y = x ≢ y

-- of another datagram, or with a lesser index
abbrev IsApart : ℤ → ℕ → Arrived → Type 0
IsApart n i y = y.place.datagram ≡ n → y.place.index < i

differ-more : (boot : ℕ) (n : ℤ) (i : ℕ) (ss : List Sample) (acc : List Arrived) → AllByRecursion (IsApart n i) acc
    → AllPairs Differs acc → AllPairs Differs (onto (arrived_from boot n i ss) acc)
differ-more boot n i [] acc apart h = h
differ-more boot n i (s ∷ more) acc apart h =
    differ-more boot n (suc i) more (x ∷ acc)
    ((λ e. omega arith), all-imply (IsApart n i) (IsApart n (suc i)) (λ y a e. later y (a e)) acc apart)
    (all-imply (IsApart n i) (Differs x) (λ y a same. never y same (a (ap (λ (z : Arrived). z.place.datagram) (sym same)))) acc apart, h)
  where
    x : Arrived
    x = record { boot = boot; place = at n i; sample = s }

    later : (y : Arrived) → y.place.index < i → y.place.index < suc i
    later y l = omega arith

    never : (y : Arrived) → x ≡ y → y.place.index < i → ⊥
    never y same l = let e : i ≡ y.place.index = ap (λ (z : Arrived). z.place.index) same in omega arith

abbrev IsOfNumbers : List ℤ → Arrived → Type 0
IsOfNumbers ns y = has ns y.place.datagram ≡ true

of-numbers : (boot : ℕ) (n : ℤ) (ns : List ℤ) → has ns n ≡ true → (i : ℕ) (ss : List Sample)
    → AllByRecursion (IsOfNumbers ns) (arrived_from boot n i ss)
of-numbers boot n ns h i [] = tt
of-numbers boot n ns h i (s ∷ more) = (h, of-numbers boot n ns h (suc i) more)

record Apart (width : ℕ) (ds : List Delivery) : Type 0 where
  numbers : AllByRecursion (IsOfNumbers (in_time width (numbers_of ds))) (arrived width ds)
  differ : AllPairs Differs (arrived width ds)

apart : (width : ℕ) (ds : List Delivery) → Apart width ds
apart width [] = record { numbers = tt; differ = tt }
apart width (d ∷ before) = go (is_late width ns n) (has old n) refl refl (apart width before)
  where
    n : ℤ
    n = number_of d

    ns : List ℤ
    ns = numbers_of before

    old : List ℤ
    old = in_time width ns

    now : Bool → List ℤ
    now late = cond late old (n ∷ old)

    put : Bool → Bool → List Arrived
    put late again = onto (cond (not late && not again) (arrived_from d.boot n 0 d.datagram.samples) []) (arrived width before)

    more : AllByRecursion (IsOfNumbers old) (arrived width before) → AllByRecursion (IsOfNumbers (n ∷ old)) (arrived width before)
    more h = all-imply (IsOfNumbers old) (IsOfNumbers (n ∷ old)) (λ y e. or-right (int_eq n y.place.datagram) (has old y.place.datagram) e) (arrived width before) h

    go : (late again : Bool) → is_late width ns n ≡ late → has old n ≡ again → Apart width before → Apart width (d ∷ before)
    go late again e f h = record {
      numbers = subst (λ (b : Bool). AllByRecursion (IsOfNumbers (now b)) (put b (has old n))) (sym e)
          (subst (λ (b : Bool). AllByRecursion (IsOfNumbers (now late)) (put late b)) (sym f) (found late again h.numbers));
      differ = subst (λ (b : Bool). AllPairs Differs (put b (has old n))) (sym e)
          (subst (λ (b : Bool). AllPairs Differs (put late b)) (sym f) (parted late again f h));
    }
      where
        found : (late again : Bool) → AllByRecursion (IsOfNumbers old) (arrived width before)
            → AllByRecursion (IsOfNumbers (now late)) (put late again)
        found true again k = k
        found false true k = more k
        found false false k = all-onto (IsOfNumbers (n ∷ old)) (arrived_from d.boot n 0 d.datagram.samples) (arrived width before)
            (of-numbers d.boot n (n ∷ old) (ap (λ (b : Bool). b || has old n) (int_eq-same n)) 0 d.datagram.samples) (more k)

        parted : (late again : Bool) → has old n ≡ again → Apart width before → AllPairs Differs (put late again)
        parted true again f k = k.differ
        parted false true f k = k.differ
        parted false false f k = differ-more d.boot n 0 d.datagram.samples (arrived width before)
            (all-imply (IsOfNumbers old) (IsApart n 0)
            (λ y e same. (let bad : true ≡ false = sym e ∙ ap (has old) same ∙ f in absurd cc)) (arrived width before) k.numbers)
            k.differ

-- ---- the samples of a source

pairs-from : {X : Type 0} (P : X → Type 0) (D T : X → X → Type 0) → ((x y : X) → P x → P y → D x y → T x y) → (xs : List X)
    → AllByRecursion P xs → AllPairs D xs → AllPairs T xs
pairs-from P D T f [] p d = tt
pairs-from P D T f (x ∷ xs) p d = (all-both P (D x) (T x) (λ y q e. f x y p.0 q e) xs p.1 d.0, pairs-from P D T f xs p.1 d.1)

pairs-passing : {X : Type 0} (R : X → X → Type 0) (p : X → Bool) (xs : List X)
    → AllPairs (λ (x y : X). p x ≡ true → p y ≡ true → R x y) xs → AllPairs R (filter p xs)
pairs-passing {X} R p xs h =
    pairs-from (λ (x : X). p x ≡ true) (λ (x y : X). p x ≡ true → p y ≡ true → R x y) R (λ x y a b r. r a b) (filter p xs)
    (all-passing p xs) (pairs-filter (λ (x y : X). p x ≡ true → p y ≡ true → R x y) p xs h)

-- the source of an agent by what a collector sees of it
pub same-sources : (a b : Source) → same_id (id_of a) (id_of b) ≡ true → a ≡ b
same-sources a b e =
    let same = IsSame.to id-same (id_of a) (id_of b) e in
    let f = ap (λ (i : SourceId). i.flow) same in
    let c = ap (λ (i : SourceId). i.class) same in
    let x = ap (λ (i : SourceId). i.index) same in
    λ j. record { flow = f j; class = c j; index = x j }

pub is-mine : (source : Source) (x : Sample) → same_id (id_of source) (id_in x) ≡ true → Mine source x
is-mine source x e =
    ap (λ (o : Source). same_source source o) (sym (same-sources source x.turn.source e)) ∙ source-self source

-- what is known of the samples of a source that are delivered in a boot
pub record DeliversWell (samples : List Arrived) : Type 0 where
  pub numbered : AllByRecursion (λ (x : Arrived). 1 ≤ generation_of x) samples
  pub order : AreInOrder samples

module _ (source : Source) (s : Setup) (events : List Event) (boot width : ℕ) (ds : List Delivery)
    (of : AreOfBoot boot (happened s events).sent ds) where
  abbrev pub all_placed : List Arrived
  all_placed = placed_sent boot (happened s events).sent

  pub all-told : IsIssued source (happened s events) → AllPairs (λ (x y : Arrived). Mine source x.sample → Mine source y.sample → IsEarlier y x) all_placed
  all-told h =
      let b : Boot = happened s events in
      pairs-both IsBelow (λ (x y : Arrived). Mine source x.sample → Mine source y.sample → ComesBefore y.sample x.sample)
      (λ (x y : Arrived). Mine source x.sample → Mine source y.sample → IsEarlier y x)
      (λ x y p c m n. record { place = p; counts = c m n }) all_placed
      (all-go-up boot s.first b.sent (counted s events)).order
      (pairs-mapped (λ (x y : Sample). Mine source x → Mine source y → ComesBefore y x) sample_of all_placed
      (subst (AllPairs (λ (x y : Sample). Mine source x → Mine source y → ComesBefore y x)) (sym (samples-placed boot b.sent))
      (pairs-behind (λ (x y : Sample). Mine source x → Mine source y → ComesBefore y x) b.staged (samples_sent b.sent)
      (subst (AllPairs (λ (x y : Sample). Mine source x → Mine source y → ComesBefore y x)) (whole s events) h.order))))

  -- what holds of each sample of the source that is issued holds of each that is delivered
  pub delivered-all : (P : Sample → Type 0) → AllByRecursion (λ (y : Sample). Mine source y → P y) (happened s events).issued
      → AllByRecursion (λ (x : Arrived). P x.sample) (arrived_of width (id_of source) ds)
  delivered-all P h =
      let b : Boot = happened s events in
      let placed : AllByRecursion (λ (x : Arrived). Mine source x.sample → P x.sample) all_placed =
      all-mapped (λ (y : Sample). Mine source y → P y) sample_of all_placed
      (subst (AllByRecursion (λ (y : Sample). Mine source y → P y)) (sym (samples-placed boot b.sent))
      (all-behind (λ (y : Sample). Mine source y → P y) b.staged (samples_sent b.sent)
      (subst (AllByRecursion (λ (y : Sample). Mine source y → P y)) (whole s events) h))) in
      all-both (λ (x : Arrived). IsAmong x all_placed) (λ (x : Arrived). same_id (id_of source) (id_in x.sample) ≡ true)
      (λ (x : Arrived). P x.sample)
      (λ x a e. all-among (λ (y : Arrived). Mine source y.sample → P y.sample) x all_placed a placed (is-mine source x.sample e))
      (arrived_of width (id_of source) ds)
      (all-filter (λ (x : Arrived). IsAmong x all_placed) (λ (x : Arrived). same_id (id_of source) (id_in x.sample)) (arrived width ds)
      (all-sent boot width b.sent ds of))
      (all-passing (λ (x : Arrived). same_id (id_of source) (id_in x.sample)) (arrived width ds))

  two-of : IsIssued source (happened s events) → (x y : Arrived) → IsAmong x all_placed → IsAmong y all_placed → x ≢ y
      → same_id (id_of source) (id_in x.sample) ≡ true → same_id (id_of source) (id_in y.sample) ≡ true → AreTwo x y
  two-of h x y a b differ e f =
      decide (of-two (λ (x y : Arrived). Mine source x.sample → Mine source y.sample → IsEarlier y x) x y all_placed a b (all-told h))
    where
      decide : (x ≡ y) ⊎ ((Mine source x.sample → Mine source y.sample → IsEarlier y x) ⊎ (Mine source y.sample → Mine source x.sample → IsEarlier x y)) → AreTwo x y
      decide (inl same) = absurd (differ same)
      decide (inr (inl r)) = inr (r (is-mine source x.sample e) (is-mine source y.sample f))
      decide (inr (inr r)) = inl (r (is-mine source y.sample f) (is-mine source x.sample e))

  pub delivers-well : IsIssued source (happened s events) → DeliversWell (arrived_of width (id_of source) ds)
  delivers-well h = record {
    numbered = delivered-all (λ (y : Sample). 1 ≤ y.turn.generation) h.first;
    order = pairs-passing AreTwo (λ (x : Arrived). same_id (id_of source) (id_in x.sample)) (arrived width ds)
        (pairs-from (λ (x : Arrived). IsAmong x all_placed) Differs
        (λ (x y : Arrived). same_id (id_of source) (id_in x.sample) ≡ true → same_id (id_of source) (id_in y.sample) ≡ true → AreTwo x y)
        (λ x y a b d. two-of h x y a b d) (arrived width ds)
        (all-sent boot width (happened s events).sent ds of) (apart width ds).differ);
  }
