-- Where nothing is stale or late, what is delivered of a source is what the delivered datagrams hold, each sample once.
use Rattle.std.proofs.Common.{◌≡◌, ℕ, suc, ◌+◌, ◌<◌, ◌≤◌, ◌⊎◌, inl, inr, Bool, true, false, cond, ◌&&◌, ◌||◌, List, [], ◌∷◌, ◌++◌, length, ℤ, pos, refl, sym, ap, subst, ◌∙◌, arith}
use Rattle.std.specs.Prelude.{◌==◌, unsigned_abs}
use Rattle.std.specs.Ordering.{int_eq}
use Rattle.std.specs.List.{AllByRecursion, filter, list_any}
use Rattle.std.proofs.lemmas.Bool.{and_parts, or_cases, eqb-true, eq-eqb}
use Rattle.count_spec.specs.Windows.{has}
use Rattle.count_spec.proofs.Integers.{int_eq-is, int_eq-same}
use Rattle.count_spec.proofs.TrueStretches.{AreNumbered}
use Rattle.books_spec.specs.Items.{SourceId}
use Rattle.books_spec.specs.Listing.{same_id}
use Rattle.agent_spec.specs.Sources.{Source}
use Rattle.agent_spec.specs.Samples.{Sample, Datagram}
use Rattle.agent_spec.specs.Boots.{happened, IsAmong}
use Rattle.agent_spec.specs.Sending.{AreCountedFrom}
use Rattle.agent_spec.proofs.Sent.{counted}
use Rattle.account_spec.specs.Histories.{SubAgent, events_of, sent_in}
use Rattle.account_spec.specs.Deliveries.{Delivery, boot_of, number_of, numbers_of, id_of, id_in}
use Rattle.account_spec.specs.Arrivals.{Arrived, generation_of, arrived_from}
use Rattle.account_laws.specs.Distinct.{held_by, all_held, same_sample, each_once, distinct_samples}
use Rattle.account_laws.proofs.Lists.{all-both, all-imply, all-among, all-filter, all-passing, all-append, of-two}
use Rattle.account_laws.proofs.Parts.{all_of}
use Rattle.account_laws.proofs.Orders.{ComesBefore, IsEarlier}
use Rattle.account_laws.proofs.Issued.{Mine, IsIssued}
use Rattle.account_laws.proofs.Once.{placed_sent, among-from, is-mine, self-all, all-told}
use Rattle.account_laws.proofs.Punctual.{among-front, among-behind, AreInTime, seen_before, new_count, delivered_count, count-goes-on}

-- ---- the samples that are held

record IsAt (boot : ℕ) (n : ℤ) (i : ℕ) (x : Arrived) : Type 0 where
  boot_is : x.boot ≡ boot
  datagram_is : x.place.datagram ≡ n
  index_from : i ≤ x.place.index

are-at : (boot : ℕ) (n : ℤ) (i : ℕ) (ss : List Sample) → AllByRecursion (IsAt boot n i) (arrived_from boot n i ss)
are-at boot n i [] = tt
are-at boot n i (s ∷ more) = (
  record { boot_is = refl; datagram_is = refl; index_from = omega arith },
  all-imply (IsAt boot n (suc i)) (IsAt boot n i)
      (λ x h. record { boot_is = h.boot_is; datagram_is = h.datagram_is; index_from = less x h.index_from })
      (arrived_from boot n (suc i) more) (are-at boot n (suc i) more),
)
  where
    less : (x : Arrived) → suc i ≤ x.place.index → i ≤ x.place.index
    less x h = omega arith

-- those of another datagram
abbrev IsElsewhere : ℕ → ℤ → Arrived → Type 0
IsElsewhere boot n y = y.boot ≡ boot → y.place.datagram ≡ n → ⊥

-- none of these is among those behind it, or among the others
abbrev AreFresh : List Arrived → List Arrived → Type 0
AreFresh [] ys = Unit {0}
AreFresh (x ∷ xs) ys = (IsAmong x (xs ++ ys) → ⊥) × AreFresh xs ys

fresh-from : (p : Arrived → Bool) (boot : ℕ) (n : ℤ) (i : ℕ) (ss : List Sample) (ys : List Arrived)
    → AllByRecursion (IsElsewhere boot n) ys → AreFresh (filter p (arrived_from boot n i ss)) ys
fresh-from p boot n i [] ys h = tt
fresh-from p boot n i (s ∷ more) ys h = go (p x) (fresh-from p boot n (suc i) more ys h)
  where
    x : Arrived
    x = record { boot = boot; place = record { datagram = n; index = i }; sample = s }

    rest : List Arrived
    rest = filter p (arrived_from boot n (suc i) more)

    later : (y : Arrived) → IsAt boot n (suc i) y → x ≡ y → ⊥
    later y a e =
        let k : i ≡ y.place.index = ap (λ (z : Arrived). z.place.index) e in
        let l : suc i ≤ y.place.index = a.index_from in
        omega arith

    differ : AllByRecursion (λ (y : Arrived). x ≡ y → ⊥) (rest ++ ys)
    differ = all-append (λ (y : Arrived). x ≡ y → ⊥) rest ys
        (all-imply (IsAt boot n (suc i)) (λ (y : Arrived). x ≡ y → ⊥) later rest
        (all-filter (IsAt boot n (suc i)) p (arrived_from boot n (suc i) more) (are-at boot n (suc i) more)))
        (all-imply (IsElsewhere boot n) (λ (y : Arrived). x ≡ y → ⊥)
        (λ y k e. k (ap (λ (z : Arrived). z.boot) (sym e)) (ap (λ (z : Arrived). z.place.datagram) (sym e))) ys h)

    go : (b : Bool) → AreFresh rest ys → AreFresh (cond b (x ∷ rest) rest) ys
    go true k = ((λ a. all-among (λ (y : Arrived). x ≡ y → ⊥) x (rest ++ ys) a differ refl), k)
    go false k = k

-- a delivery of another datagram holds none of these
elsewhere-held : (id : SourceId) (boot : ℕ) (n : ℤ) (ds : List Delivery)
    → AllByRecursion (λ (e : Delivery). e.boot ≡ boot → number_of e ≡ n → ⊥) ds → AllByRecursion (IsElsewhere boot n) (all_held id ds)
elsewhere-held id boot n [] h = tt
elsewhere-held id boot n (e ∷ before) h =
    all-append (IsElsewhere boot n) (held_by id e) (all_held id before)
    (all-imply (IsAt e.boot (number_of e) 0) (IsElsewhere boot n)
    (λ y a b c. h.0 (sym a.boot_is ∙ b) (sym a.datagram_is ∙ c)) (held_by id e)
    (all-filter (IsAt e.boot (number_of e) 0) (λ (x : Arrived). same_id id (id_in x.sample))
    (arrived_from e.boot (number_of e) 0 e.datagram.samples) (are-at e.boot (number_of e) 0 e.datagram.samples)))
    (elsewhere-held id boot n before h.1)

none-such : (boot : ℕ) (n : ℤ) (ds : List Delivery) → has (numbers_of (all_of boot_of boot ds)) n ≡ false
    → AllByRecursion (λ (e : Delivery). e.boot ≡ boot → number_of e ≡ n → ⊥) ds
none-such boot n [] h = tt
none-such boot n (e ∷ before) h = go (boot_of e == boot) refl h (λ k. none-such boot n before k)
  where
    rest : List Delivery
    rest = all_of boot_of boot before

    right : (a b : Bool) → (a || b) ≡ false → (a ≡ false) × (b ≡ false)
    right true b f = let bad : true ≡ false = f in absurd cc
    right false b f = (refl, f)

    go : (b : Bool) → (boot_of e == boot) ≡ b → has (numbers_of (cond b (e ∷ rest) rest)) n ≡ false
        → (has (numbers_of rest) n ≡ false → AllByRecursion (λ (x : Delivery). x.boot ≡ boot → number_of x ≡ n → ⊥) before)
        → (e.boot ≡ boot → number_of e ≡ n → ⊥) × AllByRecursion (λ (x : Delivery). x.boot ≡ boot → number_of x ≡ n → ⊥) before
    go true f k later =
        let r = right (int_eq (number_of e) n) (has (numbers_of rest) n) k in
        ((λ a b. (let bad : true ≡ false = sym (int_eq-same n) ∙ ap (λ (m : ℤ). int_eq m n) (sym b) ∙ r.0 in absurd cc)), later r.1)
    go false f k later = ((λ a b. (let bad : true ≡ false = sym (eq-eqb (boot_of e) boot a) ∙ f in absurd cc)), later k)

-- ---- a datagram of a boot has its number for itself

below-all : (first n : ℕ) (sent : List Datagram) → AreCountedFrom first sent → first + length sent ≤ n
    → AllByRecursion (λ (e : Datagram). e.number < n) sent
below-all first n [] h l = tt
below-all first n (d ∷ before) h l =
    let e : d.number ≡ first + length before = h.0 in (omega arith, below-all first n before h.1 (omega arith))

one-of-number : (first : ℕ) (sent : List Datagram) → AreCountedFrom first sent → (a b : Datagram) → IsAmong a sent → IsAmong b sent
    → a.number ≡ b.number → a ≡ b
one-of-number first [] h a b p q e = absurd p
one-of-number first (d ∷ before) h a b (inl x) (inl y) e = x ∙ sym y
one-of-number first (d ∷ before) h a b (inl x) (inr q) e =
    let n : d.number ≡ first + length before = h.0 in
    let l = all-among (λ (g : Datagram). g.number < first + length before) b before q (below-all first (first + length before) before h.1 (omega arith)) in
    let k = ap (λ (g : Datagram). g.number) x in
    absurd (omega (arith, n, l, k, e))
one-of-number first (d ∷ before) h a b (inr p) (inl y) e =
    let n : d.number ≡ first + length before = h.0 in
    let l = all-among (λ (g : Datagram). g.number < first + length before) a before p (below-all first (first + length before) before h.1 (omega arith)) in
    let k = ap (λ (g : Datagram). g.number) y in
    absurd (omega (arith, n, l, k, e))
one-of-number first (d ∷ before) h a b (inr p) (inr q) e = one-of-number first before h.1 a b p q e

-- ---- each sample once

module _ (a : SubAgent) (source : Source) (issued : (boot : ℕ) → IsIssued source (happened a.setup (events_of a.boots boot))) where
  abbrev id : SourceId
  id = id_of source

  -- a sample of the source that was sent
  record IsOne (x : Arrived) : Type 0 where
    sent : IsAmong x (placed_sent x.boot (sent_in a x.boot))
    own : same_id id (id_in x.sample) ≡ true

  one-of : (x y : Arrived) → IsOne x → IsOne y → same_sample x y ≡ true → x ≡ y
  one-of x y h k e =
      let p = and_parts ((x.boot == y.boot) && (generation_of x == generation_of y)) (x.sample.number == y.sample.number) e in
      let q = and_parts (x.boot == y.boot) (generation_of x == generation_of y) p.0 in
      decide (eqb-true (generation_of x) (generation_of y) q.1) (eqb-true x.sample.number y.sample.number p.1)
      (of-two (λ (u v : Arrived). Mine source u.sample → Mine source v.sample → IsEarlier v u) x y (placed_sent x.boot (sent_in a x.boot))
      h.sent (subst (λ (n : ℕ). IsAmong y (placed_sent n (sent_in a n))) (sym (eqb-true x.boot y.boot q.0)) k.sent)
      (all-told source a.setup (events_of a.boots x.boot) x.boot 0 [] tt (issued x.boot)))
    where
      never : (u v : Sample) → u.turn.generation ≡ v.turn.generation → u.number ≡ v.number → ComesBefore u v → ⊥
      never u v g n (inl l) = omega arith
      never u v g n (inr l) = let m : u.number < v.number = l.1 in omega arith

      decide : generation_of x ≡ generation_of y → x.sample.number ≡ y.sample.number
          → (x ≡ y) ⊎ ((Mine source x.sample → Mine source y.sample → IsEarlier y x) ⊎ (Mine source y.sample → Mine source x.sample → IsEarlier x y))
          → x ≡ y
      decide g n (inl same) = same
      decide g n (inr (inl r)) =
          absurd (never y.sample x.sample (sym g) (sym n) (r (is-mine source x.sample h.own) (is-mine source y.sample k.own)).counts)
      decide g n (inr (inr r)) =
          absurd (never x.sample y.sample g n (r (is-mine source y.sample k.own) (is-mine source x.sample h.own)).counts)

  same-self : (x : Arrived) → same_sample x x ≡ true
  same-self x =
      let b = eq-eqb x.boot x.boot refl in
      let g = eq-eqb (generation_of x) (generation_of x) refl in
      let n = eq-eqb x.sample.number x.sample.number refl in
      λ j. (b j && g j) && n j

  any-of : (x : Arrived) (ys : List Arrived) → IsAmong x ys → list_any (same_sample x) ys ≡ true
  any-of x [] h = absurd h
  any-of x (y ∷ ys) (inl e) =
      ap (λ (z : Arrived). same_sample x z || list_any (same_sample x) ys) (sym e)
      ∙ ap (λ (b : Bool). b || list_any (same_sample x) ys) (same-self x)
  any-of x (y ∷ ys) (inr h) = right (same_sample x y) (list_any (same_sample x) ys) (any-of x ys h)
    where
      right : (b c : Bool) → c ≡ true → (b || c) ≡ true
      right true c e = refl
      right false c e = e

  of-any : (x : Arrived) (ys : List Arrived) → IsOne x → AllByRecursion IsOne ys → list_any (same_sample x) ys ≡ true → IsAmong x ys
  of-any x [] h k e = let bad : false ≡ true = e in absurd cc
  of-any x (y ∷ ys) h k e = elim (or_cases (same_sample x y) (list_any (same_sample x) ys) e) [
    | inl here ↦ inl (one-of x y h k.0 here)
    | inr later ↦ inr (of-any x ys h k.1 later)
  ]

  once-new : (xs ys : List Arrived) → AllByRecursion IsOne xs → AllByRecursion IsOne ys → AreFresh xs ys
      → length (each_once (xs ++ ys)) ≡ length xs + length (each_once ys)
  once-new [] ys h k f = omega arith
  once-new (x ∷ xs) ys h k f =
      ap (λ (b : Bool). length (cond b (each_once (xs ++ ys)) (x ∷ each_once (xs ++ ys)))) (new (list_any (same_sample x) (xs ++ ys)) refl)
      ∙ (let later = once-new xs ys h.1 k f.1 in more later)
    where
      new : (b : Bool) → list_any (same_sample x) (xs ++ ys) ≡ b → b ≡ false
      new true e = absurd (f.0 (of-any x (xs ++ ys) h.0 (all-append IsOne xs ys h.1 k) e))
      new false e = refl

      more : length (each_once (xs ++ ys)) ≡ length xs + length (each_once ys)
          → length (x ∷ each_once (xs ++ ys)) ≡ length (x ∷ xs) + length (each_once ys)
      more e = omega (arith, e)

  once-old : (xs ys : List Arrived) → AllByRecursion (λ (x : Arrived). IsAmong x ys) xs → length (each_once (xs ++ ys)) ≡ length (each_once ys)
  once-old [] ys h = refl
  once-old (x ∷ xs) ys h =
      ap (λ (b : Bool). length (cond b (each_once (xs ++ ys)) (x ∷ each_once (xs ++ ys))))
      (any-of x (xs ++ ys) (among-behind x xs ys h.0))
      ∙ once-old xs ys h.1

  -- ---- of deliveries that were sent

  abbrev pub AreSentBy : List Delivery → Type 0
  AreSentBy ds = AllByRecursion (λ (d : Delivery). IsAmong d.datagram (sent_in a d.boot)) ds

  held-one : (d : Delivery) → IsAmong d.datagram (sent_in a d.boot) → AllByRecursion IsOne (held_by id d)
  held-one d h =
      let xs : List Arrived = arrived_from d.boot (number_of d) 0 d.datagram.samples in
      all-both (λ (x : Arrived). IsAt d.boot (number_of d) 0 x × IsAmong x (placed_sent d.boot (sent_in a d.boot)))
      (λ (x : Arrived). same_id id (id_in x.sample) ≡ true) IsOne
      (λ x p own. record { sent = subst (λ (n : ℕ). IsAmong x (placed_sent n (sent_in a n))) (sym p.0.boot_is) p.1; own = own })
      (held_by id d)
      (all-filter (λ (x : Arrived). IsAt d.boot (number_of d) 0 x × IsAmong x (placed_sent d.boot (sent_in a d.boot)))
      (λ (x : Arrived). same_id id (id_in x.sample)) xs
      (all-both (IsAt d.boot (number_of d) 0) (λ (x : Arrived). IsAmong x (placed_sent d.boot (sent_in a d.boot)))
      (λ (x : Arrived). IsAt d.boot (number_of d) 0 x × IsAmong x (placed_sent d.boot (sent_in a d.boot))) (λ x p q. (p, q)) xs
      (are-at d.boot (number_of d) 0 d.datagram.samples)
      (self-all (λ (x : Arrived). IsAmong x (placed_sent d.boot (sent_in a d.boot))) xs
      (λ x k. among-from d.boot d.datagram x (sent_in a d.boot) h k))))
      (all-passing (λ (x : Arrived). same_id id (id_in x.sample)) xs)

  all-one : (ds : List Delivery) → AreSentBy ds → AllByRecursion IsOne (all_held id ds)
  all-one [] h = tt
  all-one (d ∷ before) h = all-append IsOne (held_by id d) (all_held id before) (held-one d h.0) (all-one before h.1)

  -- a datagram that was delivered before holds nothing new
  held-again : (d : Delivery) → IsAmong d.datagram (sent_in a d.boot) → (ds : List Delivery) → AreSentBy ds
      → has (numbers_of (all_of boot_of d.boot ds)) (number_of d) ≡ true
      → AllByRecursion (λ (x : Arrived). IsAmong x (all_held id ds)) (held_by id d)
  held-again d there [] h e = let bad : false ≡ true = e in absurd cc
  held-again d there (c ∷ before) h e = go (boot_of c == d.boot) refl e (λ k. held-again d there before h.1 k)
    where
      rest : List Delivery
      rest = all_of boot_of d.boot before

      behind : AllByRecursion (λ (x : Arrived). IsAmong x (all_held id before)) (held_by id d)
          → AllByRecursion (λ (x : Arrived). IsAmong x (all_held id (c ∷ before))) (held_by id d)
      behind k = all-imply (λ (x : Arrived). IsAmong x (all_held id before)) (λ (x : Arrived). IsAmong x (all_held id (c ∷ before)))
          (λ x m. among-behind x (held_by id c) (all_held id before) m) (held_by id d) k

      here : c.boot ≡ d.boot → number_of c ≡ number_of d → AllByRecursion (λ (x : Arrived). IsAmong x (all_held id (c ∷ before))) (held_by id d)
      here boots numbers =
          let n : c.datagram.number ≡ d.datagram.number = ap unsigned_abs numbers in
          let same : c.datagram ≡ d.datagram =
          one-of-number a.setup.first (sent_in a d.boot) (counted a.setup (events_of a.boots d.boot)) c.datagram d.datagram
          (subst (λ (k : ℕ). IsAmong c.datagram (sent_in a k)) boots h.0) there n in
          let held : held_by id c ≡ held_by id d =
          (λ j. filter (λ (x : Arrived). same_id id (id_in x.sample)) (arrived_from (boots j) (pos (same j).number) 0 (same j).samples)) in
          self-all (λ (x : Arrived). IsAmong x (all_held id (c ∷ before))) (held_by id d)
          (λ x m. among-front x (held_by id c) (all_held id before) (subst (λ (xs : List Arrived). IsAmong x xs) (sym held) m))

      go : (b : Bool) → (boot_of c == d.boot) ≡ b → has (numbers_of (cond b (c ∷ rest) rest)) (number_of d) ≡ true
          → (has (numbers_of rest) (number_of d) ≡ true → AllByRecursion (λ (x : Arrived). IsAmong x (all_held id before)) (held_by id d))
          → AllByRecursion (λ (x : Arrived). IsAmong x (all_held id (c ∷ before))) (held_by id d)
      go true f k later = elim (or_cases (int_eq (number_of c) (number_of d)) (has (numbers_of rest) (number_of d)) k) [
        | inl now ↦ here (eqb-true (boot_of c) d.boot f) (int_eq-is (number_of c) (number_of d) now)
        | inr more ↦ behind (later more)
      ]
      go false f k later = behind (later k)

  -- What is delivered is what is held, each sample once
  pub delivered-once : (w : ℕ) (ds : List Delivery) → AreSentBy ds → AreNumbered boot_of ds → AreInTime w ds
      → delivered_count w id ds ≡ distinct_samples id ds
  delivered-once w [] h numbered k = refl
  delivered-once w (d ∷ before) h numbered k =
      count-goes-on w id d before numbered k
      ∙ ap (λ (n : ℕ). new_count id before d + n) (delivered-once w before h.1 numbered.1 k.2)
      ∙ go (seen_before before d) refl
    where
      go : (b : Bool) → seen_before before d ≡ b
          → cond b 0 (length (held_by id d)) + distinct_samples id before ≡ distinct_samples id (d ∷ before)
      go true e =
          let old = once-old (held_by id d) (all_held id before) (held-again d h.0 before h.1 e) in
          omega (arith, old)
      go false e =
          sym (once-new (held_by id d) (all_held id before) (held-one d h.0) (all-one before h.1)
          (fresh-from (λ (x : Arrived). same_id id (id_in x.sample)) d.boot (number_of d) 0 d.datagram.samples (all_held id before)
          (elsewhere-held id d.boot (number_of d) before (none-such d.boot (number_of d) before e))))
