-- Where restarts show, the boots that the rule finds are the true ones.
use Rattle.std.proofs.Common.{◌≡◌, ℕ, ◌<◌, ◌≤◌, inl, inr, Bool, false, cond, List, [], ◌∷◌, map, ℤ, pos, ◌-ℤ◌, ◌≤ℤ◌, ◌<ℤ◌, arith, refl, sym, ap, subst, ◌∙◌}
use Rattle.std.specs.Prelude.{int_lt}
use Rattle.std.specs.List.{AllByRecursion}
use Rattle.std.proofs.lemmas.Int.{ints}
use Rattle.std.proofs.lemmas.Bool.{cases_order}
use Rattle.count_spec.specs.Windows.{mark_of, greatest, answer, counted, is_newest}
use Rattle.count_spec.specs.Boots.{sequences, newest_boot_mark, is_near_multiple, place_at, boot_place, boots, stale_items}
use Rattle.count_spec.specs.Stretches.{placed, with_stale}
use Rattle.count_spec.specs.TrueStretches.{newest_index, true_stretches, past_items, true_place}
use Rattle.count_spec.specs.declared.stretch_place.StretchPlace.{StretchPlace}
use Rattle.count_spec.specs.declared.stretch_place.StretchPlace.TheVariants.{Current, Next, Stale}
use Rattle.count_spec.proofs.Integers.{int_lt-true, int_lt-false}
use Rattle.count_spec.proofs.Restarts.{newest_boot_mark-step}
use Rattle.count_spec.proofs.TrueStretches.{AreNumbered, true_stretches-step, past_items-step}
use Rattle.books_spec.specs.Items.{stamp_of}
use Rattle.books_spec.specs.Items as items
use Rattle.account_spec.specs.Deliveries.{Delivery, boot_of, number_of, numbers_of, datagram_shown}
use Rattle.account_spec.specs.TrueNumbers.{AreClose}
use Rattle.account_spec.specs.Visible.{mark_of_boot, newest_mark, distance, Tells, AreVisible}
use Rattle.account_laws.specs.Found.{EachIsClose}
use Rattle.account_laws.proofs.Parts.{placed-map, stale-map, each-before, place-past, place-later, place-same, HasCurrent, current, current-all}
use Rattle.account_laws.proofs.Numbers.{newest-true}

pub sequences-shown : (ds : List Delivery) → sequences stamp_of (map datagram_shown ds) ≡ map mark_of (numbers_of ds)
sequences-shown [] = refl
sequences-shown (d ∷ ds) = ap (λ (ms : List ℕ). mark_of (number_of d) ∷ ms) (sequences-shown ds)

-- the boot mark of the newest
newest-mark : (width : ℕ) (ds : List Delivery) → AreClose (numbers_of ds)
    → newest_boot_mark stamp_of width (map datagram_shown ds) ≡ newest_mark ds
newest-mark width [] close = refl
newest-mark width (d ∷ []) close = newest_boot_mark-step stamp_of width (datagram_shown d) []
newest-mark width (d ∷ e ∷ before) close =
    let us : List Delivery = e ∷ before in
    let rest : ℤ = newest_boot_mark stamp_of width (map datagram_shown us) in
    newest_boot_mark-step stamp_of width (datagram_shown d) (map datagram_shown us)
    ∙ ap (λ (ms : List ℕ). cond (is_newest (answer width (counted width ms) (mark_of (number_of d)))) (mark_of_boot d) rest) (sequences-shown us)
    ∙ ap (λ (b : Bool). cond b (mark_of_boot d) rest) (newest-true width (number_of d) (number_of e) (numbers_of before) close)
    ∙ ap (λ (m : ℤ). cond (int_lt (greatest (numbers_of us)) (number_of d)) (mark_of_boot d) m) (newest-mark width (e ∷ before) close.1)

-- what the distance tells
tells-place : (slack : ℕ) (d : ℤ) (boot newest : ℕ) (p : StretchPlace) → Tells slack d boot newest
    → (boot ≡ newest → p ≡ Current) → (newest < boot → p ≡ Next) → (boot < newest → p ≡ Stale) → place_at slack d ≡ p
tells-place slack d boot newest p t same later earlier = elim (cases_order boot newest) [
  | inl e ↦ ap (λ (b : Bool). cond b Current (cond (int_lt (pos 0) d) Next Stale)) (t.same.0 e) ∙ sym (same e)
  | inr other ↦ elim other [
    | inl e ↦ apart (t.earlier.0 e).0 ∙ ap (λ (b : Bool). cond b Next Stale) (int_lt-false (pos 0) d (below (t.earlier.0 e).1)) ∙ sym (earlier e)
    | inr e ↦ apart (t.later.0 e).0 ∙ ap (λ (b : Bool). cond b Next Stale) (int_lt-true (pos 0) d (t.later.0 e).1) ∙ sym (later e)
  ]
]
  where
    apart : is_near_multiple slack d ≡ false → place_at slack d ≡ cond (int_lt (pos 0) d) Next Stale
    apart e = ap (λ (b : Bool). cond b Current (cond (int_lt (pos 0) d) Next Stale)) e

    below : d <ℤ pos 0 → d ≤ℤ pos 0
    below h = omega (arith, ints)

-- what is known of the deliveries of a sub-agent
pub record AreSeen (slack : ℕ) (ds : List Delivery) : Type 0 where
  pub numbered : AreNumbered boot_of ds
  pub close : EachIsClose boot_of number_of ds
  pub visible : AreVisible slack ds

pub seen-before : (slack : ℕ) (d : Delivery) (ds : List Delivery) → AreSeen slack (d ∷ ds) → AreSeen slack ds
seen-before slack d ds h = record {
  numbered = h.numbered.1;
  close = each-before (λ (s : List Delivery). AreClose (numbers_of s)) (λ z zs k. k.1)
      (true_place boot_of ds d) d (true_stretches boot_of ds)
      (subst (AllByRecursion (λ (s : List Delivery). AreClose (numbers_of s))) (true_stretches-step boot_of d ds h.numbered) h.close);
  visible = tail ds h.visible;
}
  where
    tail : (es : List Delivery) → AreVisible slack (d ∷ es) → AreVisible slack es
    tail [] v = tt
    tail (e ∷ before) v = v.1

abbrev pub shown_all : List (List Delivery) → List (List items.Datagram)
shown_all bs = map (map datagram_shown) bs

pub place-is : (slack width : ℕ) (d e : Delivery) (before : List Delivery) → AreSeen slack (d ∷ e ∷ before)
    → boot_place stamp_of slack width (shown_all (true_stretches boot_of (e ∷ before))) (datagram_shown d) ≡ true_place boot_of (e ∷ before) d
place-is slack width d e before h =
    ap (λ ss. boot_place stamp_of slack width (shown_all ss) (datagram_shown d)) cur.are
    ∙ ap (λ (m : ℤ). place_at slack (mark_of_boot d -ℤ m)) (newest-mark width (cur.head ∷ cur.tail) close)
    ∙ ap (λ (xs : List Delivery). place_at slack (mark_of_boot d -ℤ newest_mark xs)) (current-all boot_of us cur)
    ∙ tells-place slack (distance us d) (boot_of d) (newest_index boot_of us) (true_place boot_of us d) h.visible.0
    (place-same boot_of d us) (place-later boot_of d us) (place-past boot_of d us)
  where
    us : List Delivery
    us = e ∷ before

    cur : HasCurrent boot_of us
    cur = current boot_of e before h.numbered.1

    close : AreClose (numbers_of (cur.head ∷ cur.tail))
    close = (subst (AllByRecursion (λ (s : List Delivery). AreClose (numbers_of s))) cur.are (seen-before slack d us h).close).0

-- The boots by the rule are the true ones
pub boots-are : (slack width : ℕ) (ds : List Delivery) → AreSeen slack ds
    → boots stamp_of slack width (map datagram_shown ds) ≡ shown_all (true_stretches boot_of ds)
boots-are slack width [] h = refl
boots-are slack width (d ∷ []) h =
    let one : 1 ≤ boot_of d = h.numbered.0 in
    sym (ap shown_all (true_stretches-step boot_of d [] h.numbered
    ∙ ap (λ p. placed p d []) (place-later boot_of d [] (omega arith))))
boots-are slack width (d ∷ e ∷ before) h =
    ap (λ bs. placed (boot_place stamp_of slack width bs (datagram_shown d)) (datagram_shown d) bs)
    (boots-are slack width (e ∷ before) (seen-before slack d (e ∷ before) h))
    ∙ ap (λ p. placed p (datagram_shown d) (shown_all (true_stretches boot_of (e ∷ before)))) (place-is slack width d e before h)
    ∙ placed-map datagram_shown (true_place boot_of (e ∷ before) d) d (true_stretches boot_of (e ∷ before))
    ∙ sym (ap shown_all (true_stretches-step boot_of d (e ∷ before) h.numbered))

pub stale-are : (slack width : ℕ) (ds : List Delivery) → AreSeen slack ds
    → stale_items stamp_of slack width (map datagram_shown ds) ≡ map datagram_shown (past_items boot_of ds)
stale-are slack width [] h = refl
stale-are slack width (d ∷ []) h =
    let one : 1 ≤ boot_of d = h.numbered.0 in
    sym (ap (map datagram_shown) (past_items-step boot_of d []
    ∙ ap (λ p. with_stale p d []) (place-later boot_of d [] (omega arith))))
stale-are slack width (d ∷ e ∷ before) h =
    ap (λ bs. with_stale (boot_place stamp_of slack width bs (datagram_shown d)) (datagram_shown d)
    (stale_items stamp_of slack width (map datagram_shown (e ∷ before))))
    (boots-are slack width (e ∷ before) (seen-before slack d (e ∷ before) h))
    ∙ ap (λ p. with_stale p (datagram_shown d) (stale_items stamp_of slack width (map datagram_shown (e ∷ before)))) (place-is slack width d e before h)
    ∙ ap (with_stale (true_place boot_of (e ∷ before) d) (datagram_shown d)) (stale-are slack width (e ∷ before) (seen-before slack d (e ∷ before) h))
    ∙ stale-map datagram_shown (true_place boot_of (e ∷ before) d) d (past_items boot_of (e ∷ before))
    ∙ sym (ap (map datagram_shown) (past_items-step boot_of d (e ∷ before)))
