-- The places at which the samples of a delivery are entered: those of the agent's numbers, less one constant.
use Rattle.std.proofs.Common.{◌≡◌, ℕ, ◌<◌, ◌≤◌, inl, inr, Bool, true, false, cond, not, ◌&&◌, List, [], ◌∷◌, map, ℤ, ◌-ℤ◌, pos, arith, refl, sym, ap, subst, ◌∙◌}
use Rattle.std.specs.List.{AllByRecursion}
use Rattle.std.proofs.lemmas.Bool.{cases_order, lt-ltb, le-ltb}
use Rattle.count_spec.specs.Windows.{mark_of, has, place, answer, counted}
use Rattle.count_spec.specs.Boots.{boots}
use Rattle.count_spec.specs.Stretches.{placed}
use Rattle.count_spec.specs.TrueStretches.{newest_index, stretch_of, true_stretches}
use Rattle.count_spec.specs.declared.entered.Place.{Place}
use Rattle.count_spec.specs.declared.entered.Entered.{Entered}
use Rattle.count_spec.specs.declared.entered.Entered.TheVariants.{First, Repeat, Late}
use Rattle.count_spec.specs.declared.stretch_place.StretchPlace.{StretchPlace}
use Rattle.count_spec.specs.declared.stretch_place.StretchPlace.TheVariants.{Current, Next, Stale}
use Rattle.count_spec.proofs.TrueStretches.{true_stretches-step}
use Rattle.books_spec.specs.declared.limits.Limits.{Limits}
use Rattle.books_spec.specs.Items.{stamp_of}
use Rattle.books_spec.specs.Items as items
use Rattle.books_spec.specs.Books.{own}
use Rattle.books_spec.specs.PlacedSamples.{PlacedSample, placed_from, placed_at, placed_after, placed_in}
use Rattle.account_spec.specs.Deliveries.{Delivery, boot_of, number_of, numbers_of, sample_shown, datagram_shown}
use Rattle.account_spec.specs.TrueNumbers.{is_late, in_time, AreClose}
use Rattle.account_spec.specs.Arrivals.{is_first_in_time}
use Rattle.account_spec.specs.Accounts.{is_delivered}
use Rattle.account_laws.proofs.Moved.{base, back}
use Rattle.account_laws.proofs.Numbers.{true_set, answer-is}
use Rattle.account_laws.proofs.Parts.{place-past, place-later, place-same, none-yet, HasCurrent, current}
use Rattle.account_laws.proofs.BootSteps.{AreSeen, seen-before, shown_all, sequences-shown, place-is, boots-are}

module _ (l : Limits) (d : Delivery) where
  abbrev w : ℕ
  w = l.datagram_width

  abbrev ss : List items.Sample
  ss = map sample_shown d.datagram.samples

  -- behind these deliveries of its boot
  abbrev Placed : List Delivery → List PlacedSample
  Placed boot = placed_from (number_of d -ℤ base (numbers_of (d ∷ boot))) 0 ss

  abbrev Placing : List (List items.Datagram) → StretchPlace → List PlacedSample
  Placing bs p = placed_after w p bs (mark_of (number_of d)) ss

  abbrev InTime : List Delivery → List PlacedSample
  InTime own = cond (is_delivered w own d) (Placed (stretch_of boot_of d.boot own)) []

  abbrev FirstInTime : List Delivery → List PlacedSample
  FirstInTime boot = cond (is_first_in_time w boot d) (Placed boot) []

  by-answer : (a b : Bool) (p : Place) (n : ℤ)
      → placed_at (cond a Late (cond b Repeat (First p n))) ss ≡ cond (not a && not b) (placed_from n 0 ss) []
  by-answer true b p n = refl
  by-answer false true p n = refl
  by-answer false false p n = refl

  not-past : (own : List Delivery) → newest_index boot_of own ≤ boot_of d → FirstInTime (stretch_of boot_of d.boot own) ≡ InTime own
  not-past own h =
      sym (ap (λ (b : Bool). cond (not b && is_first_in_time w (stretch_of boot_of d.boot own) d) (Placed (stretch_of boot_of d.boot own)) [])
      (le-ltb (boot_of d) (newest_index boot_of own) h))

  on_later : (own : List Delivery) (bs : List (List items.Datagram)) → newest_index boot_of own < boot_of d → Placing bs Next ≡ InTime own
  on_later own bs later =
      ap (λ (k : ℤ). placed_from k 0 ss) (back (number_of d) (pos (mark_of (number_of d))))
      ∙ sym (ap FirstInTime (none-yet boot_of d.boot own later))
      ∙ not-past own (omega arith)

  on_earlier : (own : List Delivery) (bs : List (List items.Datagram)) → boot_of d < newest_index boot_of own → Placing bs Stale ≡ InTime own
  on_earlier own bs earlier =
      sym (ap (λ (b : Bool). cond (not b && is_first_in_time w (stretch_of boot_of d.boot own) d) (Placed (stretch_of boot_of d.boot own)) [])
      (lt-ltb (boot_of d) (newest_index boot_of own) earlier))

  on_same : (own : List Delivery) (c : HasCurrent boot_of own) → boot_of d ≡ newest_index boot_of own
      → AreClose (numbers_of (d ∷ c.head ∷ c.tail)) → Placing (shown_all (true_stretches boot_of own)) Current ≡ InTime own
  on_same own c same close =
      let cur : List Delivery = c.head ∷ c.tail in
      let c_of : ℤ = base (numbers_of cur) in
      let n : ℤ = number_of d in
      ap (λ (bs : List (List Delivery)). Placing (shown_all bs) Current) c.are
      ∙ ap (λ (ms : List ℕ). placed_at (answer w (counted w ms) (mark_of n)) ss) (sequences-shown cur)
      ∙ ap (λ (a : Entered). placed_at a ss) (answer-is w n (number_of c.head) (numbers_of c.tail) close)
      ∙ by-answer (is_late w (numbers_of cur) n) (has (in_time w (numbers_of cur)) n) (place (true_set w c_of (numbers_of cur)) (n -ℤ c_of)) (n -ℤ c_of)
      ∙ ap FirstInTime (c.is ∙ ap (λ (i : ℕ). stretch_of boot_of i own) (sym same))
      ∙ not-past own (omega arith)

  pub placing : (own : List Delivery) → AreSeen l.boot_slack (d ∷ own)
      → placed_in l (boots stamp_of l.boot_slack w (map datagram_shown own)) (datagram_shown d) ≡ InTime own
  placing [] h = let one : 1 ≤ boot_of d = h.numbered.0 in on_later [] [] (omega arith)
  placing (e ∷ before) h =
      ap (λ bs. placed_in l bs (datagram_shown d)) (boots-are l.boot_slack w own (seen-before l.boot_slack d own h))
      ∙ ap (Placing bs) (place-is l.boot_slack w d e before h)
      ∙ elim (cases_order (boot_of d) (newest_index boot_of own)) [
        | inl same ↦ ap (Placing bs) (place-same boot_of d own same) ∙ on_same own c same (near same)
        | inr other ↦ elim other [
          | inl earlier ↦ ap (Placing bs) (place-past boot_of d own earlier) ∙ on_earlier own bs earlier
          | inr later ↦ ap (Placing bs) (place-later boot_of d own later) ∙ on_later own bs later
        ]
      ]
    where
      own : List Delivery
      own = e ∷ before

      bs : List (List items.Datagram)
      bs = shown_all (true_stretches boot_of own)

      c : HasCurrent boot_of own
      c = current boot_of e before h.numbered.1

      near : boot_of d ≡ newest_index boot_of own → AreClose (numbers_of (d ∷ c.head ∷ c.tail))
      near same = (subst (AllByRecursion (λ (s : List Delivery). AreClose (numbers_of s)))
          (true_stretches-step boot_of d own h.numbered
          ∙ ap (λ p. placed p d (true_stretches boot_of own)) (place-same boot_of d own same)
          ∙ ap (λ ss. placed Current d ss) c.are) h.close).0
