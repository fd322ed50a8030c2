-- One delivery more of a sub-agent.
use Rattle.std.proofs.Common.{◌≡◌, ◌∙◌, ℕ, Bool, true, false, cond, ◌&&◌, ◌||◌, Option, Some, None, List, [], ◌∷◌, map, ℤ, pos, ◌-ℤ◌, refl, sym, ap}
use Rattle.std.specs.Prelude.{◌==◌, nat_lt, int_lt, option_map}
use Rattle.std.specs.List.{filter}
use Rattle.std.proofs.lemmas.Option.{same_Some}
use Rattle.account_spec.specs.Deliveries.{Delivery, boot_of, number_of}
use Rattle.trial_spec.specs.VisibleTests.{NewestBoot, begun_by, followed_by, newest_boot, tells, shows_boot, are_visible}
use Rattle.trial_spec.specs.CloseTests.{are_close_each}
use Rattle.trial_spec.specs.Newest.{newest_at, newest_each, is_close_to}
use Rattle.trial_spec.proofs.Newest.{newest-is}
use Rattle.trial_spec.proofs.Newest as kept_newest
use Rattle.trial_premises.specs.declared.delivered.TrueDatagram.{TrueDatagram}
use Rattle.trial_premises.specs.ByIndex.{kept}
use Rattle.trial_premises.specs.Delivered.{IsOf, mark, newest_shown}
use Rattle.trial_premises.specs.Newest.{greatest_of, as_int, newer_of, KeepsNewest}
use Rattle.trial_premises.specs.Boots.{BootState, shows_after, with_datagram, newest_among, StandsFor}
use Rattle.trial_premises.proofs.Numbers.{keeps-more}

greatest-same : (ms : List ℤ) → kept_newest.greatest_of ms ≡ greatest_of ms
greatest-same [] = refl
greatest-same (m ∷ more) = refl

-- what is kept of an index tells whether a further number is close
module _ {X : Type 0} (index : X → ℕ) (number : X → ℤ) where
  pub close-more : (slots : List (Option ℕ)) (x : X) (xs : List X) (i n : ℕ) (close : Bool) → index x ≡ i → number x ≡ pos n
      → KeepsNewest index number slots xs → close ≡ are_close_each index number xs
      → (is_close_to (as_int (kept slots i)) (pos n) && close) ≡ are_close_each index number (x ∷ xs)
  close-more slots x xs i n close at is h c =
      let newest : as_int (kept slots i) ≡ newest_at i (newest_each index number xs) =
      h i ∙ sym (greatest-same (map number (filter (λ (y : X). index y == i) xs))) ∙ sym (newest-is index number i xs) in
      (λ j. is_close_to (newest j) (pos n) && c j)
      ∙ (λ j. is_close_to (newest_at (sym at j) (newest_each index number xs)) (sym is j) && are_close_each index number xs)

begun : (t : TrueDatagram) (d : Delivery) → IsOf t d → begun_by d ≡ newest_shown t
begun t d h = λ j. record {
  boot = h.boot j;
  number = pos (h.number j);
  mark = pos (h.arrival j) -ℤ pos (h.uptime j);
}

shown-cond : (b : Bool) (t n : TrueDatagram) → newest_shown (cond b t n) ≡ cond b (newest_shown t) (newest_shown n)
shown-cond true t n = refl
shown-cond false t n = refl

followed : (n t : TrueDatagram) (d : Delivery) → IsOf t d
    → newest_shown (with_datagram (Some n) t) ≡ followed_by (newest_shown n) d
followed n t d h =
    shown-cond (nat_lt n.boot t.boot || ((t.boot == n.boot) && nat_lt n.number t.number)) t n
    ∙ (λ j. cond (nat_lt n.boot (sym h.boot j) || ((sym h.boot j == n.boot) && int_lt (pos n.number) (pos (sym h.number j))))
    (sym (begun t d h) j) (newest_shown n))

newest-more : (o : Option TrueDatagram) (t : TrueDatagram) (d : Delivery) (before : List Delivery) → IsOf t d
    → option_map newest_shown o ≡ newest_among before → Some (newest_shown (with_datagram o t)) ≡ newest_among (d ∷ before)
newest-more None t d [] h e = ap Some (sym (begun t d h))
newest-more None t d (f ∷ before) h e = absurd cc
newest-more (Some n) t d [] h e = absurd cc
newest-more (Some n) t d (f ∷ before) h e =
    let same : newest_shown n ≡ newest_boot f before = same_Some (newest_shown n) (newest_boot f before) e in
    ap Some (followed n t d h ∙ ap (λ (m : NewestBoot). followed_by m d) same)

visible-more : (slack : ℕ) (o : Option TrueDatagram) (visible : Bool) (t : TrueDatagram) (d : Delivery) (before : List Delivery)
    → IsOf t d → option_map newest_shown o ≡ newest_among before → visible ≡ are_visible slack before
    → (shows_after slack o t && visible) ≡ are_visible slack (d ∷ before)
visible-more slack None visible t d [] h e v = v
visible-more slack None visible t d (f ∷ before) h e v = absurd cc
visible-more slack (Some n) visible t d [] h e v = absurd cc
visible-more slack (Some n) visible t d (f ∷ before) h e v =
    let same : newest_shown n ≡ newest_boot f before = same_Some (newest_shown n) (newest_boot f before) e in
    (λ j. tells slack ((pos (sym h.arrival j) -ℤ pos (sym h.uptime j)) -ℤ mark n) (sym h.boot j) n.boot && v j)
    ∙ ap (λ (m : NewestBoot). shows_boot slack m d && are_visible slack (f ∷ before)) same

-- the deliveries with one more
pub boots-more : (slack : ℕ) (s now : BootState) (t : TrueDatagram) (d : Delivery) (before : List Delivery) → IsOf t d
    → now.newest ≡ Some (with_datagram s.newest t)
    → now.visible ≡ (shows_after slack s.newest t && s.visible)
    → now.close ≡ (is_close_to (as_int (kept s.numbers t.boot)) (pos t.number) && s.close)
    → ((i : ℕ) → kept now.numbers i
    ≡ cond (t.boot == i) (Some (newer_of (kept s.numbers t.boot) t.number)) (kept s.numbers i))
    → StandsFor slack s before → StandsFor slack now (d ∷ before)
boots-more slack s now t d before h newest visible close numbers st = record {
  newest_is = ap (option_map newest_shown) newest ∙ newest-more s.newest t d before h st.newest_is;
  visible_is = visible ∙ visible-more slack s.newest s.visible t d before h st.newest_is st.visible_is;
  numbers_are = keeps-more boot_of number_of s.numbers now.numbers d before t.boot t.number h.boot (ap pos h.number) numbers
      st.numbers_are;
  close_is = close ∙ close-more boot_of number_of s.numbers d before t.boot t.number s.close h.boot (ap pos h.number)
      st.numbers_are st.close_is;
}

-- what is kept may be kept in other slots
pub boots-kept : (slack : ℕ) (s now : BootState) (ds : List Delivery) → now.newest ≡ s.newest → now.visible ≡ s.visible
    → now.close ≡ s.close → ((i : ℕ) → kept now.numbers i ≡ kept s.numbers i) → StandsFor slack s ds → StandsFor slack now ds
boots-kept slack s now ds newest visible close numbers st = record {
  newest_is = ap (option_map newest_shown) newest ∙ st.newest_is;
  visible_is = visible ∙ st.visible_is;
  numbers_are = λ i. ap as_int (numbers i) ∙ st.numbers_are i;
  close_is = close ∙ st.close_is;
}
