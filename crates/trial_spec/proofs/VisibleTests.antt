-- What is kept of the newest boot is what the premise asks for; so its test is exact.
use Rattle.std.proofs.Common.{◌≡◌, ℕ, ◌<◌, inl, inr, Bool, true, false, cond, ◌&&◌, ◌||◌, List, [], ◌∷◌, ℤ, pos, ◌<ℤ◌, arith, refl, sym, ap, subst, ◌∙◌}
use Rattle.std.specs.Prelude.{◌==◌, nat_lt, nat_le, int_lt}
use Rattle.std.specs.Bool.{Decides}
use Rattle.std.proofs.lemmas.Int.{ints}
use Rattle.std.proofs.lemmas.Bool.{cases_Bool, cases_order, eqb-true, eq-eqb, ne_eqb, ltb-true, lt-ltb, le-ltb, le-leb}
use Rattle.std.proofs.lemmas.Bool.Decides.{Decides-and}
use Rattle.count_spec.specs.Windows.{greatest}
use Rattle.count_spec.specs.Boots.{is_near_multiple}
use Rattle.count_spec.specs.TrueStretches.{newest_index}
use Rattle.account_spec.specs.Deliveries.{Delivery, boot_of, number_of, numbers_of}
use Rattle.account_spec.specs.Visible.{mark_of_boot, newest_mark, distance, Tells, AreVisible}
use Rattle.trial_spec.specs.VisibleTests.{NewestBoot, begun_by, followed_by, newest_boot, tells, shows_boot, are_visible}
use Rattle.trial_spec.proofs.Latest.{HasOne, own, own-later, own-same, own-earlier, own-some, own-one}

-- ---- what is kept

-- of the boot of this number, by its deliveries
abbrev summed : ℕ → List Delivery → NewestBoot
summed boot ds = record { boot = boot; number = greatest (numbers_of ds); mark = newest_mark ds }

abbrev summary : List Delivery → NewestBoot
summary ds = summed (newest_index boot_of ds) (own boot_of ds)

module _ (d e : Delivery) (before : List Delivery) where
  abbrev us : List Delivery
  us = e ∷ before

  abbrev newest : ℕ
  newest = newest_index boot_of us

  follow : (a b : Bool) → nat_lt newest (boot_of d) ≡ a → (boot_of d == newest) ≡ b
      → followed_by (summary us) d
      ≡ cond (a || (b && int_lt (greatest (numbers_of (own boot_of us))) (number_of d))) (begun_by d) (summary us)
  follow a b p q = λ j.
      cond (p j || (q j && int_lt (greatest (numbers_of (own boot_of us))) (number_of d))) (begun_by d) (summary us)

  -- of the same boot
  same-boot : (h : Delivery) (t : List Delivery) → boot_of d ≡ newest
      → cond (int_lt (greatest (numbers_of (h ∷ t))) (number_of d)) (begun_by d) (summed newest (h ∷ t))
      ≡ summed newest (d ∷ h ∷ t)
  same-boot h t same = go (int_lt (greatest (numbers_of (h ∷ t))) (number_of d))
    where
      go : (b : Bool) → cond b (begun_by d) (summed newest (h ∷ t))
          ≡ record {
            boot = newest;
            number = cond b (number_of d) (greatest (numbers_of (h ∷ t)));
            mark = cond b (mark_of_boot d) (newest_mark (h ∷ t));
          }
      go true = λ j. record { boot = same j; number = number_of d; mark = mark_of_boot d }
      go false = refl

  equal : boot_of d ≡ newest → followed_by (summary us) d ≡ summary (d ∷ us)
  equal same =
      let c : HasOne (own boot_of us) = own-some boot_of e before in
      let m : newest_index boot_of (d ∷ us) ≡ newest = omega arith in
      let o : own boot_of (d ∷ us) ≡ d ∷ own boot_of us = own-same boot_of d us same in
      follow false true (le-ltb newest (boot_of d) (omega arith)) (eq-eqb (boot_of d) newest same)
      ∙ subst (λ (ys : List Delivery). cond (int_lt (greatest (numbers_of ys)) (number_of d)) (begun_by d) (summed newest ys)
      ≡ summed newest (d ∷ ys)) (sym c.are) (same-boot c.head c.tail same)
      ∙ (λ j. summed (sym m j) (sym o j))

  below : boot_of d < newest → followed_by (summary us) d ≡ summary (d ∷ us)
  below less =
      let m : newest_index boot_of (d ∷ us) ≡ newest = omega arith in
      let o : own boot_of (d ∷ us) ≡ own boot_of us = own-earlier boot_of d us less in
      follow false false (le-ltb newest (boot_of d) (omega arith)) (ne_eqb (boot_of d) newest (λ q. omega arith))
      ∙ (λ j. summed (sym m j) (sym o j))

  above : newest < boot_of d → followed_by (summary us) d ≡ summary (d ∷ us)
  above more =
      let m : newest_index boot_of (d ∷ us) ≡ boot_of d = omega arith in
      let o : own boot_of (d ∷ us) ≡ d ∷ [] = own-later boot_of d us more in
      follow true false (lt-ltb newest (boot_of d) more) (ne_eqb (boot_of d) newest (λ q. omega arith))
      ∙ (λ j. summed (sym m j) (sym o j))

  pub step : followed_by (summary us) d ≡ summary (d ∷ us)
  step = elim (cases_order (boot_of d) newest) [
    | inl same ↦ equal same
    | inr other ↦ elim other [ inl less ↦ below less | inr more ↦ above more ]
  ]

kept-is : (d : Delivery) (before : List Delivery) → newest_boot d before ≡ summary (d ∷ before)
kept-is d [] =
    let m : newest_index boot_of (d ∷ []) ≡ boot_of d = omega arith in
    let o : own boot_of (d ∷ []) ≡ d ∷ [] = own-one boot_of d in
    λ j. summed (sym m j) (sym o j)
kept-is d (e ∷ before) = ap (λ (n : NewestBoot). followed_by n d) (kept-is e before) ∙ step d e before

-- ---- what a distance tells

near-none : (slack : ℕ) → is_near_multiple slack (pos 0) ≡ true
near-none slack = ap (λ (b : Bool). b || nat_le 4294967296 slack) (le-leb 0 slack (omega arith))

tells-is : (slack : ℕ) (far : ℤ) (boot newest : ℕ)
    → Decides (tells slack far boot newest) (Tells slack far boot newest)
tells-is slack far boot newest = go (is_near_multiple slack far) (int_lt (pos 0) far) refl refl
  where
    some : is_near_multiple slack far ≡ false → far ≡ pos 0 → ⊥
    some e z =
        let n : is_near_multiple slack far ≡ true = ap (is_near_multiple slack) z ∙ near-none slack in
        absurd cc

    less : is_near_multiple slack far ≡ false → int_lt (pos 0) far ≡ false → far <ℤ pos 0
    less e f = elim (cases_Bool (int_lt far (pos 0))) [
      | inl g ↦ omega (arith, ints)
      | inr g ↦ absurd (some e (omega (arith, ints)))
    ]

    go : (b c : Bool) → is_near_multiple slack far ≡ b → int_lt (pos 0) far ≡ c
        → Decides (cond b (boot == newest) (cond c (nat_lt newest boot) (nat_lt boot newest))) (Tells slack far boot newest)
    go true c e f = (
      (λ t.
          let s : boot ≡ newest = eqb-true boot newest t in
          record {
            same = ((λ q. e), (λ q. s));
            later = ((λ q. absurd (omega arith)), (λ q. let n : is_near_multiple slack far ≡ false = q.0 in absurd cc));
            earlier = ((λ q. absurd (omega arith)), (λ q. let n : is_near_multiple slack far ≡ false = q.0 in absurd cc));
          }),
      (λ h. eq-eqb boot newest (h.same.1 e)),
    )
    go false true e f =
        let up : pos 0 <ℤ far = omega (arith, ints) in (
          (λ t.
              let s : newest < boot = ltb-true newest boot t in
              record {
                same = ((λ q. absurd (omega arith)), (λ q. absurd cc));
                later = ((λ q. (e, up)), (λ q. s));
                earlier = ((λ q. absurd (omega arith)), (λ q. let d : far <ℤ pos 0 = q.1 in absurd (omega (arith, ints))));
              }),
          (λ h. lt-ltb newest boot (h.later.1 (e, up))),
        )
    go false false e f =
        let down : far <ℤ pos 0 = less e f in (
          (λ t.
              let s : boot < newest = ltb-true boot newest t in
              record {
                same = ((λ q. absurd (omega arith)), (λ q. absurd cc));
                later = ((λ q. absurd (omega arith)), (λ q. let u : pos 0 <ℤ far = q.1 in absurd (omega (arith, ints))));
                earlier = ((λ q. (e, down)), (λ q. s));
              }),
          (λ h. lt-ltb boot newest (h.earlier.1 (e, down))),
        )

-- ---- the premise

shown : (slack : ℕ) (d e : Delivery) (before : List Delivery) → Decides (shows_boot slack (newest_boot e before) d)
    (Tells slack (distance (e ∷ before) d) (boot_of d) (newest_index boot_of (e ∷ before)))
shown slack d e before =
    subst (λ (n : NewestBoot). Decides (shows_boot slack n d)
    (Tells slack (distance (e ∷ before) d) (boot_of d) (newest_index boot_of (e ∷ before)))) (sym (kept-is e before))
    (tells-is slack (distance (e ∷ before) d) (boot_of d) (newest_index boot_of (e ∷ before)))

pub decides-visible : (slack : ℕ) (ds : List Delivery) → Decides (are_visible slack ds) (AreVisible slack ds)
decides-visible slack [] = (λ e. tt, λ h. refl)
decides-visible slack (d ∷ []) = (λ e. tt, λ h. refl)
decides-visible slack (d ∷ e ∷ before) =
    Decides-and (shows_boot slack (newest_boot e before) d) (are_visible slack (e ∷ before))
    (shown slack d e before) (decides-visible slack (e ∷ before))
