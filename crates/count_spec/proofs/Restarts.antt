-- Where items of a stream belong.
use Rattle.std.proofs.Common.{◌≡◌, ℕ, ◌+◌, ◌-◌, ◌*◌, ◌<◌, ◌≤◌, inl, inr, Bool, true, false, cond, ◌||◌, List, [], ◌∷◌, ℤ, pos, ◌+ℤ◌, ◌-ℤ◌, ◌*ℤ◌, arith, refl, ap, ◌∙◌, sym}
use Rattle.std.specs.Prelude.{int_lt, unsigned_abs, nat_le, ◌↔◌}
use Rattle.std.specs.Ordering.{int_eq}
use Rattle.std.specs.List.{count_by, sum_by}
use Rattle.std.proofs.lemmas.Int.{ints}
use Rattle.std.proofs.lemmas.Bool.{cases_Bool, leb-true, leb-false, le-leb, or_cases}
use Rattle.count_spec.specs.Windows.{near, greatest, least, has, place, answer, counting, counted, is_newest}
use Rattle.count_spec.specs.declared.entered.Place.TheVariants.{Newest, Inside, Least}
use Rattle.count_spec.specs.declared.entered.Entered.{Entered}
use Rattle.count_spec.specs.declared.entered.Entered.TheVariants.{First}
use Rattle.count_spec.specs.Boots.{Stamp, boot_mark, sequences, counts, boot_mark_of, newest_boot_mark, is_near_multiple, boot_place, boots, stale_items}
use Rattle.count_spec.proofs.Integers.{HasRemainder, has_remainder, int_eq-same, int_eq-other}
use Rattle.count_spec.proofs.Stretches.{stretches-count}
use Rattle.count_spec.proofs.Sets.{or-right, has-greatest, has-differs}
use Rattle.count_spec.proofs.Answers.{number_answer-cases}

pub boots-count : {X : Type 0} (stamp : X → Stamp) (slack width : ℕ) (p : X → Bool) (items : List X)
    → sum_by (count_by p) (boots stamp slack width items) + count_by p (stale_items stamp slack width items)
    ≡ count_by p items
boots-count stamp slack width p items = stretches-count (boot_place stamp slack width) p items

-- a boot mark's difference from that of the same boot is about a multiple of 2^32
near_multiple-from : (slack : ℕ) (d : ℤ) → is_near_multiple slack d ≡ true
    → (k : ℤ) × (unsigned_abs (d -ℤ (k *ℤ pos 4294967296)) ≤ slack)
near_multiple-from slack d e =
    let r : HasRemainder d = has_remainder d in
    let s : (d +ℤ pos (4294967296 * r.up)) ≡ (pos r.rest +ℤ pos (4294967296 * r.down)) = r.sums in
    let b : r.rest < 4294967296 = r.below in
    let f : (nat_le r.rest slack || nat_le (4294967296 - r.rest) slack) ≡ true =
    ap (λ (z : ℤ). nat_le (unsigned_abs z) slack || nat_le (4294967296 - unsigned_abs z) slack) (sym r.is)
    ∙ e in
    elim (or_cases (nat_le r.rest slack) (nat_le (4294967296 - r.rest) slack) f) [
      | inl low ↦ let h = leb-true _ _ low in (pos r.down -ℤ pos r.up, omega (arith, ints))
      | inr high ↦ let h = leb-true _ _ high in ((pos r.down -ℤ pos r.up) +ℤ pos 1, omega (arith, ints))
    ]

near_multiple-to : (slack : ℕ) (d k : ℤ) → unsigned_abs (d -ℤ (k *ℤ pos 4294967296)) ≤ slack
    → is_near_multiple slack d ≡ true
near_multiple-to slack d k near_k =
    let r : HasRemainder d = has_remainder d in
    let s : (d +ℤ pos (4294967296 * r.up)) ≡ (pos r.rest +ℤ pos (4294967296 * r.down)) = r.sums in
    let b : r.rest < 4294967296 = r.below in
    let f : (nat_le r.rest slack || nat_le (4294967296 - r.rest) slack) ≡ true =
    elim (cases_Bool (nat_le r.rest slack)) [
      | inl e ↦ ap (λ (t : Bool). t || nat_le (4294967296 - r.rest) slack) e
      | inr e ↦
          let far : slack < r.rest = leb-false _ _ e in
          or-right (nat_le r.rest slack) (nat_le (4294967296 - r.rest) slack)
          (le-leb _ _ (omega (arith, ints)))
    ] in
    ap (λ (z : ℤ). nat_le (unsigned_abs z) slack || nat_le (4294967296 - unsigned_abs z) slack) r.is ∙ f

pub near_multiple-iff : (slack : ℕ) (d : ℤ)
    → (is_near_multiple slack d ≡ true) ↔ ((k : ℤ) × (unsigned_abs (d -ℤ (k *ℤ pos 4294967296)) ≤ slack))
near_multiple-iff slack d = (near_multiple-from slack d, λ h. near_multiple-to slack d h.0 h.1)

-- the newest item changes exactly where a number above all before it comes
newest-step : (mark_at : ℤ → ℤ) (own : ℤ) (width : ℕ) (set : List ℤ) (mark : ℕ)
    → cond (counts (answer width set mark) (greatest (counting (answer width set mark) set))) own
    (mark_at (greatest (counting (answer width set mark) set)))
    ≡ cond (is_newest (answer width set mark)) own (mark_at (greatest set))
newest-step mark_at own width [] mark = rw (int_eq-same (pos mark)) refl
newest-step mark_at own width (n ∷ more) mark =
    number_answer-cases Moved width (n ∷ more) (near mark (greatest (n ∷ more)))
    (λ e. refl) (λ e f. refl) (λ e f. first (near mark (greatest (n ∷ more))) f)
  where
    Moved : Entered → Type 0
    Moved a = cond (counts a (greatest (counting a (n ∷ more)))) own
        (mark_at (greatest (counting a (n ∷ more))))
        ≡ cond (is_newest a) own (mark_at (greatest (n ∷ more)))

    first : (k : ℤ) → has (n ∷ more) k ≡ false → Moved (First (place (n ∷ more) k) k)
    first k out = above (int_lt (greatest (n ∷ more)) k) refl
      where
        below : (b : Bool) → is_newest (First (cond b Least Inside) k) ≡ false
        below true = refl
        below false = refl

        kept : (a : Entered) → counts a (greatest (n ∷ more)) ≡ int_eq k (greatest (n ∷ more))
            → is_newest a ≡ false
            → cond (counts a (greatest (n ∷ more))) own (mark_at (greatest (n ∷ more)))
            ≡ cond (is_newest a) own (mark_at (greatest (n ∷ more)))
        kept a c i =
            rw (
              c,
              i,
              int_eq-other k (greatest (n ∷ more))
                  (has-differs (n ∷ more) k _ out (has-greatest n more)),
            ) refl

        above : (b : Bool) → int_lt (greatest (n ∷ more)) k ≡ b
            → cond (int_eq k (cond b k (greatest (n ∷ more)))) own (mark_at (cond b k (greatest (n ∷ more))))
            ≡ cond (is_newest (First (cond b Newest (cond (int_lt k (least (n ∷ more))) Least Inside)) k)) own
            (mark_at (greatest (n ∷ more)))
        above true e = rw (int_eq-same k) refl
        above false e = kept (First (cond (int_lt k (least (n ∷ more))) Least Inside) k) refl
            (below (int_lt k (least (n ∷ more))))

pub newest_boot_mark-step : {X : Type 0} (stamp : X → Stamp) (width : ℕ) (x : X) (before : List X)
    → newest_boot_mark stamp width (x ∷ before)
    ≡ cond (is_newest (answer width (counted width (sequences stamp before)) (stamp x).sequence))
    (boot_mark (stamp x)) (newest_boot_mark stamp width before)
newest_boot_mark-step stamp width x before =
    newest-step (boot_mark_of stamp width before) (boot_mark (stamp x)) width
    (counted width (sequences stamp before)) (stamp x).sequence
