-- Whether a sample opens a generation, by true numbers and places.
use Rattle.std.proofs.Common.{◌≡◌, ℕ, ◌<◌, ◌⊎◌, inl, inr, Bool, true, false, cond, ◌&&◌, List, [], ◌∷◌, map, ℤ, ◌-ℤ◌, ◌<ℤ◌, ◌≤ℤ◌, arith, refl, sym, ap, subst, ◌∙◌}
use Rattle.std.specs.Prelude.{int_lt, int_le, ◌%◌, ◌^◌}
use Rattle.std.specs.List.{AllByRecursion}
use Rattle.std.proofs.lemmas.Int.{ints}
use Rattle.count_spec.specs.Windows.{near, mark_of, greatest, answer, counted, is_first}
use Rattle.count_spec.specs.TrueStretches.{newest_index}
use Rattle.count_spec.proofs.Integers.{int_lt-true, int_lt-false, int_le-true, int_le-false}
use Rattle.books_spec.specs.declared.sample_place.SamplePlace.{SamplePlace}
use Rattle.books_spec.specs.Generations.{is_before, later, greatest_place, first_places, opening_place, opens}
use Rattle.books_spec.proofs.Generations.{greatest-moves}
use Rattle.account_spec.specs.TrueNumbers.{AreClose}
use Rattle.account_spec.specs.Arrivals.{Arrived, generation_of, sample_number, sample_numbers}
use Rattle.account_spec.specs.Apparent.{DoesNotRise}
use Rattle.account_laws.specs.Found.{first_of}
use Rattle.account_laws.proofs.Parts.{AllOf}
use Rattle.account_laws.proofs.Moved.{near-moved, near-true, base, base-multiple}
use Rattle.account_laws.proofs.Numbers.{greatest-counted, newest-answer}
use Rattle.account_laws.proofs.Orders.{AreTwo, AreInOrder, IsLess, moved_place, before-moved, before-once, number-decides, earlier-before}

abbrev pub newest : List Arrived → ℕ
newest xs = newest_index generation_of xs

-- what a sample shows of its number, and its place, less by a constant
abbrev pub mark_shown : Arrived → ℕ
mark_shown x = x.sample.number % 2 ^ 32

abbrev pub place_less : ℤ → Arrived → SamplePlace
place_less c x = moved_place c x.place

pub marks-shown : (xs : List Arrived) → map mark_shown xs ≡ map mark_of (sample_numbers xs)
marks-shown [] = refl
marks-shown (x ∷ xs) = ap (λ (ms : List ℕ). mark_of (sample_number x) ∷ ms) (marks-shown xs)

-- ---- the sample with the greatest number

abbrev pub newest_of : Arrived → List Arrived → Arrived
newest_of x [] = x
newest_of x (y ∷ before) = cond (int_lt (greatest (sample_numbers (y ∷ before))) (sample_number x)) x (newest_of y before)

pub newest-all : (P : Arrived → Type 0) (x : Arrived) (before : List Arrived) → AllByRecursion P (x ∷ before) → P (newest_of x before)
newest-all P x [] h = h.0
newest-all P x (y ∷ before) h =
    go (int_lt (greatest (sample_numbers (y ∷ before))) (sample_number x)) (newest-all P y before h.1)
  where
    go : (b : Bool) → P (newest_of y before) → P (cond b x (newest_of y before))
    go true later = h.0
    go false later = later

newest-number : (x : Arrived) (before : List Arrived) → sample_number (newest_of x before) ≡ greatest (sample_numbers (x ∷ before))
newest-number x [] = refl
newest-number x (y ∷ before) =
    go (int_lt (greatest (sample_numbers (y ∷ before))) (sample_number x)) (newest-number y before)
  where
    go : (b : Bool) → sample_number (newest_of y before) ≡ greatest (sample_numbers (y ∷ before))
        → sample_number (cond b x (newest_of y before)) ≡ cond b (sample_number x) (greatest (sample_numbers (y ∷ before)))
    go true later = refl
    go false later = later

less-most : {a b : ℤ} → a <ℤ b → a ≤ℤ b
less-most h = omega (arith, ints)

module _ (c : ℤ) (width : ℕ) where
  abbrev top_place : List Arrived → SamplePlace
  top_place xs = greatest_place (first_places (place_less c) mark_shown width xs)

  -- the greatest place of the First samples is that of the greatest number
  top-place : (g : ℕ) (x : Arrived) (before : List Arrived) → AllOf generation_of g (x ∷ before) → AreInOrder (x ∷ before)
      → AreClose (sample_numbers (x ∷ before)) → top_place (x ∷ before) ≡ place_less c (newest_of x before)
  top-place g x [] of order close = refl
  top-place g x (y ∷ before) of order close =
      greatest-moves (place_less c) mark_shown width x y before
      ∙ ap (λ (ms : List ℕ). cond (is_first (answer width (counted width ms) (mark_shown x)))
      (later (place_less c x) (top_place (y ∷ before))) (top_place (y ∷ before))) (marks-shown (y ∷ before))
      ∙ ap (λ (q : SamplePlace). cond first (later (place_less c x) q) q) (top-place g y before of.1 order.1 close.1)
      ∙ decide (number-decides x n (newest-all (AreTwo x) y before order.0)
      (of.0 ∙ sym (newest-all (λ (z : Arrived). generation_of z ≡ g) y before of.1)))
    where
      n : Arrived
      n = newest_of y before

      first : Bool
      first = is_first (answer width (counted width (map mark_of (sample_numbers (y ∷ before)))) (mark_shown x))

      either : (b d : Bool) (p q : SamplePlace) → d ≡ true → cond b (cond d p q) p ≡ p
      either true d p q e = ap (λ (f : Bool). cond f p q) e
      either false d p q e = refl

      decide : IsLess x n ⊎ IsLess n x → cond first (later (place_less c x) (place_less c n)) (place_less c n)
          ≡ place_less c (cond (int_lt (greatest (sample_numbers (y ∷ before))) (sample_number x)) x n)
      decide (inl (p, l)) =
          let below : sample_number x ≤ℤ greatest (sample_numbers (y ∷ before)) =
          subst (λ (k : ℤ). sample_number x ≤ℤ k) (newest-number y before) (less-most l) in
          either first (is_before (place_less c x) (place_less c n)) (place_less c n) (place_less c x)
          (before-moved c x.place n.place ∙ p)
          ∙ sym (ap (λ (b : Bool). place_less c (cond b x n)) (int_lt-false (greatest (sample_numbers (y ∷ before))) (sample_number x) below))
      decide (inr (p, l)) =
          let above : greatest (sample_numbers (y ∷ before)) <ℤ sample_number x =
          subst (λ (k : ℤ). k <ℤ sample_number x) (newest-number y before) l in
          ap (λ (b : Bool). cond b (later (place_less c x) (place_less c n)) (place_less c n))
          (ap is_first (newest-answer width (sample_number x) (sample_number y) (sample_numbers before) close above))
          ∙ ap (λ (b : Bool). cond b (place_less c n) (place_less c x))
          (before-moved c x.place n.place ∙ before-once n.place x.place p)
          ∙ sym (ap (λ (b : Bool). place_less c (cond b x n)) (int_lt-true (greatest (sample_numbers (y ∷ before))) (sample_number x) above))

  -- ---- whether a sample opens a generation after z ∷ rest, by true numbers and places

  abbrev top_number : Arrived → List Arrived → ℤ
  top_number z rest = greatest (sample_numbers (z ∷ rest)) -ℤ base (sample_numbers (z ∷ rest))

  abbrev rises_not : Arrived → List Arrived → Arrived → Bool
  rises_not z rest x = int_le (near (mark_of (sample_number x)) (top_number z rest)) (top_number z rest)

  abbrev pub truly_opens : Arrived → List Arrived → Arrived → Bool
  truly_opens z rest x = is_before (newest_of z rest).place x.place && rises_not z rest x

  pub opens-is : (g : ℕ) (z : Arrived) (rest : List Arrived) (x : Arrived) → AllOf generation_of g (z ∷ rest)
      → AreInOrder (z ∷ rest) → AreClose (sample_numbers (z ∷ rest))
      → opens (place_less c) mark_shown width (z ∷ rest) x ≡ truly_opens z rest x
  opens-is g z rest x of order close =
      let p = ap (λ (q : SamplePlace). is_before q (place_less c x)) (top-place g z rest of order close)
      ∙ before-moved c (newest_of z rest).place x.place in
      let t : greatest (counted width (map mark_shown (z ∷ rest))) ≡ top_number z rest =
      ap (λ (ms : List ℕ). greatest (counted width ms)) (marks-shown (z ∷ rest))
      ∙ greatest-counted width (sample_number z) (sample_numbers rest) close in
      let r = ap (λ (k : ℤ). int_le (near (mark_shown x) k) k) t in
      λ j. p j && r j

  and-false : (a b : Bool) → b ≡ false → (a && b) ≡ false
  and-false true b e = e
  and-false false b e = refl

  -- one before the newest doesn't, nor does one of the same generation
  pub not-before : (z : Arrived) (rest : List Arrived) (x : Arrived) → is_before x.place (newest_of z rest).place ≡ true
      → truly_opens z rest x ≡ false
  not-before z rest x e =
      ap (λ (b : Bool). b && rises_not z rest x) (before-once x.place (newest_of z rest).place e)

  pub same-not : (g : ℕ) (z : Arrived) (rest : List Arrived) (x : Arrived) → generation_of x ≡ g
      → AllOf generation_of g (z ∷ rest) → AllByRecursion (AreTwo x) (z ∷ rest)
      → AreClose (sample_numbers (x ∷ z ∷ rest)) → truly_opens z rest x ≡ false
  same-not g z rest x is of two close =
      decide (number-decides x n (newest-all (AreTwo x) z rest two)
      (is ∙ sym (newest-all (λ (y : Arrived). generation_of y ≡ g) z rest of)))
    where
      n : Arrived
      n = newest_of z rest

      t : ℤ
      t = greatest (sample_numbers (z ∷ rest))

      lower : (a b d v : ℤ) → a <ℤ b → v ≡ (b -ℤ d) → (a -ℤ d) <ℤ v
      lower a b d v h e = omega (arith, ints)

      decide : IsLess x n ⊎ IsLess n x → truly_opens z rest x ≡ false
      decide (inl (p, l)) = not-before z rest x p
      decide (inr (p, l)) =
          let d : ℤ = base (sample_numbers (z ∷ rest)) in
          let v : near (mark_of (sample_number x)) (t -ℤ d) ≡ (sample_number x -ℤ d) =
          near-true (sample_number x) t d (base-multiple (sample_numbers (z ∷ rest))) close.0.0 close.0.1 in
          let above : t <ℤ sample_number x = subst (λ (k : ℤ). k <ℤ sample_number x) (newest-number z rest) l in
          and-false (is_before n.place x.place) (rises_not z rest x)
          (int_le-false (near (mark_of (sample_number x)) (t -ℤ d)) (t -ℤ d) (lower t (sample_number x) d (near (mark_of (sample_number x)) (t -ℤ d)) above v))

  -- one of a later generation whose number doesn't rise does
  pub later-opens : (g : ℕ) (z : Arrived) (rest : List Arrived) (x : Arrived) → g < generation_of x
      → AllOf generation_of g (z ∷ rest) → AllByRecursion (AreTwo x) (z ∷ rest)
      → DoesNotRise (sample_number x) (greatest (sample_numbers (z ∷ rest))) → truly_opens z rest x ≡ true
  later-opens g z rest x above of two falls =
      let n : Arrived = newest_of z rest in
      let is : generation_of n ≡ g = newest-all (λ (y : Arrived). generation_of y ≡ g) z rest of in
      let p : is_before n.place x.place ≡ true =
      earlier-before n x (turned (newest-all (AreTwo x) z rest two)) (omega arith) in
      let d : ℤ = base (sample_numbers (z ∷ rest)) in
      let t : ℤ = greatest (sample_numbers (z ∷ rest)) in
      let r : rises_not z rest x ≡ true = int_le-true (near (mark_of (sample_number x)) (t -ℤ d)) (t -ℤ d)
      (lower (near (mark_of (sample_number x)) t) t d (near (mark_of (sample_number x)) (t -ℤ d)) falls
      (near-moved (mark_of (sample_number x)) t d (base-multiple (sample_numbers (z ∷ rest))))) in
      λ j. p j && r j
    where
      turned : {a b : Arrived} → AreTwo a b → AreTwo b a
      turned (inl e) = inr e
      turned (inr e) = inl e

      lower : (v t d w : ℤ) → v ≤ℤ t → w ≡ (v -ℤ d) → w ≤ℤ (t -ℤ d)
      lower v t d w h e = omega (arith, ints)

  -- ---- the sample that opened the current generation

  pub opening-is : (x : Arrived) (before : List Arrived)
      → opening_place (place_less c) mark_shown (x ∷ before) ≡ place_less c (first_of x before)
  opening-is x [] = refl
  opening-is x (y ∷ before) = opening-is y before

pub first-all : (P : Arrived → Type 0) (x : Arrived) (before : List Arrived) → AllByRecursion P (x ∷ before) → P (first_of x before)
first-all P x [] h = h.0
first-all P x (y ∷ before) h = first-all P y before h.1
