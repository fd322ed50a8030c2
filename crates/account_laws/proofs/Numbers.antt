-- Where fewer than 2^31 numbers separate receipts, what is counted of the marks is the true numbers less one constant.
use Rattle.std.proofs.Common.{◌≡◌, ℕ, zero, suc, ◌+◌, ◌-◌, ◌<◌, inl, inr, Bool, true, false, cond, not, ◌&&◌, ◌||◌, List, [], ◌∷◌, length, map, ℤ, pos, ◌+ℤ◌, ◌-ℤ◌, ◌≤ℤ◌, ◌<ℤ◌, arith, refl, sym, ap, ◌∙◌}
use Rattle.std.specs.Prelude.{int_lt, int_le, unsigned_abs}
use Rattle.std.specs.Ordering.{int_eq}
use Rattle.std.specs.Int.{int_max}
use Rattle.std.specs.List.{count_by}
use Rattle.std.proofs.lemmas.Int.{ints}
use Rattle.std.proofs.lemmas.Bool.{cases_Bool}
use Rattle.std.proofs.lemmas.List.{length-map}
use Rattle.count_spec.specs.Windows.{near, mark_of, greatest, least, has, AreDistinct, place, number_answer, answer, answers, counting, counted, is_newest, late_count, repeat_count}
use Rattle.count_spec.specs.Windows as windows
use Rattle.count_spec.specs.declared.entered.Place.{Place}
use Rattle.count_spec.specs.declared.entered.Place.TheVariants.{Newest, Least, Inside}
use Rattle.count_spec.specs.declared.entered.Entered.{Entered}
use Rattle.count_spec.specs.declared.entered.Entered.TheVariants.{First, Repeat, Late}
use Rattle.count_spec.specs.Parts.{parts, parts_between, between, numbers_from}
use Rattle.count_spec.proofs.Integers.{int_lt-true, int_le-false, int_eq-is}
use Rattle.count_spec.proofs.Counts.{count_by-cons}
use Rattle.count_spec.proofs.Counted.{counted-some, counted-greatest, answers-add_up}
use Rattle.count_spec.proofs.Sets.{has-greatest-bound}
use Rattle.books_spec.specs.Views.{figures_of}
use Rattle.account_spec.specs.TrueNumbers.{is_late, in_time, set_of, true_figures, AreClose}
use Rattle.account_laws.proofs.Moved.{near-true, base, base-multiple, moved, back, max-moved, lower, less-than, has-moved, lt-moved, le-moved, greatest-moved, least-moved}

-- ---- parts that are moved are the same

numbers_from-moved : (c from : ℤ) (n : ℕ) → numbers_from (from -ℤ c) n ≡ map (moved c) (numbers_from from n)
numbers_from-moved c from zero = refl
numbers_from-moved c from (suc n) =
    let e : ((from -ℤ c) +ℤ pos 1) ≡ ((from +ℤ pos 1) -ℤ c) = omega (arith, ints) in
    ap (λ (k : ℤ). (from -ℤ c) ∷ numbers_from k n) e
    ∙ ap (λ (ns : List ℤ). (from -ℤ c) ∷ ns) (numbers_from-moved c (from +ℤ pos 1) n)

between-moved : (c low high : ℤ) → between (low -ℤ c) (high -ℤ c) ≡ map (moved c) (between low high)
unfolding between
between-moved c low high =
    let d : ((high -ℤ c) -ℤ (low -ℤ c)) ≡ (high -ℤ low) = omega (arith, ints) in
    let e : ((low -ℤ c) +ℤ pos 1) ≡ ((low +ℤ pos 1) -ℤ c) = omega (arith, ints) in
    ap (λ (k : ℤ). numbers_from ((low -ℤ c) +ℤ pos 1) (unsigned_abs k - 1)) d
    ∙ ap (λ (k : ℤ). numbers_from k (unsigned_abs (high -ℤ low) - 1)) e
    ∙ numbers_from-moved c (low +ℤ pos 1) (unsigned_abs (high -ℤ low) - 1)

-- a test of moved numbers that is another test of the numbers
count-moved : (p q : ℤ → Bool) (c : ℤ) → ((n : ℤ) → p (n -ℤ c) ≡ q n) → (ns : List ℤ)
    → count_by p (map (moved c) ns) ≡ count_by q ns
count-moved p q c same [] = refl
count-moved p q c same (n ∷ ns) =
    count_by-cons p (n -ℤ c) (map (moved c) ns)
    ∙ (let e = same n in let later = count-moved p q c same ns in λ j. cond {A = ℕ} (e j) 1 0 + later j)
    ∙ sym (count_by-cons q n ns)

parts_between-moved : (width : ℕ) (c : ℤ) (set : List ℤ) (low high : ℤ)
    → parts_between width (map (moved c) set) (low -ℤ c) (high -ℤ c) ≡ parts_between width set low high
parts_between-moved width c set low high =
    let d : ((high -ℤ c) -ℤ (low -ℤ c)) ≡ (high -ℤ low) = omega (arith, ints) in
    let issued : unsigned_abs ((high -ℤ c) -ℤ (low -ℤ c)) + 1 ≡ unsigned_abs (high -ℤ low) + 1 =
    ap (λ (k : ℤ). unsigned_abs k + 1) d in
    let received = length-map set (moved c) in
    let pending = ap (count_by (λ (n : ℤ). not (has (map (moved c) set) n) && int_lt ((high -ℤ c) -ℤ pos width) n))
    (between-moved c low high)
    ∙ count-moved (λ (n : ℤ). not (has (map (moved c) set) n) && int_lt ((high -ℤ c) -ℤ pos width) n)
    (λ (n : ℤ). not (has set n) && int_lt (high -ℤ pos width) n) c above (between low high) in
    let lost = ap (count_by (λ (n : ℤ). not (has (map (moved c) set) n) && int_le n ((high -ℤ c) -ℤ pos width)))
    (between-moved c low high)
    ∙ count-moved (λ (n : ℤ). not (has (map (moved c) set) n) && int_le n ((high -ℤ c) -ℤ pos width))
    (λ (n : ℤ). not (has set n) && int_le n (high -ℤ pos width)) c below (between low high) in
    λ j. record { issued = issued j; received = received j; pending = pending j; lost = lost j }
  where
    edge : ((high -ℤ c) -ℤ pos width) ≡ ((high -ℤ pos width) -ℤ c)
    edge = omega (arith, ints)

    above : (n : ℤ) → (not (has (map (moved c) set) (n -ℤ c)) && int_lt ((high -ℤ c) -ℤ pos width) (n -ℤ c))
        ≡ (not (has set n) && int_lt (high -ℤ pos width) n)
    above n =
        let a = has-moved c set n in
        let b = ap (λ (k : ℤ). int_lt k (n -ℤ c)) edge ∙ lt-moved (high -ℤ pos width) n c in
        λ j. not (a j) && b j

    below : (n : ℤ) → (not (has (map (moved c) set) (n -ℤ c)) && int_le (n -ℤ c) ((high -ℤ c) -ℤ pos width))
        ≡ (not (has set n) && int_le n (high -ℤ pos width))
    below n =
        let a = has-moved c set n in
        let b = ap (λ (k : ℤ). int_le (n -ℤ c) k) edge ∙ le-moved n (high -ℤ pos width) c in
        λ j. not (a j) && b j

parts-moved : (width : ℕ) (c : ℤ) (set : List ℤ) → parts width (map (moved c) set) ≡ parts width set
parts-moved width c [] = refl
parts-moved width c (n ∷ more) =
    ap (λ (h : ℤ). parts_between width (map (moved c) (n ∷ more)) (least (map (moved c) (n ∷ more))) h) (greatest-moved c n more)
    ∙ ap (λ (l : ℤ). parts_between width (map (moved c) (n ∷ more)) l (greatest (n ∷ more) -ℤ c)) (least-moved c n more)
    ∙ parts_between-moved width c (n ∷ more) (least (n ∷ more)) (greatest (n ∷ more))

-- ---- what is counted

pub greatest-counted : (width : ℕ) (n : ℤ) (before : List ℤ) → AreClose (n ∷ before)
    → greatest (counted width (map mark_of (n ∷ before))) ≡ (greatest (n ∷ before) -ℤ base (n ∷ before))
greatest-counted width n [] close = back n (pos (mark_of n))
greatest-counted width n (m ∷ before) close =
    let g : ℤ = greatest (m ∷ before) in
    let c : ℤ = base (m ∷ before) in
    counted-greatest width (mark_of n) (mark_of m) (map mark_of before)
    ∙ ap (λ (t : ℤ). int_max (near (mark_of n) t) t) (greatest-counted width m before close.1)
    ∙ ap (λ (k : ℤ). int_max k (g -ℤ c)) (near-true n g c (base-multiple (m ∷ before)) close.0.0 close.0.1)
    ∙ max-moved n g c

has-set_of : (ns : List ℤ) (n : ℤ) → has (set_of ns) n ≡ has ns n
has-set_of [] n = refl
has-set_of (m ∷ before) n = go (has before m) refl (has-set_of before n)
  where
    same : (b : Bool) → int_eq m n ≡ b → has before m ≡ true → has before n ≡ (b || has before n)
    same true e h = ap (has before) (sym (int_eq-is m n e)) ∙ h
    same false e h = refl

    go : (b : Bool) → has before m ≡ b → has (set_of before) n ≡ has before n
        → has (cond b (set_of before) (m ∷ set_of before)) n ≡ (int_eq m n || has before n)
    go true e h = h ∙ same (int_eq m n) refl e
    go false e h = ap (λ (b : Bool). int_eq m n || b) h

-- the counted numbers, by the true ones
abbrev pub true_set : ℕ → ℤ → List ℤ → List ℤ
true_set width c ns = map (moved c) (set_of (in_time width ns))

-- the answer to a mark, by its true number after these
abbrev pub true_answer : ℕ → ℤ → List ℤ → ℤ → Entered
true_answer width c before n =
    cond (is_late width before n) Late
    (cond (has (in_time width before) n) Repeat (First (place (true_set width c before) (n -ℤ c)) (n -ℤ c)))

answer-number : (width : ℕ) (set : List ℤ) (mark : ℕ) → 0 < length set
    → answer width set mark ≡ number_answer width set (near mark (greatest set))
answer-number width [] mark some = absurd (omega arith)
answer-number width (n ∷ more) mark some = refl

late-moved : (n g c : ℤ) (width : ℕ) → int_le (n -ℤ c) ((g -ℤ c) -ℤ pos width) ≡ int_le n (g -ℤ pos width)
late-moved n g c width =
    let e : ((g -ℤ c) -ℤ pos width) ≡ ((g -ℤ pos width) -ℤ c) = omega (arith, ints) in
    ap (int_le (n -ℤ c)) e ∙ le-moved n (g -ℤ pos width) c

answer-of : (width : ℕ) (n m : ℤ) (before : List ℤ) → AreClose (n ∷ m ∷ before)
    → counted width (map mark_of (m ∷ before)) ≡ true_set width (base (m ∷ before)) (m ∷ before)
    → answer width (counted width (map mark_of (m ∷ before))) (mark_of n) ≡ true_answer width (base (m ∷ before)) (m ∷ before) n
answer-of width n m before close h =
    let c : ℤ = base (m ∷ before) in
    let g : ℤ = greatest (m ∷ before) in
    let set : List ℤ = counted width (map mark_of (m ∷ before)) in
    let t : greatest set ≡ (g -ℤ c) = greatest-counted width m before close.1 in
    answer-number width set (mark_of n) (counted-some width (mark_of m) (map mark_of before))
    ∙ ap (λ (k : ℤ). number_answer width set (near (mark_of n) k)) t
    ∙ ap (number_answer width set) (near-true n g c (base-multiple (m ∷ before)) close.0.0 close.0.1)
    ∙ ap (λ (k : ℤ). cond (int_le (n -ℤ c) (k -ℤ pos width)) Late (cond (has set (n -ℤ c)) Repeat (First (place set (n -ℤ c)) (n -ℤ c)))) t
    ∙ ap (λ (b : Bool). cond b Late (cond (has set (n -ℤ c)) Repeat (First (place set (n -ℤ c)) (n -ℤ c)))) (late-moved n g c width)
    ∙ ap (λ (s : List ℤ). cond (is_late width (m ∷ before) n) Late (cond (has s (n -ℤ c)) Repeat (First (place s (n -ℤ c)) (n -ℤ c)))) h
    ∙ ap (λ (b : Bool). cond (is_late width (m ∷ before) n) Late
    (cond b Repeat (First (place (true_set width c (m ∷ before)) (n -ℤ c)) (n -ℤ c))))
    (has-moved c (set_of (in_time width (m ∷ before))) n ∙ has-set_of (in_time width (m ∷ before)) n)

counting-of : (width : ℕ) (c n : ℤ) (before : List ℤ)
    → counting (true_answer width c before n) (true_set width c before) ≡ true_set width c (n ∷ before)
counting-of width c n before = late (is_late width before n)
  where
    again : (b : Bool) (p : Place) → counting (cond b Repeat (First p (n -ℤ c))) (true_set width c before)
        ≡ map (moved c) (cond b (set_of (in_time width before)) (n ∷ set_of (in_time width before)))
    again true p = refl
    again false p = refl

    late : (b : Bool)
        → counting (cond b Late (cond (has (in_time width before) n) Repeat (First (place (true_set width c before) (n -ℤ c)) (n -ℤ c)))) (true_set width c before)
        ≡ map (moved c) (set_of (cond b (in_time width before) (n ∷ in_time width before)))
    late true = refl
    late false = again (has (in_time width before) n) (place (true_set width c before) (n -ℤ c))

-- The counted numbers are the true ones in time, each once, less one constant
pub counted-are : (width : ℕ) (ns : List ℤ) → AreClose ns → counted width (map mark_of ns) ≡ true_set width (base ns) ns
counted-are width [] close = refl
counted-are width (n ∷ []) close = ap (λ (k : ℤ). k ∷ []) (back n (pos (mark_of n)))
counted-are width (n ∷ m ∷ before) close =
    let h = counted-are width (m ∷ before) close.1 in
    let c : ℤ = base (m ∷ before) in
    ap (λ (a : Entered). counting a (counted width (map mark_of (m ∷ before)))) (answer-of width n m before close h)
    ∙ ap (counting (true_answer width c (m ∷ before) n)) h
    ∙ counting-of width c n (m ∷ before)

-- and each answer is the one by true numbers
pub answer-is : (width : ℕ) (n m : ℤ) (before : List ℤ) → AreClose (n ∷ m ∷ before)
    → answer width (counted width (map mark_of (m ∷ before))) (mark_of n) ≡ true_answer width (base (m ∷ before)) (m ∷ before) n
answer-is width n m before close = answer-of width n m before close (counted-are width (m ∷ before) close.1)

-- ---- the figures

late-answer : (width : ℕ) (c : ℤ) (before : List ℤ) (n : ℤ)
    → windows.is_late (true_answer width c before n) ≡ is_late width before n
late-answer width c before n = go (is_late width before n) (has (in_time width before) n)
  where
    go : (a b : Bool) → windows.is_late (cond a Late (cond b Repeat (First (place (true_set width c before) (n -ℤ c)) (n -ℤ c)))) ≡ a
    go true b = refl
    go false true = refl
    go false false = refl

late-count : (width : ℕ) (ns : List ℤ) → AreClose ns → late_count width (map mark_of ns) + length (in_time width ns) ≡ length ns
late-count width [] close = refl
late-count width (n ∷ []) close = refl
late-count width (n ∷ m ∷ before) close =
    let ms : List ℕ = map mark_of (m ∷ before) in
    step (windows.is_late (answer width (counted width ms) (mark_of n))) (is_late width (m ∷ before) n)
    (late_count width (map mark_of (n ∷ m ∷ before))) (late_count width ms) (length (m ∷ before))
    (ap windows.is_late (answer-is width n m before close) ∙ late-answer width (base (m ∷ before)) (m ∷ before) n)
    (count_by-cons windows.is_late (answer width (counted width ms) (mark_of n)) (answers width ms))
    (late-count width (m ∷ before) close.1)
  where
    step : (a b : Bool) (l r s : ℕ) → a ≡ b → l ≡ cond a 1 0 + r → r + length (in_time width (m ∷ before)) ≡ s
        → l + length (cond b (in_time width (m ∷ before)) (n ∷ in_time width (m ∷ before))) ≡ suc s
    step a true l r s e p q = let k : l ≡ cond true 1 0 + r = p ∙ ap (λ (b : Bool). cond b 1 0 + r) e in omega arith
    step a false l r s e p q = let k : l ≡ cond false 1 0 + r = p ∙ ap (λ (b : Bool). cond b 1 0 + r) e in omega arith

-- What the marks come to is what the true numbers come to
pub figures-are : (width : ℕ) (ns : List ℤ) → AreClose ns → figures_of width (map mark_of ns) ≡ true_figures width ns
figures-are width ns close =
    let h = counted-are width ns close in
    let sum = answers-add_up width (map mark_of ns) in
    let l = late-count width ns close in
    let n : length (map mark_of ns) ≡ length ns = length-map ns mark_of in
    let r : length (counted width (map mark_of ns)) ≡ length (set_of (in_time width ns)) =
    ap length h ∙ length-map (set_of (in_time width ns)) (moved (base ns)) in
    let p : parts width (counted width (map mark_of ns)) ≡ parts width (set_of (in_time width ns)) =
    ap (parts width) h ∙ parts-moved width (base ns) (set_of (in_time width ns)) in
    let repeated : repeat_count width (map mark_of ns) ≡ length (in_time width ns) - length (set_of (in_time width ns)) =
    omega (arith, sum, l, n, r) in
    let late : late_count width (map mark_of ns) ≡ length ns - length (in_time width ns) = omega (arith, l) in
    λ j. record {
      issued = (p j).issued;
      received = (p j).received;
      pending = (p j).pending;
      lost = (p j).lost;
      repeated = repeated j;
      late = late j;
    }

-- ---- numbers that differ

or-none : (a b : Bool) → (a || b) ≡ false → (a ≡ false) × (b ≡ false)
or-none true b e = let bad : true ≡ false = e in absurd cc
or-none false b e = (refl, e)

pub has-in_time : (width : ℕ) (n : ℤ) (ns : List ℤ) → has ns n ≡ false → has (in_time width ns) n ≡ false
has-in_time width n [] h = refl
has-in_time width n (m ∷ before) h =
    let p = or-none (int_eq m n) (has before n) h in
    go (is_late width before m) p.0 (has-in_time width n before p.1)
  where
    go : (b : Bool) → int_eq m n ≡ false → has (in_time width before) n ≡ false
        → has (cond b (in_time width before) (m ∷ in_time width before)) n ≡ false
    go true e h = h
    go false e h = ap (λ (b : Bool). b || has (in_time width before) n) e ∙ h

pub in_time-distinct : (width : ℕ) (ns : List ℤ) → AreDistinct ns → AreDistinct (in_time width ns)
in_time-distinct width [] h = tt
in_time-distinct width (n ∷ before) h =
    go (is_late width before n) (has-in_time width n before h.0) (in_time-distinct width before h.1)
  where
    go : (b : Bool) → has (in_time width before) n ≡ false → AreDistinct (in_time width before)
        → AreDistinct (cond b (in_time width before) (n ∷ in_time width before))
    go true e h = h
    go false e h = (e, h)

pub set-is-all : (ns : List ℤ) → AreDistinct ns → set_of ns ≡ ns
set-is-all [] h = refl
set-is-all (n ∷ before) h =
    ap (λ (b : Bool). cond b (set_of before) (n ∷ set_of before)) h.0
    ∙ ap (λ (ms : List ℤ). n ∷ ms) (set-is-all before h.1)

-- where they differ none is repeated
pub none-repeated : (width : ℕ) (ns : List ℤ) → AreDistinct ns → (true_figures width ns).repeated ≡ 0
none-repeated width ns distinct =
    let e : length (set_of (in_time width ns)) ≡ length (in_time width ns) =
    ap length (set-is-all (in_time width ns) (in_time-distinct width ns distinct)) in
    omega (arith, e)

-- ---- a number above all before it

first-above : (width : ℕ) (set : List ℤ) (mark : ℕ) (t v : ℤ) → 0 < length set → greatest set ≡ t → near mark t ≡ v
    → t <ℤ v → answer width set mark ≡ First Newest v
first-above width [] mark t v some top is above = absurd (omega arith)
first-above width (k ∷ rest) mark t v some top is above =
    ap (number_answer width (k ∷ rest)) (ap (near mark) top ∙ is)
    ∙ ap (λ (b : Bool). cond b Late (cond (has (k ∷ rest) v) Repeat (First (place (k ∷ rest) v) v))) (int_le-false v (greatest (k ∷ rest) -ℤ pos width) (out (greatest (k ∷ rest)) top))
    ∙ ap (λ (b : Bool). cond b Repeat (First (place (k ∷ rest) v) v)) new
    ∙ ap (λ (b : Bool). First (cond b Newest (cond (int_lt v (least (k ∷ rest))) Least Inside)) v)
    (int_lt-true (greatest (k ∷ rest)) v (up (greatest (k ∷ rest)) top))
  where
    out : (g : ℤ) → g ≡ t → (g -ℤ pos width) <ℤ v
    out g e = omega (arith, ints, e, above)

    up : (g : ℤ) → g ≡ t → g <ℤ v
    up g e = omega (arith, ints, e, above)

    never : (g : ℤ) → g ≡ t → v ≤ℤ g → ⊥
    never g e h = omega (arith, ints, e, above, h)

    new : has (k ∷ rest) v ≡ false
    new = elim (cases_Bool (has (k ∷ rest) v)) [
      | inl e ↦ absurd (never (greatest (k ∷ rest)) top (has-greatest-bound k rest v e))
      | inr e ↦ e
    ]

-- is First and Newest
pub newest-answer : (width : ℕ) (n m : ℤ) (before : List ℤ) → AreClose (n ∷ m ∷ before) → greatest (m ∷ before) <ℤ n
    → answer width (counted width (map mark_of (m ∷ before))) (mark_of n) ≡ First Newest (n -ℤ base (m ∷ before))
newest-answer width n m before close above =
    let g : ℤ = greatest (m ∷ before) in
    let c : ℤ = base (m ∷ before) in
    first-above width (counted width (map mark_of (m ∷ before))) (mark_of n) (g -ℤ c) (n -ℤ c)
    (counted-some width (mark_of m) (map mark_of before)) (greatest-counted width m before close.1)
    (near-true n g c (base-multiple (m ∷ before)) close.0.0 close.0.1) (lower g n c above)

-- and one that isn't above isn't Newest
pub newest-true : (width : ℕ) (n m : ℤ) (before : List ℤ) → AreClose (n ∷ m ∷ before)
    → is_newest (answer width (counted width (map mark_of (m ∷ before))) (mark_of n)) ≡ int_lt (greatest (m ∷ before)) n
newest-true width n m before close = elim (cases_Bool (int_lt g n)) [
  | inl e ↦ ap is_newest (newest-answer width n m before close (less-than g n e)) ∙ sym e
  | inr e ↦ ap is_newest (answer-is width n m before close)
      ∙ not-newest (is_late width (m ∷ before) n) (has (in_time width (m ∷ before)) n) (int_lt (greatest set) (n -ℤ c))
      (int_lt (n -ℤ c) (least set)) (top ∙ e)
      ∙ sym e
]
  where
    g : ℤ
    g = greatest (m ∷ before)

    c : ℤ
    c = base (m ∷ before)

    set : List ℤ
    set = true_set width c (m ∷ before)

    top : int_lt (greatest set) (n -ℤ c) ≡ int_lt g n
    top = ap (λ (k : ℤ). int_lt k (n -ℤ c))
        (ap greatest (sym (counted-are width (m ∷ before) close.1)) ∙ greatest-counted width m before close.1)
        ∙ lt-moved g n c

    not-newest : (a b d e : Bool) → d ≡ false
        → is_newest (cond a Late (cond b Repeat (First (cond d Newest (cond e Least Inside)) (n -ℤ c)))) ≡ false
    not-newest true b d e f = refl
    not-newest false true d e f = refl
    not-newest false false true e f = let bad : true ≡ false = f in absurd cc
    not-newest false false false true f = refl
    not-newest false false false false f = refl
