-- The rise of what the samples of one generation show is the true difference.
use Rattle.std.proofs.Common.{◌≡◌, ℕ, ◌+◌, ◌-◌, ◌%◌, ◌<◌, ◌≤◌, inl, inr, Bool, true, false, cond, ◌||◌, List, [], ◌∷◌, length, map, ℤ, pos, ◌-ℤ◌, ◌<ℤ◌, arith, refl, sym, ap, subst, ◌∙◌}
use Rattle.std.specs.Prelude.{int_lt}
use Rattle.std.specs.Ordering.{int_eq}
use Rattle.std.specs.List.{AllByRecursion}
use Rattle.std.proofs.lemmas.Int.{ints}
use Rattle.count_spec.specs.Windows.{mark_of, greatest, least, has, AreDistinct, answer, counted, place}
use Rattle.count_spec.specs.declared.entered.Place.{Place}
use Rattle.count_spec.specs.declared.entered.Entered.{Entered}
use Rattle.count_spec.specs.declared.entered.Entered.TheVariants.{First, Repeat, Late}
use Rattle.count_spec.specs.Rise.{NumberedValue, numbers, value_at, value_at_greatest, value_at_least, with_value, first_values}
use Rattle.count_spec.specs.CounterRise.{step_between, counter_rise}
use Rattle.count_spec.specs.TrueRise.{AreMonotone, shown_by}
use Rattle.count_spec.proofs.Integers.{int_eq-is}
use Rattle.count_spec.proofs.Sets.{has-greatest, has-least}
use Rattle.count_spec.proofs.Rises.{first_values-numbers}
use Rattle.count_spec.proofs.Counted.{counted-some}
use Rattle.account_spec.specs.TrueNumbers.{is_late, AreClose, in_time}
use Rattle.account_spec.specs.Arrivals.{Arrived, generation_of, sample_number, sample_numbers}
use Rattle.account_spec.specs.Accounts.{kept, values, difference, pool_of, drops_of}
use Rattle.account_laws.proofs.Lists.{AllPairs, all-imply}
use Rattle.account_laws.proofs.Parts.{AllOf}
use Rattle.account_laws.proofs.Moved.{base, back, moved, lt-moved, eq-moved, greatest-moved, least-moved}
use Rattle.account_laws.proofs.Numbers.{true_set, answer-is, has-in_time}
use Rattle.account_laws.proofs.Orders.{ComesBefore, AreTwo, AreInOrder, of-other, distinct}
use Rattle.account_laws.proofs.Opened.{mark_shown, marks-shown}

-- ---- the samples in time

pub kept-all : (P : Arrived → Type 0) (width : ℕ) (xs : List Arrived) → AllByRecursion P xs → AllByRecursion P (kept width xs)
kept-all P width [] h = tt
kept-all P width (x ∷ before) h = go (is_late width (sample_numbers before) (sample_number x)) (kept-all P width before h.1)
  where
    go : (b : Bool) → AllByRecursion P (kept width before) → AllByRecursion P (cond b (kept width before) (x ∷ kept width before))
    go true later = later
    go false later = (h.0, later)

pub kept-pairs : (R : Arrived → Arrived → Type 0) (width : ℕ) (xs : List Arrived) → AllPairs R xs → AllPairs R (kept width xs)
kept-pairs R width [] h = tt
kept-pairs R width (x ∷ before) h =
    go (is_late width (sample_numbers before) (sample_number x)) (kept-pairs R width before h.1) (kept-all (R x) width before h.0)
  where
    go : (b : Bool) → AllPairs R (kept width before) → AllByRecursion (R x) (kept width before)
        → AllPairs R (cond b (kept width before) (x ∷ kept width before))
    go true later here = later
    go false later here = (here, later)

-- what a sample shows at its counted number
abbrev pub at_counted : (Arrived → ℕ) → ℤ → Arrived → NumberedValue
at_counted value c x = record { number = sample_number x -ℤ c; value = value x }

first-cases : (value : Arrived → ℕ) (c : ℤ) (a b : Bool) (p : Place) (x : Arrived) (xs : List Arrived)
    (vs : List NumberedValue) → b ≡ false → vs ≡ map (at_counted value c) xs
    → with_value (cond a Late (cond b Repeat (First p (sample_number x -ℤ c)))) (value x) vs
    ≡ map (at_counted value c) (cond a xs (x ∷ xs))
first-cases value c true b p x xs vs e h = h
first-cases value c false true p x xs vs e h = let bad : true ≡ false = e in absurd cc
first-cases value c false false p x xs vs e h = ap (λ (r : List NumberedValue). at_counted value c x ∷ r) h

-- The First samples are those in time, each at its number less one constant
pub firsts-are : (value : Arrived → ℕ) (width : ℕ) (xs : List Arrived) → AreClose (sample_numbers xs)
    → AreDistinct (sample_numbers xs)
    → first_values mark_shown value width xs ≡ map (at_counted value (base (sample_numbers xs))) (kept width xs)
firsts-are value width [] close differ = refl
firsts-are value width (x ∷ []) close differ =
    ap (λ (n : ℤ). record { number = n; value = value x } ∷ []) (back (sample_number x) (pos (mark_of (sample_number x))))
firsts-are value width (x ∷ y ∷ before) close differ =
    let us : List ℤ = sample_numbers (y ∷ before) in
    let c : ℤ = base us in
    let n : ℤ = sample_number x in
    ap (λ (ms : List ℕ). with_value (answer width (counted width ms) (mark_of n)) (value x) (first_values mark_shown value width (y ∷ before)))
    (marks-shown (y ∷ before))
    ∙ ap (λ (r : Entered). with_value r (value x) (first_values mark_shown value width (y ∷ before)))
    (answer-is width n (sample_number y) (sample_numbers before) close)
    ∙ first-cases value c (is_late width us n) (has (in_time width us) n)
    (place (true_set width c us) (n -ℤ c)) x (kept width (y ∷ before))
    (first_values mark_shown value width (y ∷ before)) (has-in_time width n us differ.0)
    (firsts-are value width (y ∷ before) close.1 differ.1)

-- ---- a rise doesn't change where each number is less by one constant

abbrev lowered : ℤ → NumberedValue → NumberedValue
lowered c v = record { number = v.number -ℤ c; value = v.value }

numbers-lowered : (c : ℤ) (vs : List NumberedValue) → numbers (map (lowered c) vs) ≡ map (moved c) (numbers vs)
numbers-lowered c [] = refl
numbers-lowered c (v ∷ vs) = ap (λ (ns : List ℤ). (v.number -ℤ c) ∷ ns) (numbers-lowered c vs)

value_at-lowered : (c : ℤ) (vs : List NumberedValue) (n : ℤ) → value_at (map (lowered c) vs) (n -ℤ c) ≡ value_at vs n
value_at-lowered c [] n = refl
value_at-lowered c (v ∷ vs) n =
    let e = eq-moved v.number n c in
    let later = value_at-lowered c vs n in
    λ j. cond (e j) v.value (later j)

rise-lowered : (modulus : ℕ) (c : ℤ) (vs : List NumberedValue) → counter_rise modulus (map (lowered c) vs) ≡ counter_rise modulus vs
rise-lowered modulus c [] = refl
rise-lowered modulus c (v ∷ []) = refl
rise-lowered modulus c (v ∷ u ∷ before) =
    let us : List NumberedValue = u ∷ before in
    let later = rise-lowered modulus c (u ∷ before) in
    let g : greatest (numbers (map (lowered c) us)) ≡ (greatest (numbers us) -ℤ c) =
    ap greatest (numbers-lowered c us) ∙ greatest-moved c u.number (numbers before) in
    let l : least (numbers (map (lowered c) us)) ≡ (least (numbers us) -ℤ c) =
    ap least (numbers-lowered c us) ∙ least-moved c u.number (numbers before) in
    let above = ap (λ (k : ℤ). int_lt k (v.number -ℤ c)) g ∙ lt-moved (greatest (numbers us)) v.number c in
    let top = ap (value_at (map (lowered c) us)) g ∙ value_at-lowered c us (greatest (numbers us)) in
    let below = ap (λ (k : ℤ). int_lt (v.number -ℤ c) k) l ∙ lt-moved v.number (least (numbers us)) c in
    let bottom = ap (value_at (map (lowered c) us)) l ∙ value_at-lowered c us (least (numbers us)) in
    λ j. later j + (cond (above j) (step_between modulus (top j) v.value) 0 + cond (below j) (step_between modulus v.value (bottom j)) 0)

-- ---- the true difference

pub numbers-values : (value : Arrived → ℕ) (xs : List Arrived) → numbers (values value xs) ≡ sample_numbers xs
numbers-values value [] = refl
numbers-values value (x ∷ xs) = ap (λ (ns : List ℤ). sample_number x ∷ ns) (numbers-values value xs)

counted-values : (modulus : ℕ) (value : Arrived → ℕ) (c : ℤ) (xs : List Arrived)
    → map (at_counted (λ (x : Arrived). value x % modulus) c) xs ≡ map (lowered c) (map (shown_by modulus) (values value xs))
counted-values modulus value c [] = refl
counted-values modulus value c (x ∷ xs) =
    ap (λ (r : List NumberedValue). record { number = sample_number x -ℤ c; value = value x % modulus } ∷ r)
    (counted-values modulus value c xs)

-- values that tell their rise from what is shown of them
abbrev pub IsTold : ℕ → List NumberedValue → Type 0
IsTold modulus vs = counter_rise modulus (map (shown_by modulus) vs) + value_at_least vs ≡ value_at_greatest vs

pub rise-told : (modulus : ℕ) (value : Arrived → ℕ) (g width : ℕ) (xs : List Arrived) → AllOf generation_of g xs
    → AreInOrder xs → AreClose (sample_numbers xs) → IsTold modulus (values value (kept width xs))
    → counter_rise modulus (first_values mark_shown (λ (x : Arrived). value x % modulus) width xs) ≡ difference value width xs
rise-told modulus value g width xs of order close told =
    let c : ℤ = base (sample_numbers xs) in
    let ks : List Arrived = kept width xs in
    ap (counter_rise modulus)
    (firsts-are (λ (x : Arrived). value x % modulus) width xs close (distinct g xs of order)
    ∙ counted-values modulus value c ks)
    ∙ rise-lowered modulus c (map (shown_by modulus) (values value ks))
    ∙ minus (counter_rise modulus (map (shown_by modulus) (values value ks))) (value_at_least (values value ks))
    (value_at_greatest (values value ks)) told
  where
    minus : (a b d : ℕ) → a + b ≡ d → a ≡ d - b
    minus a b d e = omega arith

pub kept-distinct : (value : Arrived → ℕ) (g width : ℕ) (xs : List Arrived) → AllOf generation_of g xs → AreInOrder xs
    → AreDistinct (numbers (values value (kept width xs)))
kept-distinct value g width xs of order =
    subst AreDistinct (sym (numbers-values value (kept width xs)))
    (distinct g (kept width xs) (kept-all (λ (x : Arrived). generation_of x ≡ g) width xs of) (kept-pairs AreTwo width xs order))

-- ---- pools and drops don't fall as numbers grow

-- what the value at a number is, where all values at that number are so
value_at-one : (P : ℕ → Type 0) (vs : List NumberedValue) (n : ℤ) → has (numbers vs) n ≡ true
    → AllByRecursion (λ (v : NumberedValue). v.number ≡ n → P v.value) vs → P (value_at vs n)
value_at-one P [] n there all = let bad : false ≡ true = there in absurd cc
value_at-one P (v ∷ vs) n there all = go (int_eq v.number n) refl there (λ h. value_at-one P vs n h all.1)
  where
    go : (b : Bool) → int_eq v.number n ≡ b → (b || has (numbers vs) n) ≡ true
        → (has (numbers vs) n ≡ true → P (value_at vs n)) → P (cond b v.value (value_at vs n))
    go true e h later = all.0 (int_eq-is v.number n e)
    go false e h later = later h

abbrev pub IsMonotone : (Arrived → ℕ) → Type 0
IsMonotone value = (x y : Arrived) → ComesBefore x.sample y.sample → generation_of x ≡ generation_of y → value x ≤ value y

pub pool-monotone : IsMonotone pool_of
pool-monotone x y (inl less) same = absurd (omega arith)
pool-monotone x y (inr h) same = h.2

pub drops-monotone : IsMonotone drops_of
drops-monotone x y (inl less) same = absurd (omega arith)
drops-monotone x y (inr h) same = h.3

-- of two the one with the lesser number has no greater value
ordered : (value : Arrived → ℕ) (x y : Arrived) → IsMonotone value → AreTwo x y → generation_of x ≡ generation_of y
    → sample_number y <ℤ sample_number x → value y ≤ value x
ordered value x y mono (inl e) same less = absurd (never e.counts)
  where
    never : ComesBefore x.sample y.sample → ⊥
    never (inl h) = omega arith
    never (inr h) = let l : x.sample.number < y.sample.number = h.1 in omega (arith, ints)
ordered value x y mono (inr e) same less = mono y x e.counts (sym same)

turned : (x y : Arrived) → AreTwo x y → AreTwo y x
turned x y (inl e) = inr e
turned x y (inr e) = inl e

below-x : (value : Arrived → ℕ) (x : Arrived) (n : ℤ) → IsMonotone value → n <ℤ sample_number x → (ys : List Arrived)
    → AllByRecursion (AreTwo x) ys → AllOf generation_of (generation_of x) ys
    → AllByRecursion (λ (v : NumberedValue). v.number ≡ n → v.value ≤ value x) (values value ys)
below-x value x n mono less [] two of = tt
below-x value x n mono less (y ∷ ys) two of = (
  (λ e. ordered value x y mono two.0 (sym of.0) (subst (λ (k : ℤ). k <ℤ sample_number x) (sym e) less)),
  below-x value x n mono less ys two.1 of.1,
)

above-x : (value : Arrived → ℕ) (x : Arrived) (n : ℤ) → IsMonotone value → sample_number x <ℤ n → (ys : List Arrived)
    → AllByRecursion (AreTwo x) ys → AllOf generation_of (generation_of x) ys
    → AllByRecursion (λ (v : NumberedValue). v.number ≡ n → value x ≤ v.value) (values value ys)
above-x value x n mono less [] two of = tt
above-x value x n mono less (y ∷ ys) two of = (
  (λ e. ordered value y x mono (turned x y two.0) of.0 (subst (λ (k : ℤ). sample_number x <ℤ k) (sym e) less)),
  above-x value x n mono less ys two.1 of.1,
)

pub monotone : (value : Arrived → ℕ) (g : ℕ) (xs : List Arrived) → IsMonotone value → AllOf generation_of g xs
    → AreInOrder xs → AreMonotone (values value xs)
monotone value g [] mono of order = tt
monotone value g (x ∷ []) mono of order = tt
monotone value g (x ∷ y ∷ before) mono of order =
    let vs : List NumberedValue = values value (y ∷ before) in
    let same = of-other g (generation_of x) (y ∷ before) (sym of.0) of.1 in (
      (λ h. value_at-one (λ (k : ℕ). k ≤ value x) vs (greatest (numbers vs))
          (has-greatest (sample_number y) (numbers (values value before)))
          (below-x value x (greatest (numbers vs)) mono h (y ∷ before) order.0 same)),
      (λ h. value_at-one (λ (k : ℕ). value x ≤ k) vs (least (numbers vs))
          (has-least (sample_number y) (numbers (values value before)))
          (above-x value x (least (numbers vs)) mono h (y ∷ before) order.0 same)),
      monotone value g (y ∷ before) mono of.1 order.1,
    )

-- ---- the value of all

with-rates : (value : Arrived → ℕ) (r width : ℕ) (xs : List Arrived) → AllByRecursion (λ (x : Arrived). value x ≡ r) xs
    → AllByRecursion (λ (v : NumberedValue). v.value ≡ r) (first_values mark_shown value width xs)
with-rates value r width [] h = tt
with-rates value r width (x ∷ before) h =
    go (answer width (counted width (map mark_shown before)) (mark_shown x)) (with-rates value r width before h.1)
  where
    go : (a : Entered) → AllByRecursion (λ (v : NumberedValue). v.value ≡ r) (first_values mark_shown value width before)
        → AllByRecursion (λ (v : NumberedValue). v.value ≡ r) (with_value a (value x) (first_values mark_shown value width before))
    go (First p n) later = (h.0, later)
    go Repeat later = later
    go Late later = later

greatest-there : (ns : List ℤ) → 0 < length ns → has ns (greatest ns) ≡ true
greatest-there [] h = absurd (omega arith)
greatest-there (n ∷ more) h = has-greatest n more

pub rate-is : (value : Arrived → ℕ) (r width : ℕ) (x : Arrived) (before : List Arrived)
    → AllByRecursion (λ (y : Arrived). value y ≡ r) (x ∷ before)
    → value_at_greatest (first_values mark_shown value width (x ∷ before)) ≡ r
rate-is value r width x before h =
    let vs : List NumberedValue = first_values mark_shown value width (x ∷ before) in
    let some : 0 < length (numbers vs) =
    subst (λ (ns : List ℤ). 0 < length ns) (sym (first_values-numbers mark_shown value width (x ∷ before)))
    (counted-some width (mark_shown x) (map mark_shown before)) in
    value_at-one (λ (k : ℕ). k ≡ r) vs (greatest (numbers vs)) (greatest-there (numbers vs) some)
    (all-imply (λ (v : NumberedValue). v.value ≡ r) (λ (v : NumberedValue). v.number ≡ greatest (numbers vs) → v.value ≡ r)
    (λ v k e. k) vs (with-rates value r width (x ∷ before) h))
