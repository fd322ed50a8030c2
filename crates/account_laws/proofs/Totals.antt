-- Received, late and stale of a source are all that was delivered of it.
use Rattle.std.proofs.Common.{◌≡◌, ℕ, suc, ◌+◌, ◌≤◌, Bool, true, false, cond, List, [], ◌∷◌, ◌++◌, length, map, ℤ, refl, ap, arith}
use Rattle.std.specs.List.{AllByRecursion, sum_by}
use Rattle.std.proofs.lemmas.List.{length-map}
use Rattle.std.proofs.lemmas.List.Sums.{sum_by-cons}
use Rattle.count_spec.specs.Windows.{AreDistinct}
use Rattle.count_spec.specs.Parts.{parts}
use Rattle.count_spec.specs.Stretches.{placed, with_stale}
use Rattle.count_spec.specs.TrueStretches.{true_stretches, past_items, true_place}
use Rattle.count_spec.specs.declared.stretch_place.StretchPlace.{StretchPlace}
use Rattle.count_spec.specs.declared.stretch_place.StretchPlace.TheVariants.{Current, Next, Stale}
use Rattle.count_spec.proofs.TrueStretches.{AreNumbered, true_stretches-step, past_items-step}
use Rattle.books_spec.specs.Views.{closed_sum}
use Rattle.books_spec.specs.SourceViews.{joined, with_current}
use Rattle.account_spec.specs.TrueNumbers.{is_late, in_time, set_of}
use Rattle.account_spec.specs.Arrivals.{Arrived, generation_of, sample_number, sample_numbers}
use Rattle.account_spec.specs.Accounts.{generations_of, generation_figures, figures_over}
use Rattle.account_laws.proofs.Orders.{distinct}
use Rattle.account_laws.proofs.Numbers.{in_time-distinct, set-is-all}
use Rattle.account_laws.proofs.Views.{IsGood}

-- ---- stretches and past items are all items

sum-placed : {X : Type 0} (p : StretchPlace) (x : X) (ss : List (List X)) (past : List X)
    → sum_by length (placed p x ss) + length (with_stale p x past) ≡ suc (sum_by length ss + length past)
sum-placed {X} Current x [] past =
    let e = sum_by-cons (λ (s : List X). length s) (x ∷ []) [] in omega (arith, e)
sum-placed {X} Current x (s ∷ ss) past =
    let e = sum_by-cons (λ (s : List X). length s) (x ∷ s) ss in
    let f = sum_by-cons (λ (s : List X). length s) s ss in
    omega (arith, e, f)
sum-placed {X} Next x ss past =
    let e = sum_by-cons (λ (s : List X). length s) (x ∷ []) ss in omega (arith, e)
sum-placed Stale x ss past = omega arith

pub all-items : {X : Type 0} (index : X → ℕ) (xs : List X) → AreNumbered index xs
    → sum_by length (true_stretches index xs) + length (past_items index xs) ≡ length xs
all-items index [] h = refl
all-items {X} index (x ∷ before) h =
    let a = ap (λ (ss : List (List X)). sum_by length ss) (true_stretches-step index x before h) in
    let b = ap (λ (ps : List X). length ps) (past_items-step index x before) in
    let c = sum-placed (true_place index before x) x (true_stretches index before) (past_items index before) in
    let later = all-items index before h.1 in
    omega (arith, a, b, c, later)

-- ---- one generation

pub in_time-most : (width : ℕ) (ns : List ℤ) → length (in_time width ns) ≤ length ns
in_time-most width [] = omega arith
in_time-most width (n ∷ before) = go (is_late width before n) (in_time-most width before)
  where
    go : (b : Bool) → length (in_time width before) ≤ length before
        → length (cond b (in_time width before) (n ∷ in_time width before)) ≤ suc (length before)
    go true h = omega arith
    go false h = omega arith

received-is : (width : ℕ) (set : List ℤ) → (parts width set).received ≡ length set
received-is width [] = refl
received-is width (n ∷ more) = refl

one-generation : (width rate : ℕ) (g : List Arrived) → IsGood width rate g
    → (generation_figures width g).received + (generation_figures width g).late ≡ length g
one-generation width rate g h =
    let ns : List ℤ = sample_numbers g in
    let differ : AreDistinct ns = distinct h.generation g h.of h.order in
    let r = received-is width (set_of (in_time width ns)) in
    let s = ap (λ (ms : List ℤ). length ms) (set-is-all (in_time width ns) (in_time-distinct width ns differ)) in
    let m = in_time-most width ns in
    let n = length-map g sample_number in
    omega (arith, r, s, m, n)

-- ---- all generations

closed-generations : (width rate : ℕ) (gs : List (List Arrived)) → AllByRecursion (IsGood width rate) gs
    → (closed_sum (map (generation_figures width) gs)).received + (closed_sum (map (generation_figures width) gs)).late ≡ sum_by length gs
closed-generations width rate [] h = refl
closed-generations width rate (g ∷ gs) h =
    let here = one-generation width rate g h.0 in
    let later = closed-generations width rate gs h.1 in
    let e = sum_by-cons (λ (s : List Arrived). length s) g gs in
    omega (arith, here, later, e)

all-generations : (width rate : ℕ) (gs : List (List Arrived)) → AllByRecursion (IsGood width rate) gs
    → (figures_over width gs).received + (figures_over width gs).late ≡ sum_by length gs
all-generations width rate [] h = refl
all-generations width rate (g ∷ gs) h =
    let here = one-generation width rate g h.0 in
    let later = closed-generations width rate gs h.1 in
    let e = sum_by-cons (λ (s : List Arrived). length s) g gs in
    omega (arith, here, later, e)

-- ---- over boots

abbrev length_sum : List (List Arrived) → ℕ
length_sum ss = sum_by length ss

sum-append : (xs ys : List (List Arrived)) → length_sum (xs ++ ys) ≡ length_sum xs + length_sum ys
sum-append [] ys = omega arith
sum-append (x ∷ xs) ys =
    let a = sum_by-cons (λ (s : List Arrived). length s) x (xs ++ ys) in
    let b = sum_by-cons (λ (s : List Arrived). length s) x xs in
    let later = sum-append xs ys in
    omega (arith, a, b, later)

sum-current : (ss : List (List Arrived)) → length_sum (with_current ss) ≡ length_sum ss
sum-current [] = refl
sum-current (s ∷ ss) = refl

abbrev AllNumbered : List (List Arrived) → Type 0
AllNumbered boots = AllByRecursion (λ (b : List Arrived). AreNumbered generation_of b) boots

abbrev stale_in : List (List Arrived) → ℕ
stale_in boots = sum_by (λ boot. length (past_items generation_of boot)) boots

sum-joined : (boots : List (List Arrived)) → AllNumbered boots
    → length_sum (joined (map (true_stretches generation_of) boots)) + stale_in boots ≡ length_sum boots
sum-joined [] h = refl
sum-joined (b ∷ more) h =
    let a = sum-append (true_stretches generation_of b) (joined (map (true_stretches generation_of) more)) in
    let here = all-items generation_of b h.0 in
    let later = sum-joined more h.1 in
    let e = sum_by-cons (λ (s : List Arrived). length s) b more in
    let f = sum_by-cons (λ (s : List Arrived). length (past_items generation_of s)) b more in
    omega (arith, a, here, later, e, f)

sum-over : (boots : List (List Arrived)) → AllNumbered boots → length_sum (generations_of boots) + stale_in boots ≡ length_sum boots
sum-over [] h = refl
sum-over (b ∷ more) h =
    let a = sum-append (with_current (true_stretches generation_of b)) (joined (map (true_stretches generation_of) more)) in
    let c = sum-current (true_stretches generation_of b) in
    let here = all-items generation_of b h.0 in
    let later = sum-joined more h.1 in
    let e = sum_by-cons (λ (s : List Arrived). length s) b more in
    let f = sum_by-cons (λ (s : List Arrived). length (past_items generation_of s)) b more in
    omega (arith, a, c, here, later, e, f)

-- Received, late and stale are all samples delivered
pub all-delivered : (width rate : ℕ) (boots : List (List Arrived)) → AllNumbered boots
    → AllByRecursion (IsGood width rate) (generations_of boots)
    → (figures_over width (generations_of boots)).received + (figures_over width (generations_of boots)).late + stale_in boots
    ≡ length_sum boots
all-delivered width rate boots numbered good =
    let a = all-generations width rate (generations_of boots) good in
    let b = sum-over boots numbered in
    omega (arith, a, b)
