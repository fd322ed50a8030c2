-- Figures and rises summed over boots.
use Rattle.std.proofs.Common.{◌≡◌, ℕ, suc, ◌+◌, ◌*◌, ◌≤◌, List, [], ◌∷◌, length, map, ℤ, refl, arith}
use Rattle.std.specs.List.{sum_by}
use Rattle.std.proofs.lemmas.List.Sums.{sum_by-cons}
use Rattle.count_spec.specs.Windows.{answer, counted, repeat_count, late_count}
use Rattle.count_spec.specs.declared.entered.Entered.{Entered}
use Rattle.count_spec.specs.declared.entered.Entered.TheVariants.{First, Repeat, Late}
use Rattle.count_spec.specs.Parts.{parts}
use Rattle.count_spec.specs.Rise.{NumberedValue, rise, with_value, first_values}
use Rattle.count_spec.proofs.Counted.{counted-distinct, answers-add_up}
use Rattle.count_spec.proofs.Conservation.{parts-add_up}
use Rattle.count_spec.proofs.Rises.{rise-bound}
use Rattle.books_spec.specs.Views.{Figures, no_figures, figures_of, closing, sum_of, closed_figures, figures_over, rise_over}

-- ---- figures

pub sum_of-none : (f : Figures) → sum_of no_figures f ≡ f
sum_of-none f =
    rw (zero_and f.issued, zero_and f.received, zero_and f.pending, zero_and f.lost, zero_and f.repeated, zero_and f.late)
    refl
  where
    zero_and : (n : ℕ) → 0 + n ≡ n
    zero_and n = omega arith

-- closed boots have nothing pending
pub closed-pending : (width : ℕ) (boots : List (List ℕ)) → (closed_figures width boots).pending ≡ 0
closed-pending width [] = refl
closed-pending width (boot ∷ more) = let later = closed-pending width more in omega (arith, later)

pub closing-over : (width : ℕ) (boots : List (List ℕ)) → closed_figures width boots ≡ closing (figures_over width boots)
closing-over width [] = refl
closing-over width (current ∷ closed) =
    same (figures_of width current) (closed_figures width closed) (closed-pending width closed)
  where
    same : (f g : Figures) → g.pending ≡ 0 → sum_of (closing f) g ≡ closing (sum_of f g)
    same f g none = rw (none, lost f.lost f.pending g.lost) refl
      where
        lost : (a b c : ℕ) → a + b + c ≡ a + c + (b + 0)
        lost a b c = omega arith

boot-issued : (width : ℕ) (marks : List ℕ)
    → (figures_of width marks).issued
    ≡ (figures_of width marks).received + (figures_of width marks).pending + (figures_of width marks).lost
boot-issued width marks = parts-add_up width (counted width marks) (counted-distinct width marks)

pub closed-issued : (width : ℕ) (boots : List (List ℕ))
    → (closed_figures width boots).issued ≡ (closed_figures width boots).received + (closed_figures width boots).lost
closed-issued width [] = refl
closed-issued width (boot ∷ more) =
    let here = boot-issued width boot in
    let later = closed-issued width more in
    omega (arith, here, later)

pub over-issued : (width : ℕ) (boots : List (List ℕ))
    → (figures_over width boots).issued
    ≡ (figures_over width boots).received + (figures_over width boots).pending + (figures_over width boots).lost
over-issued width [] = refl
over-issued width (current ∷ closed) =
    let here = boot-issued width current in
    let later = closed-issued width closed in
    let none = closed-pending width closed in
    omega (arith, here, later, none)

parts-received : (width : ℕ) (set : List ℤ) → (parts width set).received ≡ length set
parts-received width [] = refl
parts-received width (n ∷ more) = refl

boot-marks : (width : ℕ) (marks : List ℕ)
    → (figures_of width marks).received + repeat_count width marks + late_count width marks ≡ length marks
boot-marks width marks = rw (parts-received width (counted width marks)) (answers-add_up width marks)

closed-marks : (width : ℕ) (boots : List (List ℕ))
    → (closed_figures width boots).received + (closed_figures width boots).repeated + (closed_figures width boots).late
    ≡ sum_by length boots
closed-marks width [] = refl
closed-marks width (boot ∷ more) =
    let here = boot-marks width boot in
    let later = closed-marks width more in
    let sum = sum_by-cons length boot more in
    omega (arith, here, later, sum)

pub over-marks : (width : ℕ) (boots : List (List ℕ))
    → (figures_over width boots).received + (figures_over width boots).repeated + (figures_over width boots).late
    ≡ sum_by length boots
over-marks width [] = refl
over-marks width (current ∷ closed) =
    let here = boot-marks width current in
    let later = closed-marks width closed in
    let sum = sum_by-cons length current closed in
    omega (arith, here, later, sum)

-- ---- rises

with_value-length : (a : Entered) (v n : ℕ) (before : List NumberedValue) → length before ≤ n
    → length (with_value a v before) ≤ suc n
with_value-length (First place number) v n before h = omega arith
with_value-length Repeat v n before h = omega arith
with_value-length Late v n before h = omega arith

first_values-length : {X : Type 0} (mark value : X → ℕ) (width : ℕ) (items : List X)
    → length (first_values mark value width items) ≤ length items
first_values-length mark value width [] = omega arith
first_values-length mark value width (x ∷ before) =
    with_value-length (answer width (counted width (map mark before)) (mark x)) (value x) (length before)
    (first_values mark value width before) (first_values-length mark value width before)

rise-few : (values : List NumberedValue) (n : ℕ) → length values ≤ n → rise values ≤ 4294967296 * n
rise-few [] n h = omega arith
rise-few (v ∷ before) n h = let bound = rise-bound v before in omega (arith, bound)

pub rise_over-few : {X : Type 0} (mark value : X → ℕ) (width : ℕ) (boots : List (List X))
    → rise_over mark value width boots ≤ 4294967296 * sum_by length boots
rise_over-few mark value width [] = omega arith
rise_over-few {X} mark value width (boot ∷ more) =
    let here = rise-few (first_values mark value width boot) (length boot) (first_values-length mark value width boot) in
    let later = rise_over-few mark value width more in
    let rises = sum_by-cons (λ (b : List X). rise (first_values mark value width b)) boot more in
    let lengths = sum_by-cons (λ (b : List X). length b) boot more in
    omega (arith, here, later, rises, lengths)
