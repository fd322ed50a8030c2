-- Boots without an entry count for nothing.
use Rattle.std.proofs.Common.{◌≡◌, ℕ, suc, ◌≤◌, List, [], ◌∷◌, length, map, refl, ◌∙◌, ap, arith}
use Rattle.std.specs.List.{sum_by}
use Rattle.std.proofs.lemmas.List.Sums.{sum_by-cons}
use Rattle.books_spec.specs.Views.{figures_of, closing, sum_of, closed_figures, marks_in}
use Rattle.books_spec.proofs.Sums.{sum_of-none}
use Rattle.source_ledger.specs.Stretches.{current_of, closed_of}
use Rattle.source_ledger.specs.Boots.{entered_boots}

pub trim-length : {X : Type 0} (boots : List (List X)) → length (entered_boots boots) ≤ length boots
trim-length [] = omega arith
trim-length ([] ∷ closed) = let later = trim-length closed in omega (arith, later)
trim-length ((x ∷ more) ∷ closed) = omega arith

-- a sum over boots to which a boot without an entry adds nothing
pub trim-sum : {X : Type 0} (f : List X → ℕ) (boots : List (List X)) → f [] ≡ 0
    → sum_by f (entered_boots boots) ≡ sum_by f boots
trim-sum f [] none = refl
trim-sum {X} f ([] ∷ closed) none =
    let later = trim-sum f closed none in
    let sum = sum_by-cons f [] closed in
    omega (arith, later, sum, none)
trim-sum f ((x ∷ more) ∷ closed) none = refl

pub trim-closed : (width : ℕ) (boots : List (List ℕ))
    → closed_figures width boots ≡ closed_figures width (entered_boots boots)
trim-closed width [] = refl
trim-closed width ([] ∷ closed) = sum_of-none (closed_figures width closed) ∙ trim-closed width closed
trim-closed width ((x ∷ more) ∷ closed) = refl

-- closed stretches are the first of them and the others
pub closed-first : (width : ℕ) (stretches : List (List ℕ))
    → closed_figures width stretches
    ≡ sum_of (closing (figures_of width (current_of stretches))) (closed_figures width (closed_of stretches))
closed-first width [] = refl
closed-first width (stretch ∷ more) = refl

length-map : {X Y : Type 0} (f : X → Y) (xs : List X) → length (map f xs) ≡ length xs
length-map f [] = refl
length-map f (x ∷ xs) = ap suc (length-map f xs)

-- as many marks as items
pub marks-length : {X : Type 0} (mark : X → ℕ) (boots : List (List X))
    → sum_by length (marks_in mark boots) ≡ sum_by length boots
marks-length mark [] = refl
marks-length {X} mark (boot ∷ closed) =
    let later = marks-length mark closed in
    let here = length-map mark boot in
    let a = sum_by-cons (λ (b : List ℕ). length b) (map mark boot) (marks_in mark closed) in
    let b = sum_by-cons (λ (b : List X). length b) boot closed in
    omega (arith, later, here, a, b)
