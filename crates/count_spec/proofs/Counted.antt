-- What marks count.
use Rattle.std.proofs.Common.{◌≡◌, ℕ, suc, ◌+◌, ◌<◌, ◌≤◌, false, cond, List, [], ◌∷◌, length, ℤ, ◌≤ℤ◌, ◌<ℤ◌, ◌≢◌, arith, refl, subst}
use Rattle.std.specs.Int.{int_max}
use Rattle.std.proofs.lemmas.Int.{ints, clamps}
use Rattle.count_spec.specs.Windows.{near, greatest, least, has, AreDistinct, answer, answers, counting, counted, is_repeat, is_late, repeat_count, late_count, place}
use Rattle.count_spec.specs.declared.entered.Entered.{Entered}
use Rattle.count_spec.specs.declared.entered.Entered.TheVariants.{First, Repeat, Late}
use Rattle.count_spec.specs.declared.entered.Place.{Place}
use Rattle.count_spec.specs.declared.entered.Place.TheVariants.{Only, Newest, Inside, Least}
use Rattle.count_spec.proofs.Answers.{number_answer-cases, place-cases}
use Rattle.count_spec.proofs.Counts.{count_by-cons}
use Rattle.count_spec.proofs.Sets.{has-greatest-bound, has-differs, has-greatest, has-least}

-- no number twice
counting-distinct : (width : ℕ) (set : List ℤ) (mark : ℕ) → AreDistinct set
    → AreDistinct (counting (answer width set mark) set)
counting-distinct width [] mark h = (refl, tt)
counting-distinct width (n ∷ more) mark h =
    let set : List ℤ = n ∷ more in
    number_answer-cases (λ a. AreDistinct (counting a set)) width set (near mark (greatest set))
    (λ e. h) (λ e f. h) (λ e f. (f, h))

pub counted-distinct : (width : ℕ) (marks : List ℕ) → AreDistinct (counted width marks)
counted-distinct width [] = tt
counted-distinct width (mark ∷ before) =
    counting-distinct width (counted width before) mark (counted-distinct width before)

-- each mark is counted, or a Repeat, or Late
abbrev IsOne : List ℤ → Entered → Type 0
IsOne set a = length (counting a set) + cond (is_repeat a) 1 0 + cond (is_late a) 1 0 ≡ suc (length set)

one : (width : ℕ) (set : List ℤ) (mark : ℕ) → IsOne set (answer width set mark)
one width [] mark = refl
one width (n ∷ more) mark =
    let set : List ℤ = n ∷ more in
    number_answer-cases (IsOne set) width set (near mark (greatest set))
    (λ e. omega arith) (λ e f. omega arith) (λ e f. omega arith)

pub answers-add_up : (width : ℕ) (marks : List ℕ)
    → length (counted width marks) + repeat_count width marks + late_count width marks ≡ length marks
answers-add_up width [] = refl
answers-add_up width (mark ∷ before) =
    let here = one width (counted width before) mark in
    let later = answers-add_up width before in
    let r = count_by-cons is_repeat (answer width (counted width before) mark) (answers width before) in
    let l = count_by-cons is_late (answer width (counted width before) mark) (answers width before) in
    omega (arith, here, later, r, l)

-- some number is counted once a mark came
counting-some : (width : ℕ) (set : List ℤ) (mark : ℕ) → 0 < length (counting (answer width set mark) set)
counting-some width [] mark = omega arith
counting-some width (n ∷ more) mark =
    let set : List ℤ = n ∷ more in
    number_answer-cases (λ a. 0 < length (counting a set)) width set (near mark (greatest set))
    (λ e. omega arith) (λ e f. omega arith) (λ e f. omega arith)

pub counted-some : (width mark : ℕ) (before : List ℕ) → 0 < length (counted width (mark ∷ before))
counted-some width mark before = counting-some width (counted width before) mark

-- the greatest number is the greater of the one before and the mark's own
counting-greatest : (width mark : ℕ) (n : ℤ) (more : List ℤ)
    → greatest (counting (answer width (n ∷ more) mark) (n ∷ more))
    ≡ int_max (near mark (greatest (n ∷ more))) (greatest (n ∷ more))
counting-greatest width mark n more =
    number_answer-cases
    (λ a. greatest (counting a (n ∷ more))
    ≡ int_max (near mark (greatest (n ∷ more))) (greatest (n ∷ more)))
    width (n ∷ more) (near mark (greatest (n ∷ more)))
    (λ e. stays (near mark (greatest (n ∷ more))) (greatest (n ∷ more)) (omega (arith, ints)))
    (λ e f. stays (near mark (greatest (n ∷ more))) (greatest (n ∷ more)) (has-greatest-bound n more _ f))
    (λ e f. refl)
  where
    stays : (k g : ℤ) → k ≤ℤ g → g ≡ int_max k g
    stays k g h = omega (arith, ints, clamps)

pub counted-greatest : (width mark m : ℕ) (before : List ℕ)
    → greatest (counted width (mark ∷ m ∷ before))
    ≡ int_max (near mark (greatest (counted width (m ∷ before)))) (greatest (counted width (m ∷ before)))
counted-greatest width mark m before = go (counted width (m ∷ before)) (counted-some width m before)
  where
    go : (set : List ℤ) → 0 < length set
        → greatest (counting (answer width set mark) set) ≡ int_max (near mark (greatest set)) (greatest set)
    go [] some = absurd (omega arith)
    go (n ∷ more) some = counting-greatest width mark n more

pub counted-bound : (width : ℕ) (marks : List ℕ) → length (counted width marks) ≤ length marks
counted-bound width marks = let sum = answers-add_up width marks in omega (arith, sum)

-- ---- what each place of a First number says

abbrev Says : List ℤ → Place → ℤ → Type 0
Says set Only n = set ≡ []
Says set Newest n = greatest set <ℤ n
Says set Inside n = (least set <ℤ n) × (n <ℤ greatest set)
Says set Least n = n <ℤ least set

abbrev SaysFirst : List ℤ → Entered → Type 0
SaysFirst set (First p n) = (has set n ≡ false) × Says set p n
SaysFirst set Repeat = Unit {0}
SaysFirst set Late = Unit {0}

first-says : (n : ℤ) (more : List ℤ) (k : ℤ) → has (n ∷ more) k ≡ false
    → Says (n ∷ more) (place (n ∷ more) k) k
first-says n more k out =
    place-cases (λ p. Says (n ∷ more) p k) (n ∷ more) k
    (λ above. above)
    (λ up down. down)
    (λ up down. (
      low down (has-differs (n ∷ more) k _ out (has-least n more)),
      high up (has-differs (n ∷ more) k _ out (has-greatest n more)),
    ))
  where
    low : least (n ∷ more) ≤ℤ k → k ≢ least (n ∷ more) → least (n ∷ more) <ℤ k
    low a b = omega (arith, ints)

    high : k ≤ℤ greatest (n ∷ more) → k ≢ greatest (n ∷ more) → k <ℤ greatest (n ∷ more)
    high a b = omega (arith, ints)

answer-says : (width : ℕ) (set : List ℤ) (mark : ℕ) → SaysFirst set (answer width set mark)
answer-says width [] mark = (refl, refl)
answer-says width (n ∷ more) mark =
    number_answer-cases (SaysFirst (n ∷ more)) width (n ∷ more) (near mark (greatest (n ∷ more)))
    (λ e. tt) (λ e f. tt) (λ e f. (f, first-says n more (near mark (greatest (n ∷ more))) f))

pub first-new : (width : ℕ) (set : List ℤ) (mark : ℕ) (p : Place) (n : ℤ)
    → answer width set mark ≡ First p n → has set n ≡ false
first-new width set mark p n e = (subst (SaysFirst set) e (answer-says width set mark)).0

pub first-place : (width : ℕ) (set : List ℤ) (mark : ℕ) (p : Place) (n : ℤ)
    → answer width set mark ≡ First p n → Says set p n
first-place width set mark p n e = (subst (SaysFirst set) e (answer-says width set mark)).1
