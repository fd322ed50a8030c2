-- The members of a list that pass a test.
use Rattle.std.proofs.Common.{◌≡◌, ℕ, ◌≤◌, ◌<◌, zero, suc, Bool, true, false, cond, List, [], ◌∷◌, length, get_or, arith, ap}
use Rattle.std.specs.List.{AllByRecursion, filter, count_by}
use Rattle.std.proofs.lemmas.List.Sums.{sum_by-cons}

pub filter-yes : {X : Type 0} (p : X → Bool) (x : X) (xs : List X) → p x ≡ true
    → filter p (x ∷ xs) ≡ x ∷ filter p xs
filter-yes p x xs e = ap (λ (b : Bool). cond b (x ∷ filter p xs) (filter p xs)) e

pub filter-no : {X : Type 0} (p : X → Bool) (x : X) (xs : List X) → p x ≡ false
    → filter p (x ∷ xs) ≡ filter p xs
filter-no p x xs e = ap (λ (b : Bool). cond b (x ∷ filter p xs) (filter p xs)) e

-- what holds of all holds of those that pass
pub all-filter : {X : Type 0} (P : X → Type 0) (p : X → Bool) (xs : List X) → AllByRecursion P xs
    → AllByRecursion P (filter p xs)
all-filter P p [] h = tt
all-filter {X} P p (x ∷ xs) h = go (p x) (all-filter P p xs h.1)
  where
    go : (b : Bool) → AllByRecursion P (filter p xs) → AllByRecursion P (cond b (x ∷ filter p xs) (filter p xs))
    go true later = (h.0, later)
    go false later = later

pub all-imply : {X : Type 0} (P Q : X → Type 0) → ((x : X) → P x → Q x) → (xs : List X)
    → AllByRecursion P xs → AllByRecursion Q xs
all-imply P Q f [] h = tt
all-imply P Q f (x ∷ xs) h = (f x h.0, all-imply P Q f xs h.1)

pub all-at : (xs : List ℕ) (i : ℕ) → AllByRecursion (λ (n : ℕ). 1 ≤ n) xs → i < length xs → 1 ≤ get_or xs i 0
all-at [] i h less = absurd (omega (arith, less))
all-at (x ∷ xs) zero h less = h.0
all-at (x ∷ xs) (suc i) h less = all-at xs i h.1 (omega arith)

pub count_by-more : {X : Type 0} (p : X → Bool) (x : X) (xs : List X) → count_by p xs ≤ count_by p (x ∷ xs)
count_by-more {X} p x xs = let e = sum_by-cons (λ (y : X). cond (p y) 1 0) x xs in omega (arith, e)
