-- Lists of which something holds of each, or of each two.
use Rattle.std.proofs.Common.{◌≡◌, ◌⊎◌, inl, inr, Bool, true, false, cond, List, [], ◌∷◌, ◌++◌, map, reverse, refl, sym, ap, subst, ◌∙◌, append_assoc}
use Rattle.std.specs.List.{AllByRecursion, filter}
use Rattle.std.proofs.lemmas.List.{reverse-append}
use Rattle.books_spec.specs.Books.{onto}
use Rattle.agent_spec.specs.Boots.{IsAmong}

pub all-both : {X : Type 0} (P Q R : X → Type 0) → ((x : X) → P x → Q x → R x) → (xs : List X)
    → AllByRecursion P xs → AllByRecursion Q xs → AllByRecursion R xs
all-both P Q R f [] p q = tt
all-both P Q R f (x ∷ xs) p q = (f x p.0 q.0, all-both P Q R f xs p.1 q.1)

pub all-imply : {X : Type 0} (P Q : X → Type 0) → ((x : X) → P x → Q x) → (xs : List X) → AllByRecursion P xs
    → AllByRecursion Q xs
all-imply P Q f [] p = tt
all-imply P Q f (x ∷ xs) p = (f x p.0, all-imply P Q f xs p.1)

pub all-filter : {X : Type 0} (P : X → Type 0) (p : X → Bool) (xs : List X) → AllByRecursion P xs
    → AllByRecursion P (filter p xs)
all-filter P p [] h = tt
all-filter {X} P p (x ∷ xs) h = go (p x) (all-filter P p xs h.1)
  where
    go : (b : Bool) → AllByRecursion P (filter p xs) → AllByRecursion P (cond b (x ∷ filter p xs) (filter p xs))
    go true later = (h.0, later)
    go false later = later

-- those that pass the test do
pub all-passing : {X : Type 0} (p : X → Bool) (xs : List X) → AllByRecursion (λ (x : X). p x ≡ true) (filter p xs)
all-passing p [] = tt
all-passing {X} p (x ∷ xs) = go (p x) refl (all-passing p xs)
  where
    go : (b : Bool) → p x ≡ b → AllByRecursion (λ (y : X). p y ≡ true) (filter p xs)
        → AllByRecursion (λ (y : X). p y ≡ true) (cond b (x ∷ filter p xs) (filter p xs))
    go true e later = (e, later)
    go false e later = later

-- what holds of those that pass a test holds of each, where it passes
pub all-where : {X : Type 0} (P : X → Type 0) (p : X → Bool) (xs : List X) → AllByRecursion P (filter p xs)
    → AllByRecursion (λ (x : X). p x ≡ true → P x) xs
all-where P p [] h = tt
all-where {X} P p (x ∷ xs) h = go (p x) refl h (λ k. all-where P p xs k)
  where
    go : (b : Bool) → p x ≡ b → AllByRecursion P (cond b (x ∷ filter p xs) (filter p xs))
        → (AllByRecursion P (filter p xs) → AllByRecursion (λ (y : X). p y ≡ true → P y) xs)
        → (p x ≡ true → P x) × AllByRecursion (λ (y : X). p y ≡ true → P y) xs
    go true e k later = ((λ t. k.0), later k.1)
    go false e k later = ((λ t. (let bad : true ≡ false = sym t ∙ e in absurd cc)), later k)

pub all-append : {X : Type 0} (P : X → Type 0) (xs ys : List X) → AllByRecursion P xs → AllByRecursion P ys
    → AllByRecursion P (xs ++ ys)
all-append P [] ys p q = q
all-append P (x ∷ xs) ys p q = (p.0, all-append P xs ys p.1 q)

pub all-front : {X : Type 0} (P : X → Type 0) (xs ys : List X) → AllByRecursion P (xs ++ ys) → AllByRecursion P xs
all-front P [] ys h = tt
all-front P (x ∷ xs) ys h = (h.0, all-front P xs ys h.1)

pub all-behind : {X : Type 0} (P : X → Type 0) (xs ys : List X) → AllByRecursion P (xs ++ ys) → AllByRecursion P ys
all-behind P [] ys h = h
all-behind P (x ∷ xs) ys h = all-behind P xs ys h.1

pub all-onto : {X : Type 0} (P : X → Type 0) (xs ys : List X) → AllByRecursion P xs → AllByRecursion P ys
    → AllByRecursion P (onto xs ys)
all-onto P [] ys p q = q
all-onto P (x ∷ xs) ys p q = all-onto P xs (x ∷ ys) p.1 (p.0, q)

pub all-map : {X Y : Type 0} (P : Y → Type 0) (f : X → Y) (xs : List X) → AllByRecursion (λ (x : X). P (f x)) xs
    → AllByRecursion P (map f xs)
all-map P f [] h = tt
all-map P f (x ∷ xs) h = (h.0, all-map P f xs h.1)

pub all-mapped : {X Y : Type 0} (P : Y → Type 0) (f : X → Y) (xs : List X) → AllByRecursion P (map f xs)
    → AllByRecursion (λ (x : X). P (f x)) xs
all-mapped P f [] h = tt
all-mapped P f (x ∷ xs) h = (h.0, all-mapped P f xs h.1)

pub all-each : {X : Type 0} (P : X → Type 0) → ((x : X) → P x) → (xs : List X) → AllByRecursion P xs
all-each P f [] = tt
all-each P f (x ∷ xs) = (f x, all-each P f xs)

-- two readings of a list that agree on each of it
pub map-on : {X Y : Type 0} (f g : X → Y) (xs : List X) → AllByRecursion (λ (x : X). f x ≡ g x) xs → map f xs ≡ map g xs
map-on f g [] h = refl
map-on {X} {Y} f g (x ∷ xs) h = let e = h.0 in let later = map-on f g xs h.1 in λ j. e j ∷ later j

-- ---- one of a list

pub all-among : {X : Type 0} (P : X → Type 0) (x : X) (xs : List X) → IsAmong x xs → AllByRecursion P xs → P x
all-among P x [] h all = absurd h
all-among P x (y ∷ more) (inl e) all = subst P (sym e) all.0
all-among P x (y ∷ more) (inr h) all = all-among P x more h all.1

pub all-members : {X : Type 0} (more xs : List X) → ((x : X) → IsAmong x xs → IsAmong x more)
    → AllByRecursion (λ (x : X). IsAmong x more) xs
all-members more [] sub = tt
all-members more (x ∷ xs) sub = (sub x (inl refl), all-members more xs (λ y a. sub y (inr a)))

pub among-map : {X Y : Type 0} (f : X → Y) (x : X) (xs : List X) → IsAmong x xs → IsAmong (f x) (map f xs)
among-map f x [] h = h
among-map f x (y ∷ more) (inl e) = inl (ap f e)
among-map f x (y ∷ more) (inr h) = inr (among-map f x more h)

-- ---- each two of a list, the later one in front

abbrev pub AllPairs : {X : Type 0} → (X → X → Type 0) → List X → Type 0
AllPairs R [] = Unit {0}
AllPairs R (x ∷ before) = AllByRecursion (R x) before × AllPairs R before

pub pairs-filter : {X : Type 0} (R : X → X → Type 0) (p : X → Bool) (xs : List X) → AllPairs R xs
    → AllPairs R (filter p xs)
pairs-filter R p [] h = tt
pairs-filter {X} R p (x ∷ xs) h = go (p x) (pairs-filter R p xs h.1)
  where
    go : (b : Bool) → AllPairs R (filter p xs) → AllPairs R (cond b (x ∷ filter p xs) (filter p xs))
    go true later = (all-filter (R x) p xs h.0, later)
    go false later = later

pub pairs-both : {X : Type 0} (R S T : X → X → Type 0) → ((x y : X) → R x y → S x y → T x y) → (xs : List X)
    → AllPairs R xs → AllPairs S xs → AllPairs T xs
pairs-both R S T f [] p q = tt
pairs-both R S T f (x ∷ xs) p q = (all-both (R x) (S x) (T x) (f x) xs p.0 q.0, pairs-both R S T f xs p.1 q.1)

pub pairs-behind : {X : Type 0} (R : X → X → Type 0) (xs ys : List X) → AllPairs R (xs ++ ys) → AllPairs R ys
pairs-behind R [] ys h = h
pairs-behind R (x ∷ xs) ys h = pairs-behind R xs ys h.1

pub pairs-mapped : {X Y : Type 0} (R : Y → Y → Type 0) (f : X → Y) (xs : List X) → AllPairs R (map f xs)
    → AllPairs (λ (x y : X). R (f x) (f y)) xs
pairs-mapped R f [] h = tt
pairs-mapped R f (x ∷ xs) h = (all-mapped (R (f x)) f xs h.0, pairs-mapped R f xs h.1)

-- a relation that holds either way of each two of a list, and what is then so of two of its items
pub of-two : {X : Type 0} (R : X → X → Type 0) (x y : X) (xs : List X) → IsAmong x xs → IsAmong y xs → AllPairs R xs
    → (x ≡ y) ⊎ (R x y ⊎ R y x)
of-two R x y [] h k p = absurd h
of-two R x y (z ∷ more) (inl e) (inl f) p = inl (e ∙ sym f)
of-two R x y (z ∷ more) (inl e) (inr k) p = inr (inl (subst (λ a. R a y) (sym e) (all-among (R z) y more k p.0)))
of-two R x y (z ∷ more) (inr h) (inl f) p = inr (inr (subst (λ a. R a x) (sym f) (all-among (R z) x more h p.0)))
of-two R x y (z ∷ more) (inr h) (inr k) p = of-two R x y more h k p.1

-- ---- items put onto others one by one

pub onto-is : {X : Type 0} (xs rest : List X) → onto xs rest ≡ reverse xs ++ rest
onto-is [] rest = refl
onto-is (x ∷ more) rest =
    onto-is more (x ∷ rest)
    ∙ sym (ap (λ r. r ++ rest) (reverse-append (x ∷ []) more) ∙ append_assoc (reverse more) (x ∷ []) rest)

pub map-onto : {X Y : Type 0} (f : X → Y) (xs rest : List X) → map f (onto xs rest) ≡ onto (map f xs) (map f rest)
map-onto f [] rest = refl
map-onto f (x ∷ xs) rest = map-onto f xs (x ∷ rest)

pub filter-onto : {X : Type 0} (p : X → Bool) (xs rest : List X) → filter p (onto xs rest) ≡ onto (filter p xs) (filter p rest)
filter-onto p [] rest = refl
filter-onto {X} p (x ∷ xs) rest = filter-onto p xs (x ∷ rest) ∙ go (p x)
  where
    go : (b : Bool) → onto (filter p xs) (cond b (x ∷ filter p rest) (filter p rest))
        ≡ onto (cond b (x ∷ filter p xs) (filter p xs)) (filter p rest)
    go true = refl
    go false = refl

pub among-onto : {X : Type 0} (x : X) (xs rest : List X) → IsAmong x xs ⊎ IsAmong x rest → IsAmong x (onto xs rest)
among-onto x [] rest (inl h) = absurd h
among-onto x [] rest (inr h) = h
among-onto x (y ∷ more) rest (inl (inl e)) = among-onto x more (y ∷ rest) (inr (inl e))
among-onto x (y ∷ more) rest (inl (inr h)) = among-onto x more (y ∷ rest) (inl h)
among-onto x (y ∷ more) rest (inr h) = among-onto x more (y ∷ rest) (inr (inr h))
