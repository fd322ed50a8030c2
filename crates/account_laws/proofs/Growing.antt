-- In a generation the numbers of a source grow, and its counts don't fall.
use Rattle.std.proofs.Common.{◌≡◌, ℕ, ◌+◌, ◌<◌, ◌≤◌, Bool, true, false, cond, List, [], ◌∷◌, length, arith, refl, sym, ◌∙◌}
use Rattle.std.specs.List.{AllByRecursion, filter}
use Rattle.agent_spec.specs.Samples.{Sample}
use Rattle.agent_spec.specs.Orders.{AreNumberedFrom, NeverFall}
use Rattle.account_laws.proofs.Lists.{all-imply, all-where, AllPairs, pairs-both}

abbrev pub Grows : Sample → Sample → Type 0
Grows x y = (y.number < x.number) × (y.pool ≤ x.pool) × (y.drops ≤ x.drops)

below-all : (first : ℕ) (xs : List Sample) → AreNumberedFrom first xs → AllByRecursion (λ (y : Sample). y.number < first + length xs) xs
below-all first [] h = tt
below-all first (x ∷ before) h =
    let e : x.number ≡ first + length before = h.0 in (
      omega arith,
      all-imply (λ (y : Sample). y.number < first + length before) (λ (y : Sample). y.number < first + length (x ∷ before))
          (λ y l. more y l) before (below-all first before h.1),
    )
  where
    more : (y : Sample) → y.number < first + length before → y.number < first + length (x ∷ before)
    more y l = omega arith

numbers-grow : (first : ℕ) (xs : List Sample) → AreNumberedFrom first xs → AllPairs (λ (x y : Sample). y.number < x.number) xs
numbers-grow first [] h = tt
numbers-grow first (x ∷ before) h =
    let e : x.number ≡ first + length before = h.0 in (
      all-imply (λ (y : Sample). y.number < first + length before) (λ (y : Sample). y.number < x.number) (λ y l. less y e l) before
          (below-all first before h.1),
      numbers-grow first before h.1,
    )
  where
    less : (y : Sample) → x.number ≡ first + length before → y.number < first + length before → y.number < x.number
    less y e l = omega arith

abbrev pub DontFall : Sample → Sample → Type 0
DontFall x y = (y.pool ≤ x.pool) × (y.drops ≤ x.drops)

pub never-falls : (xs : List Sample) → NeverFall xs → AllPairs DontFall xs
never-falls [] h = tt
never-falls (x ∷ before) h = (
  all-imply (λ (y : Sample). (y.pool < x.pool) × (y.drops ≤ x.drops)) (DontFall x) (λ y l. (weaker y l.0, l.1)) before h.0,
  never-falls before h.1,
)
  where
    weaker : (y : Sample) → y.pool < x.pool → y.pool ≤ x.pool
    weaker y l = omega arith

abbrev pub HasNoCounts : Sample → Type 0
HasNoCounts y = (y.pool ≡ 0) × (y.drops ≡ 0)

pub zeros-dont : (xs : List Sample) → AllByRecursion HasNoCounts xs → AllPairs DontFall xs
zeros-dont [] h = tt
zeros-dont (x ∷ before) h =
    (all-imply HasNoCounts (DontFall x) (λ y z. (least y z.0, last y z.1)) before h.1, zeros-dont before h.1)
  where
    least : (y : Sample) → y.pool ≡ 0 → y.pool ≤ x.pool
    least y e = omega arith

    last : (y : Sample) → y.drops ≡ 0 → y.drops ≤ x.drops
    last y e = omega arith

pub grow : (first : ℕ) (xs : List Sample) → AreNumberedFrom first xs → AllPairs DontFall xs → AllPairs Grows xs
grow first xs n d = pairs-both (λ (x y : Sample). y.number < x.number) DontFall Grows (λ x y a b. (a, b.0, b.1)) xs (numbers-grow first xs n) d

pub pairs-where : {X : Type 0} (R : X → X → Type 0) (p : X → Bool) (xs : List X) → AllPairs R (filter p xs)
    → AllPairs (λ (x y : X). p x ≡ true → p y ≡ true → R x y) xs
pairs-where R p [] h = tt
pairs-where {X} R p (x ∷ xs) h = go (p x) refl h (λ k. pairs-where R p xs k)
  where
    Where : X → X → Type 0
    Where x y = p x ≡ true → p y ≡ true → R x y

    here : p x ≡ true → (ys : List X) → AllByRecursion (λ (y : X). p y ≡ true → R x y) ys → AllByRecursion (λ (y : X). p x ≡ true → p y ≡ true → R x y) ys
    here e ys all = all-imply (λ (y : X). p y ≡ true → R x y) (λ (y : X). p x ≡ true → p y ≡ true → R x y) (λ y r t. r) ys all

    none : p x ≡ false → (ys : List X) → AllByRecursion (λ (y : X). p x ≡ true → p y ≡ true → R x y) ys
    none e [] = tt
    none e (y ∷ ys) = ((λ t. (let bad : true ≡ false = sym t ∙ e in absurd cc)), none e ys)

    go : (b : Bool) → p x ≡ b → AllPairs R (cond b (x ∷ filter p xs) (filter p xs))
        → (AllPairs R (filter p xs) → AllPairs (λ (x y : X). p x ≡ true → p y ≡ true → R x y) xs)
        → AllByRecursion (λ (y : X). p x ≡ true → p y ≡ true → R x y) xs × AllPairs (λ (x y : X). p x ≡ true → p y ≡ true → R x y) xs
    go true e k rest = (here e xs (all-where (R x) p xs k.0), rest k.1)
    go false e k rest = (none e xs, rest k)

pub pairs-for-all : {T X : Type 0} (R : T → X → X → Type 0) (xs : List X) → ((t : T) → AllPairs (R t) xs)
    → AllPairs (λ (x y : X). (t : T) → R t x y) xs
pairs-for-all R [] h = tt
pairs-for-all {T} R (x ∷ xs) h = (heads xs (λ t. (h t).0), pairs-for-all R xs (λ t. (h t).1))
  where
    heads : (ys : List _) → ((t : T) → AllByRecursion (R t x) ys) → AllByRecursion (λ y. (t : T) → R t x y) ys
    heads [] k = tt
    heads (y ∷ ys) k = ((λ t. (k t).0), heads ys (λ t. (k t).1))
