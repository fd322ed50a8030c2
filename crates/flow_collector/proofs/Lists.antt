-- Lists of samples, of keys and of boots.
use Rattle.std.proofs.Common.{◌≡◌, suc, ◌+◌, ◌≤◌, Bool, true, false, ◌||◌, Option, Some, None, List, [], ◌∷◌, ◌++◌, length, map, refl, sym, ap, ◌∙◌, true≢false, arith}
use Rattle.std.specs.List.{filter_map, cons_option, count_by, sum_by}
use Rattle.std.proofs.lemmas.List.Sums.{sum_by-cons}
use Rattle.count_spec.proofs.Counts.{count_by-no}
use Rattle.books_spec.specs.Listing.{among, first_arrivals}
use Rattle.books_spec.specs.Books.{onto}
use Rattle.books_spec.proofs.Listings.{IsSame, symmetric, first_arrivals-all}
use Rattle.collector_tables.specs.Sources.{AreEmpty}
use Rattle.collector_tables.specs.Tables.{keys_in, Each}

-- ---- one more

pub onto-last : {X : Type 0} (xs : List X) (x : X) (rest : List X) → onto (xs ++ x ∷ []) rest ≡ x ∷ onto xs rest
onto-last [] x rest = refl
onto-last (y ∷ ys) x rest = onto-last ys x (y ∷ rest)

pub map-last : {X Y : Type 0} (f : X → Y) (xs : List X) (x : X) → map f (xs ++ x ∷ []) ≡ map f xs ++ f x ∷ []
map-last f [] x = refl
map-last f (y ∷ ys) x = ap (λ rest. f y ∷ rest) (map-last f ys x)

pub length-last : {X : Type 0} (xs : List X) (x : X) → length (xs ++ x ∷ []) ≡ length xs + 1
length-last [] x = refl
length-last (y ∷ ys) x =
    let later = length-last ys x in
    omega (arith, later)

pub length-onto : {X : Type 0} (xs rest : List X) → length (onto xs rest) ≡ length xs + length rest
length-onto [] rest = omega arith
length-onto (x ∷ more) rest =
    let later = length-onto more (x ∷ rest) in
    omega (arith, later)

pub length-map-all : {X Y : Type 0} (f : X → Y) (xs : List X) → length (map f xs) ≡ length xs
length-map-all f [] = refl
length-map-all f (x ∷ xs) = ap suc (length-map-all f xs)

pub length-filter_map : {X Y : Type 0} (f : X → Option Y) (xs : List X) → length (filter_map f xs) ≤ length xs
length-filter_map f [] = omega arith
length-filter_map {X} {Y} f (x ∷ xs) =
    let later = length-filter_map f xs in
    let here = one (f x) (filter_map f xs) in
    omega (arith, later, here)
  where
    one : (o : Option Y) (ys : List Y) → length (cons_option o ys) ≤ length ys + 1
    one None ys = omega arith
    one (Some y) ys = omega arith

-- ---- keys

or-none : (a b : Bool) → (a || b) ≡ false → (a ≡ false) × (b ≡ false)
or-none true b h = absurd (true≢false h)
or-none false b h = (refl, h)

pub or-more : (a b : Bool) → b ≡ true → (a || b) ≡ true
or-more true b h = refl
or-more false b h = h

module _ {S : Type 0} (same : S → S → Bool) (laws : IsSame same) where
  -- the test is the same both ways round
  pub either-way : (a b : S) → same a b ≡ same b a
  either-way a b = go (same a b) refl
    where
      go : (c : Bool) → same a b ≡ c → same a b ≡ same b a
      go true e =
          let q : a ≡ b = laws.to a b e in
          λ j. same (q j) (sym q j)
      go false e = e ∙ sym (symmetric same laws a b e)

  -- of a key that isn't there none is counted
  pub absent-count : (key : S) (arrived : List S) → among same arrived key ≡ false → count_by (same key) arrived ≡ 0
  absent-count key [] none = refl
  absent-count key (x ∷ before) none =
      let parts = or-none (same key x) (among same before key) none in
      count_by-no (same key) x before parts.0 ∙ absent-count key before parts.1

  -- a key that isn't among the first arrivals didn't arrive
  pub not-arrived : (key : S) (arrived : List S) → among same (first_arrivals same arrived) key ≡ false
      → among same arrived key ≡ false
  not-arrived key arrived none = go (among same arrived key) refl
    where
      go : (b : Bool) → among same arrived key ≡ b → among same arrived key ≡ false
      go true e = absurd (true≢false (sym (first_arrivals-all same laws arrived key e) ∙ none))
      go false e = e

  -- what is so at each of the keys of a table goes on
  pub each-listed : {K V : Type 0} (key : K → S) (P Q : S → V → Type 0) (entries : List (K × V))
      → ((t : S) (v : V) → among same (keys_in key entries) t ≡ true → P t v → Q t v)
      → Each key P entries → Each key Q entries
  each-listed key P Q [] step all = tt
  each-listed key P Q (e ∷ more) step all = (
    step (key e.0) e.1 (ap (λ b. b || among same (keys_in key more) (key e.0)) (laws.self (key e.0))) all.0,
    each-listed key P Q more
        (λ t v there was. step t v (or-more (same t (key e.0)) (among same (keys_in key more) t) there) was) all.1,
  )

-- ---- boots

-- where nothing came no boot has an entry
pub none-empty : {X : Type 0} (bs : List (List X)) → sum_by length bs ≡ 0 → AreEmpty bs
none-empty [] none = tt
none-empty {X} (boot ∷ closed) none =
    let sum = sum_by-cons length boot closed in
    let here : length boot ≡ 0 = omega (arith, sum, none) in
    let later : sum_by length closed ≡ 0 = omega (arith, sum, none) in
    (empty boot here, none-empty closed later)
  where
    empty : (xs : List X) → length xs ≡ 0 → xs ≡ []
    empty [] h = refl
    empty (x ∷ xs) h = absurd (omega (arith, h))

pub map-sum : {X Y : Type 0} (f : X → Y) (bs : List (List X)) → sum_by length (map (map f) bs) ≡ sum_by length bs
map-sum f [] = refl
map-sum f (boot ∷ closed) =
    let now = sum_by-cons length (map f boot) (map (map f) closed) in
    let was = sum_by-cons length boot closed in
    let later = map-sum f closed in
    let here = length-map-all f boot in
    omega (arith, now, was, later, here)
