-- The order in which an agent issues the samples of a source in a boot, and their places, which tell it.
use Rattle.std.proofs.Common.{◌≡◌, ◌≢◌, ℕ, ◌<◌, ◌≤◌, ◌⊎◌, inl, inr, Bool, true, false, ◌||◌, ◌&&◌, List, [], ◌∷◌, ℤ, ◌-ℤ◌, ◌<ℤ◌, arith, refl, sym, ◌∙◌}
use Rattle.std.specs.Prelude.{nat_lt}
use Rattle.std.specs.List.{AllByRecursion}
use Rattle.std.proofs.lemmas.Int.{ints}
use Rattle.count_spec.specs.Windows.{has, AreDistinct}
use Rattle.count_spec.proofs.Integers.{int_eq-other}
use Rattle.books_spec.specs.declared.sample_place.SamplePlace.{SamplePlace}
use Rattle.books_spec.specs.Generations.{is_before}
use Rattle.books_spec.proofs.PlaceOrder.{before-itself, before-both}
use Rattle.agent_spec.specs.Samples.{Sample}
use Rattle.account_spec.specs.Arrivals.{Arrived, generation_of, sample_number, sample_numbers}
use Rattle.account_laws.proofs.Lists.{AllPairs}
use Rattle.account_laws.proofs.Parts.{AllOf}
use Rattle.account_laws.proofs.Moved.{lt-moved, eq-moved}

-- x was issued before y: its generation is earlier, or it's the same, and then its number is less and its counts aren't more
abbrev pub ComesBefore : Sample → Sample → Type 0
ComesBefore x y =
    (x.turn.generation < y.turn.generation)
    ⊎ ((x.turn.generation ≡ y.turn.generation) × (x.number < y.number) × (x.pool ≤ y.pool) × (x.drops ≤ y.drops))

-- so say its place and its counts
pub record IsEarlier (x y : Arrived) : Type 0 where
  pub place : is_before x.place y.place ≡ true
  pub counts : ComesBefore x.sample y.sample

abbrev pub AreTwo : Arrived → Arrived → Type 0
AreTwo x y = IsEarlier x y ⊎ IsEarlier y x

abbrev pub AreInOrder : List Arrived → Type 0
AreInOrder xs = AllPairs AreTwo xs

-- ---- places that are less by a constant

abbrev pub moved_place : ℤ → SamplePlace → SamplePlace
moved_place c p = record { datagram = p.datagram -ℤ c; index = p.index }

pub before-moved : (c : ℤ) (p q : SamplePlace) → is_before (moved_place c p) (moved_place c q) ≡ is_before p q
before-moved c p q =
    let l = lt-moved p.datagram q.datagram c in
    let e = eq-moved p.datagram q.datagram c in
    λ j. l j || (e j && nat_lt p.index q.index)

-- one before the other isn't behind it
pub before-once : (p q : SamplePlace) → is_before p q ≡ true → is_before q p ≡ false
before-once p q e = go (is_before q p) refl
  where
    go : (b : Bool) → is_before q p ≡ b → b ≡ false
    go true f = let bad : true ≡ false = sym (before-both p q p e f) ∙ before-itself p in absurd cc
    go false f = refl

-- ---- of two samples of a generation the one with the greater number is later

abbrev pub IsLess : Arrived → Arrived → Type 0
IsLess x y = (is_before x.place y.place ≡ true) × (sample_number x <ℤ sample_number y)

less-of : (x y : Arrived) → IsEarlier x y → generation_of x ≡ generation_of y → IsLess x y
less-of x y e same = (e.place, go e.counts)
  where
    go : ComesBefore x.sample y.sample → sample_number x <ℤ sample_number y
    go (inl g) = absurd (omega arith)
    go (inr h) = let l : x.sample.number < y.sample.number = h.1 in omega (arith, ints)

pub number-decides : (x y : Arrived) → AreTwo x y → generation_of x ≡ generation_of y → IsLess x y ⊎ IsLess y x
number-decides x y (inl e) same = inl (less-of x y e same)
number-decides x y (inr e) same = inr (less-of y x e (sym same))

-- one of an earlier generation is before
pub earlier-before : (x y : Arrived) → AreTwo x y → generation_of x < generation_of y → is_before x.place y.place ≡ true
earlier-before x y (inl e) less = e.place
earlier-before x y (inr e) less = absurd (never e.counts)
  where
    never : ComesBefore y.sample x.sample → ⊥
    never (inl l) = omega arith
    never (inr h) = let s : y.sample.turn.generation ≡ x.sample.turn.generation = h.0 in omega arith

-- ---- samples of one generation have numbers that differ

differs : (x : Arrived) (ys : List Arrived) → AllByRecursion (AreTwo x) ys → AllOf generation_of (generation_of x) ys
    → has (sample_numbers ys) (sample_number x) ≡ false
differs x [] two of = refl
differs x (y ∷ ys) two of =
    let head = int_eq-other (sample_number y) (sample_number x) (apart (number-decides x y two.0 (sym of.0))) in
    let later = differs x ys two.1 of.1 in
    λ j. head j || later j
  where
    below : (a b : ℤ) → a <ℤ b → b ≢ a
    below a b h e = omega (arith, ints)

    above : (a b : ℤ) → b <ℤ a → b ≢ a
    above a b h e = omega (arith, ints)

    apart : IsLess x y ⊎ IsLess y x → sample_number y ≢ sample_number x
    apart (inl h) = below (sample_number x) (sample_number y) h.1
    apart (inr h) = above (sample_number x) (sample_number y) h.1

pub of-other : (g h : ℕ) (xs : List Arrived) → g ≡ h → AllOf generation_of g xs → AllOf generation_of h xs
of-other g h [] e of = tt
of-other g h (x ∷ xs) e of = (of.0 ∙ e, of-other g h xs e of.1)

pub distinct : (g : ℕ) (xs : List Arrived) → AllOf generation_of g xs → AreInOrder xs → AreDistinct (sample_numbers xs)
distinct g [] of order = tt
distinct g (x ∷ xs) of order =
    (differs x xs order.0 (of-other g (generation_of x) xs (sym of.0) of.1), distinct g xs of.1 order.1)
