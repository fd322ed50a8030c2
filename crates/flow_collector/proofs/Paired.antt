-- Ledgers beside the keys of their sources, and where a key stands among those that are listed.
use Rattle.std.proofs.Common.{◌≡◌, ℕ, zero, suc, ◌<◌, nat_le, Bool, true, false, ◌||◌, Option, Some, None, List, [], ◌∷◌, ◌++◌, length, refl, sym, ap, subst, ◌∙◌, true≢false, arith}
use Rattle.std.specs.Prelude.{slice_get, slice_set}
use Rattle.std.proofs.lemmas.Bool.{leb-true, leb-false}
use Rattle.books_spec.specs.Listing.{among, listed, first_arrivals, AreDistinct}
use Rattle.books_spec.proofs.Listings.{IsSame, symmetric, listed-known, listed-new, listed-full, listed-just_now}
use Rattle.if_ledger.specs.Ledgers.{IfState}
use Rattle.flow_collector.specs.Interfaces.{ArePaired}
use Rattle.flow_collector.proofs.Lists.{or-more}

is_none : {X : Type 0} → Option X → Bool
is_none None = true
is_none (Some x) = false

pub nothing-at : {X : Type 0} (A : Type 0) (place : ℕ) (x : X) → slice_get [] place ≡ Some x → A
unfolding is_none
nothing-at A place x at = absurd (true≢false (ap is_none at))

pub at-within : {X : Type 0} (xs : List X) (place : ℕ) (x : X) → slice_get xs place ≡ Some x → place < length xs
at-within [] place x at = nothing-at (place < 0) place x at
at-within (y ∷ more) zero x at = omega arith
at-within (y ∷ more) (suc n) x at = let later = at-within more n x at in omega (arith, later)

pub one-at : {X : Type 0} (xs : List X) (place : ℕ) (x y : X) → slice_get xs place ≡ Some x → slice_get xs place ≡ Some y → x ≡ y
one-at xs place x y a b = let both : Some x ≡ Some y = sym a ∙ b in cc

pub paired-length : {S : Type 0} (P : S → IfState → Type 0) (keys : List S) (ledgers : List IfState)
    → ArePaired P keys ledgers → length keys ≡ length ledgers
paired-length P [] [] all = refl
paired-length P [] (s ∷ ledgers) all = absurd all
paired-length P (k ∷ keys) [] all = absurd all
paired-length P (k ∷ keys) (s ∷ ledgers) all = ap suc (paired-length P keys ledgers all.1)

-- the ledger at the place of a key
pub paired-at : {S : Type 0} (P : S → IfState → Type 0) (keys : List S) (ledgers : List IfState) (place : ℕ) (k : S)
    → slice_get keys place ≡ Some k → ArePaired P keys ledgers → (s : IfState) × (slice_get ledgers place ≡ Some s) × P k s
paired-at P [] ledgers place k at all = nothing-at _ place k at
paired-at P (x ∷ keys) [] place k at all = absurd all
paired-at {S} P (x ∷ keys) (s ∷ ledgers) zero k at all =
    let same : x ≡ k = cc in
    let R : S → Type 0 = λ y. P y s in
    (s, refl, subst R same all.0)
paired-at P (x ∷ keys) (s ∷ ledgers) (suc n) k at all = paired-at P keys ledgers n k at all.1

pub paired-push : {S : Type 0} (P : S → IfState → Type 0) (keys : List S) (ledgers : List IfState) (k : S) (s : IfState)
    → ArePaired P keys ledgers → P k s → ArePaired P (keys ++ k ∷ []) (ledgers ++ s ∷ [])
paired-push P [] [] k s all new = (new, tt)
paired-push P [] (t ∷ ledgers) k s all new = absurd all
paired-push P (x ∷ keys) [] k s all new = absurd all
paired-push P (x ∷ keys) (t ∷ ledgers) k s all new = (all.0, paired-push P keys ledgers k s all.1 new)

-- where a key is listed once it arrived: where it was, or behind all others
pub data IsPlacedIn {S : Type 0} (same : S → S → Bool) (limit : ℕ) (arrived : List S) (place : ℕ) (key : S) : Type 0 where
  there : listed same limit (key ∷ arrived) ≡ listed same limit arrived → slice_get (listed same limit arrived) place ≡ Some key
      → IsPlacedIn same limit arrived place key
  last : listed same limit (key ∷ arrived) ≡ listed same limit arrived ++ key ∷ [] → place ≡ length (listed same limit arrived)
      → among same (first_arrivals same arrived) key ≡ false → IsPlacedIn same limit arrived place key

module _ {S : Type 0} (same : S → S → Bool) (laws : IsSame same) where
  -- what is so at each key goes on
  pub paired-map : (P Q : S → IfState → Type 0) (keys : List S) (ledgers : List IfState)
      → ((t : S) (s : IfState) → among same keys t ≡ true → P t s → Q t s) → ArePaired P keys ledgers → ArePaired Q keys ledgers
  paired-map P Q [] [] step all = tt
  paired-map P Q [] (s ∷ ledgers) step all = absurd all
  paired-map P Q (k ∷ keys) [] step all = absurd all
  paired-map P Q (k ∷ keys) (s ∷ ledgers) step all = (
    step k s (ap (λ b. b || among same keys k) (laws.self k)) all.0,
    paired-map P Q keys ledgers
        (λ t u is_there was. step t u (or-more (same t k) (among same keys t) is_there) was) all.1,
  )

  -- a key that isn't there differs from each that is
  pub apart : (keys : List S) (k t : S) → among same keys k ≡ false → among same keys t ≡ true → same k t ≡ false
  apart keys k t none is_there = go (same k t) refl
    where
      go : (b : Bool) → same k t ≡ b → same k t ≡ false
      go true e = absurd (true≢false (sym is_there ∙ ap (among same keys) (sym (laws.to k t e)) ∙ none))
      go false e = e

  pub paired-others : (P Q : S → IfState → Type 0) (keys : List S) (ledgers : List IfState) (k : S)
      → among same keys k ≡ false → ((t : S) (s : IfState) → same k t ≡ false → P t s → Q t s)
      → ArePaired P keys ledgers → ArePaired Q keys ledgers
  paired-others P Q keys ledgers k none step all =
      paired-map P Q keys ledgers (λ t s is_there was. step t s (apart keys k t none is_there) was) all

  pub among-at : (keys : List S) (place : ℕ) (k : S) → slice_get keys place ≡ Some k → among same keys k ≡ true
  among-at [] place k at = nothing-at _ place k at
  among-at (x ∷ more) zero k at =
      let here : x ≡ k = cc in
      ap (λ b. b || among same more k) (ap (same k) here ∙ laws.self k)
  among-at (x ∷ more) (suc n) k at = or-more (same k x) (among same more k) (among-at more n k at)

  -- another ledger at the place of a key
  pub paired-set : (P Q : S → IfState → Type 0) (keys : List S) (ledgers : List IfState) (place : ℕ) (k : S) (w : IfState)
      → slice_get keys place ≡ Some k → AreDistinct same keys
      → ((t : S) (s : IfState) → same k t ≡ false → P t s → Q t s) → Q k w → ArePaired P keys ledgers
      → ArePaired Q keys (slice_set ledgers place w)
  paired-set P Q [] ledgers place k w at distinct step new all = nothing-at _ place k at
  paired-set P Q (x ∷ keys) [] place k w at distinct step new all = absurd all
  paired-set P Q (x ∷ keys) (s ∷ ledgers) zero k w at distinct step new all =
      let here : x ≡ k = cc in
      let R : S → Type 0 = λ y. Q y w in (
        subst R (sym here) new,
        paired-others P Q keys ledgers k (ap (among same keys) (sym here) ∙ distinct.0) step all.1,
      )
  paired-set P Q (x ∷ keys) (s ∷ ledgers) (suc n) k w at distinct step new all =
      let other : same k x ≡ false = symmetric same laws x k (apart keys x k distinct.0 (among-at keys n k at)) in
      (step x s other all.0, paired-set P Q keys ledgers n k w at distinct.1 step new all.1)

  -- ---- where a key is listed

  last-place : (keys : List S) (place : ℕ) (key : S) → among same keys key ≡ false
      → slice_get (keys ++ key ∷ []) place ≡ Some key → place ≡ length keys
  last-place [] zero key none at = refl
  last-place [] (suc n) key none at = nothing-at _ n key at
  last-place (x ∷ more) zero key none at =
      let here : x ≡ key = cc in
      absurd (true≢false (sym (ap (λ b. b || among same more key) (ap (same key) here ∙ laws.self key)) ∙ none))
  last-place (x ∷ more) (suc n) key none at = ap suc (last-place more n key (later (same key x) (among same more key) none) at)
    where
      later : (a b : Bool) → (a || b) ≡ false → b ≡ false
      later true b h = absurd (true≢false h)
      later false b h = h

  pub place-in : (limit : ℕ) (arrived : List S) (key : S) (place : ℕ)
      → slice_get (listed same limit (key ∷ arrived)) place ≡ Some key
      → IsPlacedIn same limit arrived place key
  place-in limit arrived key place at = go (among same (listed same limit arrived) key) refl
    where
      absent : among same (listed same limit arrived) key ≡ false → (b : Bool) → nat_le limit (length (listed same limit arrived)) ≡ b
          → IsPlacedIn same limit arrived place key
      absent none true e =
          let full = listed-full same limit arrived key (leb-true limit (length (listed same limit arrived)) e) in
          let old : slice_get (listed same limit arrived) place ≡ Some key = ap (λ ks. slice_get ks place) (sym full) ∙ at in
          absurd (true≢false (sym (among-at (listed same limit arrived) place key old) ∙ none))
      absent none false e =
          let new = listed-new same limit arrived key none (leb-false limit (length (listed same limit arrived)) e) in
          last new (last-place (listed same limit arrived) place key none (ap (λ ks. slice_get ks place) (sym new) ∙ at))
          (listed-just_now same limit arrived key none (among-at (listed same limit (key ∷ arrived)) place key at))

      go : (b : Bool) → among same (listed same limit arrived) key ≡ b
          → IsPlacedIn same limit arrived place key
      go true e =
          let known = listed-known same limit arrived key e in
          there known (ap (λ ks. slice_get ks place) (sym known) ∙ at)
      go false e = absent e (nat_le limit (length (listed same limit arrived))) refl
