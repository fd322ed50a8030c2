-- Lists of which one element is exchanged, and the sources of their elements.
use Rattle.std.proofs.Common.{◌≡◌, ◌≢◌, ℕ, zero, suc, ◌+◌, ◌<◌, inl, inr, List, [], ◌∷◌, ◌++◌, length, map, set, take, min, get_or, take_all, take-suc-set, refl, sym, ap, subst, ◌∙◌, arith}
use Rattle.std.specs.Prelude.{slice_get}
use Rattle.std.specs.List.{AllByRecursion}
use Rattle.std.proofs.lemmas.Bool.{cases_lt}
use Rattle.std.proofs.lemmas.Option.{slice_get-get_or}
use Rattle.std.specs.declared.option.Option.{Option}
use Rattle.std.specs.declared.option.Option.TheVariants.{Some, None}
use Rattle.data_format.specs.declared.source.SourceId.{SourceId}
use Rattle.agent_spec.specs.Boots.{IsAmong}
use Rattle.agent_setups.specs.Ids.{AreDistinct}

abbrev or_else : {X : Type 0} → Option X → X → X
or_else None d = d
or_else (Some x) d = x

pub some-eq : {X : Type 0} (x y : X) → Some x ≡ Some y → x ≡ y
some-eq {X} x y e = ap (λ (o : Option X). or_else o x) e

pub none-some : {X : Type 0} {A : Type 0} (x : X) → None ≡ Some x → A
none-some x e = absurd cc

module _ {X : Type 0} where
  pub each-get : (P : X → Type 0) (xs : List X) (i : ℕ) (x : X) → AllByRecursion P xs → slice_get xs i ≡ Some x → P x
  each-get P [] i x h e = none-some x e
  each-get P (z ∷ more) zero x h e = subst P (some-eq z x e) h.0
  each-get P (z ∷ more) (suc i) x h e = each-get P more i x h.1 e

  pub each-map : (P Q : X → Type 0) (xs : List X) → ((x : X) → P x → Q x) → AllByRecursion P xs → AllByRecursion Q xs
  each-map P Q [] f h = tt
  each-map P Q (x ∷ more) f h = (f x h.0, each-map P Q more f h.1)

  others : (key : X → SourceId) (P Q : X → Type 0) (xs : List X) (id : SourceId)
      → AllByRecursion (λ (y : SourceId). id ≢ y) (map key xs) → AllByRecursion P xs
      → ((z : X) → key z ≢ id → P z → Q z) → AllByRecursion Q xs
  others key P Q [] id apart h f = tt
  others key P Q (x ∷ more) id apart h f =
      (f x (λ e. apart.0 (sym e)) h.0, others key P Q more id apart.1 h.1 f)

  apart-get : (key : X → SourceId) (xs : List X) (i : ℕ) (x : X) (id : SourceId)
      → AllByRecursion (λ (y : SourceId). id ≢ y) (map key xs) → slice_get xs i ≡ Some x → id ≢ key x
  apart-get key [] i x id apart e = none-some x e
  apart-get key (z ∷ more) zero x id apart e = λ same. apart.0 (same ∙ ap key (sym (some-eq z x e)))
  apart-get key (z ∷ more) (suc i) x id apart e = apart-get key more i x id apart.1 e

  -- another element in place of one; what holds of the others goes on
  pub each-set : (key : X → SourceId) (P Q : X → Type 0) (xs : List X) (i : ℕ) (x y : X)
      → AreDistinct (map key xs) → AllByRecursion P xs → slice_get xs i ≡ Some x
      → ((z : X) → key z ≢ key x → P z → Q z) → Q y → AllByRecursion Q (set xs i y)
  each-set key P Q [] i x y apart h e f q = none-some x e
  each-set key P Q (z ∷ more) zero x y apart h e f q =
      let same : key z ≡ key x = ap key (some-eq z x e) in
      (q, others key P Q more (key z) apart.0 h.1 (λ w d. f w (λ g. d (g ∙ sym same))))
  each-set key P Q (z ∷ more) (suc i) x y apart h e f q =
      (f z (apart-get key more i x (key z) apart.0 e) h.0, each-set key P Q more i x y apart.1 h.1 e f q)

  -- it has the same value as the one whose place it takes
  pub map-set : {Y : Type 0} (g : X → Y) (xs : List X) (i : ℕ) (x y : X) → slice_get xs i ≡ Some x → g y ≡ g x
      → map g (set xs i y) ≡ map g xs
  map-set g [] i x y e same = refl
  map-set g (z ∷ more) zero x y e same = ap (λ v. v ∷ map g more) (same ∙ ap g (sym (some-eq z x e)))
  map-set g (z ∷ more) (suc i) x y e same = ap (λ vs. g z ∷ vs) (map-set g more i x y e same)

  pub among-get : {Y : Type 0} (g : X → Y) (xs : List X) (i : ℕ) (x : X) → slice_get xs i ≡ Some x
      → IsAmong (g x) (map g xs)
  among-get g [] i x e = none-some x e
  among-get g (z ∷ more) zero x e = inl (ap g (sym (some-eq z x e)))
  among-get g (z ∷ more) (suc i) x e = inr (among-get g more i x e)

  pub each-last : (P : X → Type 0) (xs : List X) (y : X) → AllByRecursion P xs → P y → AllByRecursion P (xs ++ y ∷ [])
  each-last P [] y h q = (q, tt)
  each-last P (x ∷ more) y h q = (h.0, each-last P more y h.1 q)

  pub map-last : {Y : Type 0} (g : X → Y) (xs : List X) (y : X) → map g (xs ++ y ∷ []) ≡ map g xs ++ g y ∷ []
  map-last g [] y = refl
  map-last g (x ∷ more) y = ap (λ vs. g x ∷ vs) (map-last g more y)

  -- the element at a place, by what a program read there
  pub read-get : (xs : List X) (i : ℕ) (x : X) → i < length xs → x ≡ get_or xs i x → slice_get xs i ≡ Some x
  read-get xs i x within e = slice_get-get_or xs i x within ∙ ap (λ (y : X). Some y) (sym e)

  -- so far and one more
  pub each-take : (P : X → Type 0) (xs : List X) (i : ℕ) (y : X) → i < length xs → AllByRecursion P (take i xs) → P y
      → AllByRecursion P (take (i + 1) (set xs i y))
  each-take P xs i y within h q =
      let next : i + 1 ≡ suc i = omega arith in
      let parts : take (i + 1) (set xs i y) ≡ take i xs ++ y ∷ [] =
      ap (λ (k : ℕ). take k (set xs i y)) next ∙ take-suc-set xs i y within in
      subst (λ (l : List X). AllByRecursion P l) (sym parts) (each-last P (take i xs) y h q)

-- as many at the front as there are, up to 128
pub take-shown : (xs : List ℕ) (n : ℕ) → n ≡ min (length xs) 128 → take n xs ≡ take 128 xs
take-shown xs n e = elim (cases_lt (length xs) 128) [
  | inl fewer ↦
      take_all n xs (omega (arith, e, fewer)) ∙ sym (take_all 128 xs (omega (arith, fewer)))
  | inr more ↦
      let all : n ≡ 128 = omega (arith, e, more) in
      ap (λ (k : ℕ). take k xs) all
]
