-- Vectors whose lanes are computed one by one from what they stand for.
use Rattle.std.proofs.Common.{◌≡◌, ℕ, zero, suc, List, [], ◌∷◌, refl, ap, ap₂, ◌∙◌, map, arith, length, replicate, Bool, true, false, cond, ◌&&◌, ◌||◌, bit_and, bit_or}
use Rattle.std.proofs.lemmas.Simd.{zip2_of_maps, splat_is_map, map-map}
use lib.Lanes.{zip2, sel_l, top}
use Rattle.header_lanes.specs.Slots.{flag}

pub same_map : {S T : Type 0} (f g : S → T) (ss : List S) → ((s : S) → f s ≡ g s) → map f ss ≡ map g ss
same_map f g [] same = refl
same_map f g (s ∷ ss) same = ap₂ (λ x xs. x ∷ xs) (same s) (same_map f g ss same)

pub and_flag : (a b : Bool) → bit_and (flag a) (flag b) ≡ flag (a && b)
and_flag true true = refl
and_flag true false = refl
and_flag false true = refl
and_flag false false = refl

pub or_flag : (a b : Bool) → bit_or (flag a) (flag b) ≡ flag (a || b)
or_flag true true = refl
or_flag true false = refl
or_flag false true = refl
or_flag false false = refl

top_flag : (a : Bool) → top 7 (flag a) ≡ a
top_flag true = refl
top_flag false = refl

-- a selection between all ones and zeros
pub flags_of : (test : ℕ → Bool) (xs : List ℕ) (n : ℕ) → length xs ≡ n
    → sel_l {A = ℕ} (map test xs) (replicate n 255) (replicate n 0) ≡ map (λ x. flag (test x)) xs
flags_of test [] n long = refl
flags_of test (x ∷ xs) zero long = absurd (omega (arith, long))
flags_of test (x ∷ xs) (suc n) long = ap (λ l. flag (test x) ∷ l) (flags_of test xs n (omega (arith, long)))

module _ {S : Type 0} (ss : List S) where
  -- both of two tests
  pub both : (p q : S → Bool) {xs ys : List ℕ} → xs ≡ map (λ s. flag (p s)) ss → ys ≡ map (λ s. flag (q s)) ss
      → zip2 bit_and xs ys ≡ map (λ s. flag (p s && q s)) ss
  both p q first second =
      zip2_of_maps bit_and (λ s. flag (p s)) (λ s. flag (q s)) ss first second ∙ same_map _ _ ss (λ s. and_flag (p s) (q s))

  either_map : (p : S → Bool) (f g : S → ℕ) (ts : List S)
      → sel_l (map (top 7) (map (λ s. flag (p s)) ts)) (map f ts) (map g ts) ≡ map (λ s. cond (p s) (f s) (g s)) ts
  either_map p f g [] = refl
  either_map p f g (t ∷ ts) = ap₂ (λ x xs. x ∷ xs) (ap (λ b. cond b (f t) (g t)) (top_flag (p t))) (either_map p f g ts)

  -- a selection by the flags of a test
  pub chosen : (p : S → Bool) (f g : S → ℕ) {ms xs ys : List ℕ} → ms ≡ map (λ s. flag (p s)) ss → xs ≡ map f ss → ys ≡ map g ss
      → sel_l (map (top 7) ms) xs ys ≡ map (λ s. cond (p s) (f s) (g s)) ss
  chosen p f g {ms} {xs} {ys} marks first second =
      ap (λ m. sel_l (map (top 7) m) xs ys) marks
      ∙ ap (λ x. sel_l (map (top 7) (map (λ s. flag (p s)) ss)) x ys) first
      ∙ ap (λ y. sel_l (map (top 7) (map (λ s. flag (p s)) ss)) (map f ss) y) second
      ∙ either_map p f g ss

  -- what is computed from lanes that were computed
  pub computed : (g : ℕ → ℕ) (f : S → ℕ) {xs ys : List ℕ} → ys ≡ map g xs → xs ≡ map f ss → ys ≡ map (λ s. g (f s)) ss
  computed g f last first = last ∙ ap (map g) first ∙ map-map g f ss

  -- one byte in all lanes
  pub everywhere : (k : ℕ) → length ss ≡ 16 → replicate 16 k ≡ map (λ _. k) ss
  everywhere k long = splat_is_map ss 16 k long
