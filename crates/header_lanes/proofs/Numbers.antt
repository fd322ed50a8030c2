-- Tests of numbers of 16 bits by their two bytes.
use Rattle.std.proofs.Common.{◌≡◌, ℕ, ◌+◌, ◌*◌, ◌<◌, List, [], ◌∷◌, refl, ap, ap₂, ◌∙◌, map, arith, ◌&&◌, ◌||◌, bit_and, bit_or, nat_eq, nat_lt, nat_le}
use Rattle.std.proofs.lemmas.Bool.Decides.{nat_tests}
use lib.Lanes.{zip2, Each1}
use Rattle.header_lanes.specs.Ethernet.{is_tag}
use Rattle.header_lanes.specs.Slots.{flag}
use Rattle.header_lanes.proofs.Flags.{and_flag, or_flag}

is_number : (h l a b : ℕ) → l < 256 → b < 256 → (nat_eq h a && nat_eq l b) ≡ nat_eq (h * 256 + l) (a * 256 + b)
is_number h l a b low part = grind (arith, nat_tests)

is_at_most : (h l a b : ℕ) → l < 256 → b < 256 → (nat_lt h a || (nat_eq h a && nat_le l b)) ≡ nat_le (h * 256 + l) (a * 256 + b)
is_at_most h l a b low part = grind (arith, nat_tests)

-- what is computed lane by lane from two vectors, of which the second one has bytes
zip_maps : (f g : ℕ → ℕ → ℕ) (p q : ℕ → ℕ) → ((h l : ℕ) → l < 256 → f (p h) (q l) ≡ g h l) → (hs ls : List ℕ) → Each1 (λ a. a < 256) ls
    → zip2 f (map p hs) (map q ls) ≡ zip2 g hs ls
zip_maps f g p q same [] ls fit = refl
zip_maps f g p q same (h ∷ hs) [] fit = refl
zip_maps f g p q same (h ∷ hs) (l ∷ ls) fit = ap₂ (λ x xs. x ∷ xs) (same h l fit.0) (zip_maps f g p q same hs ls fit.1)

zip_zips : (f g r t : ℕ → ℕ → ℕ) → ((h l : ℕ) → l < 256 → f (r h l) (t h l) ≡ g h l) → (hs ls : List ℕ) → Each1 (λ a. a < 256) ls
    → zip2 f (zip2 r hs ls) (zip2 t hs ls) ≡ zip2 g hs ls
zip_zips f g r t same [] ls fit = refl
zip_zips f g r t same (h ∷ hs) [] fit = refl
zip_zips f g r t same (h ∷ hs) (l ∷ ls) fit = ap₂ (λ x xs. x ∷ xs) (same h l fit.0) (zip_zips f g r t same hs ls fit.1)

zip_left : (f g t : ℕ → ℕ → ℕ) (p : ℕ → ℕ) → ((h l : ℕ) → l < 256 → f (p h) (t h l) ≡ g h l) → (hs ls : List ℕ) → Each1 (λ a. a < 256) ls
    → zip2 f (map p hs) (zip2 t hs ls) ≡ zip2 g hs ls
zip_left f g t p same [] ls fit = refl
zip_left f g t p same (h ∷ hs) [] fit = refl
zip_left f g t p same (h ∷ hs) (l ∷ ls) fit = ap₂ (λ x xs. x ∷ xs) (same h l fit.0) (zip_left f g t p same hs ls fit.1)

pub numbers_equal : (a b : ℕ) (hs ls : List ℕ) → b < 256 → Each1 (λ x. x < 256) ls
    → zip2 bit_and (map (λ x. flag (nat_eq x a)) hs) (map (λ x. flag (nat_eq x b)) ls) ≡ zip2 (λ h l. flag (nat_eq (h * 256 + l) (a * 256 + b))) hs ls
numbers_equal a b hs ls part fit =
    zip_maps bit_and _ _ _ (λ h l low. and_flag (nat_eq h a) (nat_eq l b) ∙ ap flag (is_number h l a b low part)) hs ls fit

pub numbers_at_most : (a b : ℕ) (hs ls : List ℕ) → b < 256 → Each1 (λ x. x < 256) ls
    → zip2 bit_or (map (λ x. flag (nat_lt x a)) hs) (zip2 bit_and (map (λ x. flag (nat_eq x a)) hs) (map (λ x. flag (nat_le x b)) ls))
    ≡ zip2 (λ h l. flag (nat_le (h * 256 + l) (a * 256 + b))) hs ls
numbers_at_most a b hs ls part fit =
    ap (zip2 bit_or (map (λ x. flag (nat_lt x a)) hs))
    (zip_maps bit_and (λ h l. flag (nat_eq h a && nat_le l b)) _ _ (λ h l low. and_flag (nat_eq h a) (nat_le l b)) hs ls fit)
    ∙ zip_left bit_or _ _ _ (λ h l low. or_flag (nat_lt h a) (nat_eq h a && nat_le l b) ∙ ap flag (is_at_most h l a b low part)) hs ls fit

pub tags_are : (hs ls : List ℕ) → Each1 (λ a. a < 256) ls
    → zip2 bit_or (zip2 bit_and (map (λ x. flag (nat_eq x 0x81)) hs) (map (λ x. flag (nat_eq x 0)) ls))
    (zip2 bit_and (map (λ x. flag (nat_eq x 0x88)) hs) (map (λ x. flag (nat_eq x 0xa8)) ls))
    ≡ zip2 (λ h l. flag (is_tag (h * 256 + l))) hs ls
tags_are hs ls fit =
    ap₂ (zip2 bit_or) (numbers_equal 0x81 0 hs ls (omega arith) fit) (numbers_equal 0x88 0xa8 hs ls (omega arith) fit)
    ∙ zip_zips bit_or _ _ _ (λ h l low. or_flag (nat_eq (h * 256 + l) 0x8100) (nat_eq (h * 256 + l) 0x88a8)) hs ls fit
