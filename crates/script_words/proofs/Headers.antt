-- The bytes of a header.
use Rattle.std.proofs.Common.{◌≡◌, ◌∙◌, ◌==◌, ◌&&◌, ℕ, Bool, true, false, List, [], Option, Some, None, length, refl, ap, arith, nat_le, if◌then◌else◌}
use Rattle.std.proofs.lemmas.Bool.Decides.{nat_tests}
use Rattle.std.proofs.lemmas.Option.{same_Some}
use Rattle.script_spec.specs.Words.{hex_bytes, header, is_between, is_dash, where_true}
use Rattle.script_words.proofs.HexBytes.{Within}

abbrev IsHeader : List ℕ → Bool
IsHeader bytes = is_between 1 128 (length bytes)

undashed : (word : List ℕ) (o : Option (List ℕ)) → is_dash word ≡ false → hex_bytes word ≡ o
    → header.read word ≡ where_true IsHeader o
undashed word o other is =
    ap (λ (b : Bool). if b then Some [] else where_true IsHeader (hex_bytes word)) other ∙ ap (where_true IsHeader) is

too_many : (o : Option (List ℕ)) → where_true Within o ≡ None → where_true IsHeader o ≡ None
too_many None e = refl
too_many (Some bytes) e = go (nat_le 1 (length bytes)) (nat_le (length bytes) 128) e
  where
    go : (a b : Bool) → (if b then Some bytes else None) ≡ None → (if a && b then Some bytes else None) ≡ None
    go true b e = e
    go false b e = refl

pub header_none : (word : List ℕ) → is_dash word ≡ false → where_true Within (hex_bytes word) ≡ None
    → header.read word ≡ None
header_none word other e = undashed word (hex_bytes word) other refl ∙ too_many (hex_bytes word) e

fit : (o : Option (List ℕ)) (items : List ℕ) → where_true Within o ≡ Some items
    → where_true IsHeader o ≡ (if nat_le 1 (length items) then Some items else None)
fit None items e = absurd cc
fit (Some bytes) items e = go (nat_le (length bytes) 128) refl e
  where
    both : (a b : Bool) → b ≡ true → (if a && b then Some bytes else None) ≡ (if a then Some bytes else None)
    both true b e = ap (λ (x : Bool). if x then Some bytes else None) e
    both false b e = refl

    go : (b : Bool) → nat_le (length bytes) 128 ≡ b → (if b then Some bytes else None) ≡ Some items
        → (if nat_le 1 (length bytes) && nat_le (length bytes) 128 then Some bytes else None)
        ≡ (if nat_le 1 (length items) then Some items else None)
    go true is e =
        both (nat_le 1 (length bytes)) (nat_le (length bytes) 128) is
        ∙ ap (λ (l : List ℕ). if nat_le 1 (length l) then Some l else None) (same_Some _ _ e)
    go false is e = absurd cc

pub header_empty : (word items : List ℕ) → is_dash word ≡ false → where_true Within (hex_bytes word) ≡ Some items
    → (length items == 0) ≡ true → header.read word ≡ None
header_empty word items other e empty =
    let none : nat_le 1 (length items) ≡ false = grind (arith, nat_tests) in
    undashed word (hex_bytes word) other refl ∙ fit (hex_bytes word) items e
    ∙ ap (λ (b : Bool). if b then Some items else None) none

pub header_some : (word items : List ℕ) → is_dash word ≡ false → where_true Within (hex_bytes word) ≡ Some items
    → (length items == 0) ≡ false → header.read word ≡ Some items
header_some word items other e some =
    let any : nat_le 1 (length items) ≡ true = grind (arith, nat_tests) in
    undashed word (hex_bytes word) other refl ∙ fit (hex_bytes word) items e
    ∙ ap (λ (b : Bool). if b then Some items else None) any
