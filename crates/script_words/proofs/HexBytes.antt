-- Bytes in hexadecimal digits, two digits at a time.
use Rattle.std.proofs.Common.{◌≡◌, ◌∙◌, ◌<◌, ◌≤◌, ◌+◌, ℕ, suc, Bool, true, false, List, [], ◌∷◌, ◌++◌, Option, Some, None, length, get_or, drop, refl, ap, arith, append_assoc, drop-cons, length-append, if◌then◌else◌, nat_le, rules}
use Rattle.std.specs.Prelude.{option_map, option_and_then}
use Rattle.std.proofs.lemmas.Bool.Decides.{nat_tests}
use Rattle.std.proofs.lemmas.List.{drop_all}
use Rattle.script_spec.specs.Words.{hex_byte, hex_bytes, where_true}

abbrev pub Within : List ℕ → Bool
Within bytes = nat_le (length bytes) 128

abbrev pub behind : List ℕ → Option (List ℕ) → Option (List ℕ)
behind items o = option_map (λ (more : List ℕ). items ++ more) o

pub behind_nothing : (o : Option (List ℕ)) → o ≡ behind [] o
behind_nothing None = refl
behind_nothing (Some more) = refl

front : (word : List ℕ) (at : ℕ) → at < length word → (at + 1 ≡ length word → ⊥)
    → drop at word ≡ get_or word at 0 ∷ get_or word (at + 1) 0 ∷ drop (at + 2) word
front word at inside other =
    let next : at + 1 < length word = omega arith in
    let one : suc at ≡ at + 1 = omega arith in
    let two : suc (at + 1) ≡ at + 2 = omega arith in
    drop-cons word at 0 inside ∙ ap (λ k. get_or word at 0 ∷ drop k word) one
    ∙ ap (λ (l : List ℕ). get_or word at 0 ∷ l) (drop-cons word (at + 1) 0 next)
    ∙ ap (λ k. get_or word at 0 ∷ get_or word (at + 1) 0 ∷ drop k word) two

behind_more : (items : List ℕ) (byte : ℕ) (o : Option (List ℕ))
    → behind items (option_map (λ (more : List ℕ). byte ∷ more) o) ≡ behind (items ++ byte ∷ []) o
behind_more items byte None = refl
behind_more items byte (Some more) = ap Some (rw append_assoc refl)

module _ (word items : List ℕ) (at : ℕ) (read : hex_bytes word ≡ behind items (hex_bytes (drop at word))) where
  step : at < length word → (at + 1 ≡ length word → ⊥) → (o : Option ℕ)
      → hex_byte (get_or word at 0) (get_or word (at + 1) 0) ≡ o
      → hex_bytes word
      ≡ behind items (option_and_then (λ byte. option_map (λ (more : List ℕ). byte ∷ more) (hex_bytes (drop (at + 2) word))) o)
  step inside other o is =
      read ∙ ap (λ d. behind items (hex_bytes d)) (front word at inside other)
      ∙ ap (λ (p : Option ℕ). behind items (option_and_then (λ byte. option_map (λ (more : List ℕ). byte ∷ more) (hex_bytes (drop (at + 2) word))) p)) is

  pub hex_step : (byte : ℕ) → at < length word → (at + 1 ≡ length word → ⊥)
      → hex_byte (get_or word at 0) (get_or word (at + 1) 0) ≡ Some byte
      → hex_bytes word ≡ behind (items ++ byte ∷ []) (hex_bytes (drop (at + 2) word))
  hex_step byte inside other is = step inside other (Some byte) is ∙ behind_more items byte (hex_bytes (drop (at + 2) word))

  -- a digit that is none
  pub hex_stops : at < length word → (at + 1 ≡ length word → ⊥)
      → hex_byte (get_or word at 0) (get_or word (at + 1) 0) ≡ None → hex_bytes word ≡ None
  hex_stops inside other is = step inside other None is

  -- a digit alone
  pub hex_odd : at < length word → at + 1 ≡ length word → hex_bytes word ≡ None
  hex_odd inside last =
      let one : length word ≤ suc at = omega arith in
      read ∙ ap (λ d. behind items (hex_bytes d)) (drop-cons word at 0 inside ∙ ap (λ (l : List ℕ). get_or word at 0 ∷ l) (drop_all (suc at) word one))

  -- the end
  pub hex_end : length word ≤ at → hex_bytes word ≡ Some (items ++ [])
  hex_end end = read ∙ ap (λ d. behind items (hex_bytes d)) (drop_all at word end)

long : (items : List ℕ) (byte : ℕ) (o : Option (List ℕ)) → length items ≡ 128
    → where_true Within (behind (items ++ byte ∷ []) o) ≡ None
long items byte None full = refl
long items byte (Some more) full =
    ap (λ b. if b then Some ((items ++ byte ∷ []) ++ more) else None)
    (let size : 128 < length ((items ++ byte ∷ []) ++ more) =
    omega (arith, length-append (items ++ byte ∷ []) more, length-append items (byte ∷ [])) in above _ size)
  where
    above : (n : ℕ) → 128 < n → nat_le n 128 ≡ false
    above n large = grind (arith, nat_tests)

-- more bytes than there is room for
pub hex_long : (word items : List ℕ) (at byte : ℕ) → hex_bytes word ≡ behind items (hex_bytes (drop at word))
    → at < length word → (at + 1 ≡ length word → ⊥)
    → hex_byte (get_or word at 0) (get_or word (at + 1) 0) ≡ Some byte → length items ≡ 128
    → where_true Within (hex_bytes word) ≡ None
hex_long word items at byte read inside other is full =
    ap (where_true Within) (hex_step word items at read byte inside other is)
    ∙ long items byte (hex_bytes (drop (at + 2) word)) full

pub hex_none : (word : List ℕ) → hex_bytes word ≡ None → where_true Within (hex_bytes word) ≡ None
hex_none word is = ap (where_true Within) is

pub hex_some : (word items : List ℕ) → hex_bytes word ≡ Some (items ++ []) → length items ≤ 128
    → where_true Within (hex_bytes word) ≡ Some items
hex_some word items is few =
    let same : items ++ [] ≡ items = search rules in
    ap (where_true Within) (is ∙ ap Some same) ∙ ap (λ b. if b then Some items else None) (below (length items) few)
  where
    below : (n : ℕ) → n ≤ 128 → nat_le n 128 ≡ true
    below n small = grind (arith, nat_tests)
