-- What `parse` reads of a numeral.
use Rattle.std.proofs.Common.{◌≡◌, ◌∙◌, ◌<◌, ◌≤◌, ℕ, Bool, true, false, not, ◌&&◌, ◌==◌, ◌+◌, ◌^◌, List, [], ◌∷◌, Some, None, Result, Ok, Err, length, get_or, refl, ap, ap₂, sym, subst, decimal, if◌then◌else◌, arith, nat_lt}
use Rattle.std.specs.List.{list_all}
use Rattle.std.specs.Char.{is_ascii_digit}
use Rattle.std.specs.Str.{all_ascii_digits}
use Rattle.std.specs.Str.Parse.{ParsesUnsigned, digits_value}
use Rattle.std.specs.Result.{OkIff, result_ok}
use Rattle.std.proofs.lemmas.Bool.Decides.{nat_tests}
use Rattle.std.proofs.lemmas.Fmt.{decimal-digits_value, decimal_digit, decimal_is_IsNumeral, digits_decimal, first_decimal}
use Rattle.std.proofs.lemmas.Option.{same_Some}
use Rattle.std.proofs.lemmas.Str.Parse.{numerals_by_value, tells_all_ascii_digits, parse_digits}
use Rattle.command_words.specs.Numbers.{has_leading_zero, is_numeral, number_of}

all_digits : (ds : List ℕ) → list_all is_ascii_digit ds ≡ all_ascii_digits ds
all_digits [] = refl
all_digits (d ∷ ds) = ap (λ b. is_ascii_digit d && b) (all_digits ds)

both : (a b : Bool) → (a && b) ≡ true → (a ≡ true) × (b ≡ true)
both true b e = (refl, e)
both false b e = cc

read_number : {E : Type 0} (bits : ℕ) (ds : List ℕ) (r : Result ℕ E) → is_numeral ds ≡ true
    → OkIff r ((0 < length ds) × (digits_value 10 ds < 2 ^ bits)) (digits_value 10 ds)
    → result_ok r ≡ number_of bits ds
read_number bits ds (Ok n) is read =
    let small : nat_lt (digits_value 10 ds) (2 ^ bits) ≡ true = let lt = read.0.1 in grind (arith, nat_tests) in
    sym (ap₂ (λ a b. if a && b then Some (digits_value 10 ds) else None) is small ∙ ap Some (sym read.1))
read_number bits ds (Err e) is read =
    let some : 0 < length ds = let e : nat_lt 0 (length ds) ≡ true = (both (nat_lt 0 (length ds)) _ is).0 in grind (arith, nat_tests) in
    let large : nat_lt (digits_value 10 ds) (2 ^ bits) ≡ false = go (nat_lt (digits_value 10 ds) (2 ^ bits)) refl some in
    sym (ap₂ (λ a b. if a && b then Some (digits_value 10 ds) else None) is large)
  where
    go : (b : Bool) → nat_lt (digits_value 10 ds) (2 ^ bits) ≡ b → 0 < length ds → b ≡ false
    go true e some = let lt : digits_value 10 ds < 2 ^ bits = grind (arith, nat_tests) in absurd (read (some, lt))
    go false e some = refl

-- what `parse` reads of a numeral is its number of so many bits
pub numeral_parsed : {E : Type 0} (bits : ℕ) (ds : List ℕ) (r : Result ℕ E) → true ≡ is_numeral ds
    → ParsesUnsigned bits 10 ds r → result_ok r ≡ number_of bits ds
numeral_parsed bits ds r is parses =
    let digits = sym (all_digits ds) ∙ (both (not (has_leading_zero ds)) _ (both (nat_lt 0 (length ds)) _ (sym is)).1).1 in
    read_number bits ds r (sym is) (parse_digits (numerals_by_value _ tells_all_ascii_digits) bits ds r parses digits)

-- ---- numbers of up to 64 bits are decimal

plain : (ds : List ℕ) → has_leading_zero ds ≡ false → get_or ds 0 0 ≡ 48 → 0 < length ds → length ds ≡ 1
plain ds unled zero some = go (nat_lt 1 (length ds)) refl (get_or ds 0 0 == 48) refl unled
  where
    go : (a : Bool) → nat_lt 1 (length ds) ≡ a → (b : Bool) → (get_or ds 0 0 == 48) ≡ b → (a && b) ≡ false
        → length ds ≡ 1
    go true e true f none = cc
    go true e false f none = absurd (grind (arith, nat_tests))
    go false e b f none = grind (arith, nat_tests)

not_true : (b : Bool) → not b ≡ true → b ≡ false
not_true true e = cc
not_true false e = refl

numeral_decimal : (ds : List ℕ) → is_numeral ds ≡ true → digits_value 10 ds < 2 ^ 64
    → ds ≡ decimal (digits_value 10 ds)
numeral_decimal ds is small =
    let parts = both (nat_lt 0 (length ds)) _ is in
    let rest = both (not (has_leading_zero ds)) _ parts.1 in
    let some : 0 < length ds = let e : nat_lt 0 (length ds) ≡ true = parts.0 in grind (arith, nat_tests) in
    let unled = not_true (has_leading_zero ds) rest.0 in
    sym (decimal-digits_value (numerals_by_value _ tells_all_ascii_digits) ds (sym (all_digits ds) ∙ rest.1) some
    (λ zero. plain ds unled zero some) small)

pub number_decimal : (bits : ℕ) (ds : List ℕ) (n : ℕ) → 2 ^ bits ≤ 2 ^ 64 → number_of bits ds ≡ Some n
    → (n < 2 ^ bits) × (ds ≡ decimal n)
number_decimal bits ds n narrow e = go (is_numeral ds) refl (nat_lt (digits_value 10 ds) (2 ^ bits)) refl narrow e
  where
    go : (a : Bool) → is_numeral ds ≡ a → (b : Bool) → nat_lt (digits_value 10 ds) (2 ^ bits) ≡ b → 2 ^ bits ≤ 2 ^ 64
        → (if a && b then Some (digits_value 10 ds) else None) ≡ Some n
        → (n < 2 ^ bits) × (ds ≡ decimal n)
    go true is true fits narrow e =
        let small : digits_value 10 ds < 2 ^ bits = grind (arith, nat_tests) in
        let same : digits_value 10 ds ≡ n = same_Some _ _ e in
        subst (λ m. (m < 2 ^ bits) × (ds ≡ decimal m)) same (small, numeral_decimal ds is (omega arith))
    go true is false fits narrow e = cc
    go false is b fits narrow e = cc

and_false : (b : Bool) → (b && false) ≡ false
and_false true = refl
and_false false = refl

no_leading_zero : (n : ℕ) → n < 2 ^ 64 → has_leading_zero (decimal n) ≡ false
no_leading_zero n small = go (n == 0) refl
  where
    go : (b : Bool) → (n == 0) ≡ b → has_leading_zero (decimal n) ≡ false
    go true e =
        let zero : n ≡ 0 = grind (arith, nat_tests) in
        ap has_leading_zero (decimal_digit n (omega arith) ∙ ap (λ m. (48 + m) ∷ []) zero)
    go false e =
        let some : 0 < n = grind (arith, nat_tests) in
        let first : 48 < get_or (decimal n) 0 0 = first_decimal n some (omega arith) in
        let test : (get_or (decimal n) 0 0 == 48) ≡ false = grind (arith, nat_tests) in
        ap (λ b. nat_lt 1 (length (decimal n)) && b) test ∙ and_false (nat_lt 1 (length (decimal n)))

decimal_numeral : (n : ℕ) → n < 2 ^ 64 → is_numeral (decimal n) ≡ true
decimal_numeral n small =
    let read = decimal_is_IsNumeral n (omega arith) in
    let some : nat_lt 0 (length (decimal n)) ≡ true = let lt = read.0.0 in grind (arith, nat_tests) in
    let digits : list_all is_ascii_digit (decimal n) ≡ true =
    all_digits (decimal n) ∙ digits_decimal (numerals_by_value _ tells_all_ascii_digits) n (omega arith) in
    ap₂ (λ a b. a && b) some (ap₂ (λ a b. not a && b) (no_leading_zero n small) digits)

pub decimal_number : (bits : ℕ) (ds : List ℕ) (n : ℕ) → 2 ^ bits ≤ 2 ^ 64 → n < 2 ^ bits → ds ≡ decimal n
    → number_of bits ds ≡ Some n
decimal_number bits ds n narrow small is =
    let value : digits_value 10 (decimal n) ≡ n = (decimal_is_IsNumeral n (omega arith)).1 in
    let fits : nat_lt (digits_value 10 (decimal n)) (2 ^ bits) ≡ true = grind (arith, nat_tests) in
    ap (number_of bits) is
    ∙ ap₂ (λ a b. if a && b then Some (digits_value 10 (decimal n)) else None) (decimal_numeral n (omega arith)) fits
    ∙ ap Some value
