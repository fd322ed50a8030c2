-- What `parse` reads of a numeral.
use Rattle.std.proofs.Common.{◌≡◌, ◌∙◌, ◌<◌, ℕ, zero, suc, Bool, true, false, not, ◌&&◌, ◌^◌, List, [], ◌∷◌, Some, None, Result, Ok, Err, length, refl, ap, sym, if◌then◌else◌, arith, nat_lt, nat_le}
use Rattle.std.specs.Prelude.{IsUtf8, IsAscii}
use Rattle.std.specs.List.{list_all}
use Rattle.std.specs.Char.{is_ascii_digit}
use Rattle.std.specs.Str.{all_ascii_digits}
use Rattle.std.specs.Str.Parse.{ParsesUnsigned, digits_value}
use Rattle.std.specs.Result.{OkIff, result_ok}
use Rattle.std.proofs.lemmas.Bool.Decides.{nat_tests}
use Rattle.std.proofs.lemmas.Option.{same_Some}
use Rattle.std.proofs.lemmas.Str.{IsUtf8-from_ascii}
use Rattle.std.proofs.lemmas.Str.Parse.{numerals_by_value, tells_all_ascii_digits, parse_digits}
use Rattle.script_spec.specs.Words.{has_leading_zero, is_numeral, is_between, number, where_true}
use Rattle.script_words.specs.Taken.{value64}

both : (a b : Bool) → (a && b) ≡ true → (a ≡ true) × (b ≡ true)
both true b e = (refl, e)
both false b e = cc

digits_of : (ds : List ℕ) → is_numeral ds ≡ true → (0 < length ds) × (list_all is_ascii_digit ds ≡ true)
digits_of ds e =
    let parts = both (nat_lt 0 (length ds)) _ e in
    let some : nat_lt 0 (length ds) ≡ true = parts.0 in
    (grind (arith, nat_tests), (both (not (has_leading_zero ds)) _ parts.1).1)

all_digits : (ds : List ℕ) → list_all is_ascii_digit ds ≡ all_ascii_digits ds
all_digits [] = refl
all_digits (d ∷ ds) = ap (λ b. is_ascii_digit d && b) (all_digits ds)

small_digit : (d : ℕ) → is_ascii_digit d ≡ true → d < 128
small_digit d e =
    let parts = both (nat_le 48 d) (nat_le d 57) e in
    let most : nat_le d 57 ≡ true = parts.1 in
    grind (arith, nat_tests)

ascii : (ds : List ℕ) → list_all is_ascii_digit ds ≡ true → IsAscii ds
ascii [] e i = omega arith
ascii (d ∷ ds) e zero = small_digit d (both (is_ascii_digit d) _ e).0
ascii (d ∷ ds) e (suc i) = ascii ds (both (is_ascii_digit d) _ e).1 i

-- a numeral is a text
pub numeral_is_text : (ds : List ℕ) → is_numeral ds ≡ true → IsUtf8 ds
numeral_is_text ds e = IsUtf8-from_ascii ds (ascii ds (digits_of ds e).1)

read_value : {E : Type 0} (ds : List ℕ) (r : Result ℕ E) → 0 < length ds
    → OkIff r ((0 < length ds) × (digits_value 10 ds < 2 ^ 64)) (digits_value 10 ds)
    → result_ok r ≡ value64 ds
read_value ds (Ok n) some read =
    let small : nat_lt (digits_value 10 ds) (2 ^ 64) ≡ true = let lt = read.0.1 in grind (arith, nat_tests) in
    sym (ap (λ b. if b then Some (digits_value 10 ds) else None) small ∙ ap Some (sym read.1))
read_value ds (Err e) some read =
    sym (ap (λ b. if b then Some (digits_value 10 ds) else None) (go (nat_lt (digits_value 10 ds) (2 ^ 64)) refl))
  where
    go : (b : Bool) → nat_lt (digits_value 10 ds) (2 ^ 64) ≡ b → b ≡ false
    go true e = let lt : digits_value 10 ds < 2 ^ 64 = grind (arith, nat_tests) in absurd (read (some, lt))
    go false e = refl

-- what `parse` reads of it is its number of 64 bits
pub numeral_parsed : {E : Type 0} (ds : List ℕ) (r : Result ℕ E) → is_numeral ds ≡ true → ParsesUnsigned 64 10 ds r
    → result_ok r ≡ value64 ds
numeral_parsed ds r is parses =
    let parts = digits_of ds is in
    read_value ds r parts.0
    (parse_digits (numerals_by_value _ tells_all_ascii_digits) 64 ds r parses (sym (all_digits ds) ∙ parts.1))

-- ---- numbers in a range

pub no_number : (least most : ℕ) (ds : List ℕ) → is_numeral ds ≡ false → (number least most).read ds ≡ None
no_number least most ds is =
    ap (λ b. where_true (is_between least most) (if b then Some (digits_value 10 ds) else None)) is

pub number_is : (least most : ℕ) (ds : List ℕ) → is_numeral ds ≡ true
    → (number least most).read ds ≡ where_true (is_between least most) (Some (digits_value 10 ds))
number_is least most ds is =
    ap (λ b. where_true (is_between least most) (if b then Some (digits_value 10 ds) else None)) is

value_is : (ds : List ℕ) (n : ℕ) → value64 ds ≡ Some n → digits_value 10 ds ≡ n
value_is ds n e = go (nat_lt (digits_value 10 ds) (2 ^ 64)) e
  where
    go : (b : Bool) → (if b then Some (digits_value 10 ds) else None) ≡ Some n → digits_value 10 ds ≡ n
    go true e = same_Some _ _ e
    go false e = cc

pub number_of_value : (least most n : ℕ) (ds : List ℕ) → is_numeral ds ≡ true → value64 ds ≡ Some n
    → (number least most).read ds ≡ where_true (is_between least most) (Some n)
number_of_value least most n ds is e =
    number_is least most ds is ∙ ap (λ v. where_true (is_between least most) (Some v)) (value_is ds n e)

pub number_of_none : (least most : ℕ) (ds : List ℕ) → most < 2 ^ 64 → is_numeral ds ≡ true → value64 ds ≡ None
    → (number least most).read ds ≡ None
number_of_none least most ds fits is e = number_is least most ds is ∙ go (nat_lt (digits_value 10 ds) (2 ^ 64)) refl e
  where
    above : (a : Bool) → nat_le least (digits_value 10 ds) ≡ a → (b : Bool) → nat_le (digits_value 10 ds) most ≡ b
        → nat_lt (digits_value 10 ds) (2 ^ 64) ≡ false
        → (if a && b then Some (digits_value 10 ds) else None) ≡ None
    above true a true b large = absurd (grind (arith, nat_tests))
    above true a false b large = refl
    above false a b is large = refl

    go : (b : Bool) → nat_lt (digits_value 10 ds) (2 ^ 64) ≡ b
        → (if b then Some (digits_value 10 ds) else None) ≡ None
        → where_true (is_between least most) (Some (digits_value 10 ds)) ≡ None
    go true is e = cc
    go false is e = above _ refl _ refl is
