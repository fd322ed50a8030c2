-- Decimal numbers.
use Rattle.std.proofs.Common.{◌≡◌, ◌∙◌, ◌<◌, ◌≤◌, ◌+◌, ◌^◌, ◌==◌, ◌&&◌, ◌||◌, ℕ, Bool, true, false, not, List, [], ◌∷◌, length, get_or, Some, None, refl, ap, ap₂, sym, arith, decimal, if◌then◌else◌, nat_lt, nat_le}
use Rattle.std.specs.List.{list_all, list_any}
use Rattle.std.specs.Char.{is_ascii_digit}
use Rattle.std.specs.Str.{all_ascii_digits}
use Rattle.std.specs.Str.Parse.{digits_value}
use Rattle.std.proofs.lemmas.Bool.Decides.{nat_tests}
use Rattle.std.proofs.lemmas.Fmt.{decimal-digits_value, decimal_digit, decimal_is_IsNumeral, digits_decimal, first_decimal}
use Rattle.std.proofs.lemmas.Str.Parse.{numerals_by_value, tells_all_ascii_digits}
use Rattle.script_spec.specs.Words.{Text, has_leading_zero, is_numeral, is_between, numeral_in, number, where_true}
use Rattle.script_laws.proofs.Texts.{both_true, chosen, bound, Lacks}
use Rattle.script_laws.proofs.Parting.{IsForm, FormLacks}

pub all_digits : (ds : List ℕ) → list_all is_ascii_digit ds ≡ all_ascii_digits ds
all_digits [] = refl
all_digits (d ∷ ds) = ap (λ b. is_ascii_digit d && b) (all_digits ds)

not_true : (b : Bool) → not b ≡ true → b ≡ false
not_true true e = absurd cc
not_true false e = refl

-- a text that begins with a zero has one digit, where no zero leads
plain : (ds : List ℕ) → has_leading_zero ds ≡ false → get_or ds 0 0 ≡ 48 → 0 < length ds → length ds ≡ 1
plain ds unled zero some =
    let first : (get_or ds 0 0 == 48) ≡ true = grind (arith, nat_tests) in
    go (nat_lt 1 (length ds)) refl (get_or ds 0 0 == 48) first unled
  where
    go : (a : Bool) → nat_lt 1 (length ds) ≡ a → (b : Bool) → b ≡ true → (a && b) ≡ false → length ds ≡ 1
    go true e b t none = let bad : true ≡ false = sym t ∙ none in absurd cc
    go false e b t none = grind (arith, nat_tests)

numeral_is : (ds : List ℕ) → is_numeral ds ≡ true → digits_value 10 ds < 2 ^ 64 → ds ≡ decimal (digits_value 10 ds)
numeral_is ds is small =
    let parts = both_true (nat_lt 0 (length ds)) _ is in
    let rest = both_true (not (has_leading_zero ds)) _ parts.1 in
    let some : 0 < length ds = let e : nat_lt 0 (length ds) ≡ true = parts.0 in grind (arith, nat_tests) in
    sym (decimal-digits_value (numerals_by_value _ tells_all_ascii_digits) ds (sym (all_digits ds) ∙ rest.1) some
    (λ zero. plain ds (not_true (has_leading_zero ds) rest.0) zero some) small)

pub between : (least most n : ℕ) → is_between least most n ≡ true → n ≤ most
between least most n e =
    let parts = both_true (nat_le least n) (nat_le n most) e in
    let fits : nat_le n most ≡ true = parts.1 in
    grind (arith, nat_tests)

pub and_false : (b : Bool) → (b && false) ≡ false
and_false true = refl
and_false false = refl

no_leading_zero : (n : ℕ) → n < 2 ^ 64 → has_leading_zero (decimal n) ≡ false
no_leading_zero n small = go (n == 0) refl
  where
    go : (b : Bool) → (n == 0) ≡ b → has_leading_zero (decimal n) ≡ false
    go true e =
        let zero : n ≡ 0 = grind (arith, nat_tests) in
        ap has_leading_zero (decimal_digit n (omega arith) ∙ ap (λ m. (48 + m) ∷ []) zero)
    go false e =
        let some : 0 < n = grind (arith, nat_tests) in
        let first : 48 < get_or (decimal n) 0 0 = first_decimal n some small in
        let test : (get_or (decimal n) 0 0 == 48) ≡ false = grind (arith, nat_tests) in
        ap (λ b. nat_lt 1 (length (decimal n)) && b) test ∙ and_false (nat_lt 1 (length (decimal n)))

pub decimal_digits : (n : ℕ) → n < 2 ^ 64 → list_all is_ascii_digit (decimal n) ≡ true
decimal_digits n small = all_digits (decimal n) ∙ digits_decimal (numerals_by_value _ tells_all_ascii_digits) n small

decimal_numeral : (n : ℕ) → n < 2 ^ 64 → is_numeral (decimal n) ≡ true
decimal_numeral n small =
    let read = decimal_is_IsNumeral n small in
    let some : nat_lt 0 (length (decimal n)) ≡ true = let lt = read.0.0 in grind (arith, nat_tests) in
    ap₂ (λ a b. a && b) some (ap₂ (λ a b. not a && b) (no_leading_zero n small) (decimal_digits n small))

pub number_form : (least most : ℕ) → most < 2 ^ 64 → IsForm (number least most)
number_form least most fits = record { read = read; written = written }
  where
    same : (x y : ℕ) → Some x ≡ Some y → x ≡ y
    same x y e = cc

    read : (word : Text) (n : ℕ) → (number least most).read word ≡ Some n
        → (is_between least most n ≡ true) × (word ≡ decimal n)
    read word n e =
        let b = bound (λ (m : ℕ). if is_between least most m then Some m else None) (numeral_in word) n e in
        let P : Type 0 = (is_between least most n ≡ true) × (word ≡ decimal n) in
        chosen (is_between least most b.a) (Some b.a) None n P b.to
        (λ inside value.
        let is : b.a ≡ n = same b.a n value in
        chosen (is_numeral word) (Some (digits_value 10 word)) None b.a P b.is
        (λ numeral read_as.
        let v : digits_value 10 word ≡ n = same (digits_value 10 word) b.a read_as ∙ is in
        let ok : is_between least most n ≡ true = ap (is_between least most) (sym is) ∙ inside in
        let small : digits_value 10 word < 2 ^ 64 = let le = between least most n ok in omega arith in
        (ok, numeral_is word numeral small ∙ ap decimal v))
        (λ other bad. absurd cc))
        (λ outside bad. absurd cc)

    written : (n : ℕ) → is_between least most n ≡ true → (number least most).read (decimal n) ≡ Some n
    written n may =
        let small : n < 2 ^ 64 = let le = between least most n may in omega arith in
        let value : digits_value 10 (decimal n) ≡ n = (decimal_is_IsNumeral n small).1 in
        ap (λ (b : Bool). where_true (is_between least most) (if b then Some (digits_value 10 (decimal n)) else None)) (decimal_numeral n small)
        ∙ ap (λ (m : ℕ). where_true (is_between least most) (Some m)) value
        ∙ ap (λ (b : Bool). if b then Some n else None) may

-- digits have no separator
lacks_digits : (c : ℕ) (ds : List ℕ) → is_ascii_digit c ≡ false → list_all is_ascii_digit ds ≡ true → Lacks c ds
lacks_digits c [] other digits = refl
lacks_digits c (d ∷ ds) other digits =
    let parts = both_true (is_ascii_digit d) _ digits in
    let apart : (d == c) ≡ false = differ (d == c) refl parts.0 in
    ap (λ (b : Bool). b || list_any (λ (x : ℕ). x == c) ds) apart ∙ lacks_digits c ds other parts.1
  where
    differ : (b : Bool) → (d == c) ≡ b → is_ascii_digit d ≡ true → b ≡ false
    differ true e digit =
        let is : d ≡ c = grind (arith, nat_tests) in
        let bad : true ≡ false = sym digit ∙ ap is_ascii_digit is ∙ other in
        absurd cc
    differ false e digit = refl

pub number_lacks : (c least most : ℕ) → most < 2 ^ 64 → is_ascii_digit c ≡ false → FormLacks c (number least most)
number_lacks c least most fits other n may =
    let small : n < 2 ^ 64 = let le = between least most n may in omega arith in
    lacks_digits c (decimal n) other (decimal_digits n small)
