-- What one word of a script may say, how it is read and how it is written.
use Rattle.std.specs.Prelude.{ℕ, ◌+◌, ◌-◌, ◌*◌, ◌/◌, ◌%◌, ◌==◌, ◌&&◌, Bool, true, false, not, List, [], ◌∷◌, length, slice_index, nat_lt, nat_le, Option, Some, None, if◌then◌else◌, option_map, option_and_then, codes, decimal, bytes_eq, flat_map}
use Rattle.std.specs.Char.{is_ascii_digit}
use Rattle.std.specs.Fmt.{digit_glyph}
use Rattle.std.specs.List.{list_all}
use Rattle.std.specs.Str.Parse.{digits_value}

-- a word, or a line, as its bytes
abbrev pub Text : Type 0
Text = List ℕ

-- a form of words: what a word of this form says, which of that it may say, and the one word that says it
pub record WordForm (A : Type 0) : Type 0 where
  pub read : Text → Option A
  pub may : A → Bool
  pub write : A → Text

-- what is read, where it passes the test
abbrev pub where_true : {A : Type 0} → (A → Bool) → Option A → Option A
where_true may read = option_and_then (λ a. if may a then Some a else None) read

-- ---- numbers

abbrev pub is_between : ℕ → ℕ → ℕ → Bool
is_between least most n = nat_le least n && nat_le n most

-- a zero before further digits; the digit zero is 48
abbrev pub has_leading_zero : Text → Bool
has_leading_zero text = nat_lt 1 (length text) && slice_index text 0 == 48

-- one decimal digit or more, without a leading zero
abbrev pub is_numeral : Text → Bool
is_numeral text = nat_lt 0 (length text) && (not (has_leading_zero text) && list_all is_ascii_digit text)

abbrev pub numeral_in : Text → Option ℕ
numeral_in text = if is_numeral text then Some (digits_value 10 text) else None

-- a decimal number in this range
abbrev pub number : ℕ → ℕ → WordForm ℕ
number least most = record {
  read = λ text. where_true (is_between least most) (numeral_in text);
  may = is_between least most;
  write = decimal;
}

-- a number of 32 bits, and one of 64
abbrev pub number32 : WordForm ℕ
number32 = number 0 4294967295

abbrev pub number64 : WordForm ℕ
number64 = number 0 18446744073709551615

-- ---- bytes

-- a lower-case hexadecimal digit: 48 is `0`, and 97 `a`
abbrev pub hex_value : ℕ → Option ℕ
hex_value digit =
    if is_between 48 57 digit then Some (digit - 48)
    else if is_between 97 102 digit then Some (digit - 87)
    else None

-- two digits, the higher one first
abbrev pub hex_byte : ℕ → ℕ → Option ℕ
hex_byte high low = option_and_then (λ x. option_map (λ y. 16 * x + y) (hex_value low)) (hex_value high)

abbrev pub hex_bytes : Text → Option (List ℕ)
hex_bytes [] = Some []
hex_bytes (digit ∷ []) = None
hex_bytes (high ∷ low ∷ more) =
    option_and_then (λ byte. option_map (λ others. byte ∷ others) (hex_bytes more)) (hex_byte high low)

abbrev pub hex_digits : ℕ → Text
hex_digits byte = digit_glyph false (byte / 16) ∷ digit_glyph false (byte % 16) ∷ []

abbrev pub is_byte : ℕ → Bool
is_byte b = nat_lt b 256

-- a dash, 45, alone
abbrev pub is_dash : Text → Bool
is_dash text = bytes_eq text (45 ∷ [])

-- up to 128 bytes, or a dash for none
abbrev pub header_bytes : List ℕ → Text
header_bytes [] = 45 ∷ []
header_bytes (byte ∷ more) = flat_map hex_digits (byte ∷ more)

abbrev pub header : WordForm (List ℕ)
header = record {
  read = λ text. if is_dash text then Some [] else where_true (λ bytes. is_between 1 128 (length bytes)) (hex_bytes text);
  may = λ bytes. nat_le (length bytes) 128 && list_all is_byte bytes;
  write = header_bytes;
}

-- a VLAN (IEEE 802.1Q), or a dash for none
abbrev pub may_be_vlan : Option ℕ → Bool
may_be_vlan None = true
may_be_vlan (Some id) = is_between 0 4095 id

abbrev pub vlan_text : Option ℕ → Text
vlan_text None = 45 ∷ []
vlan_text (Some id) = decimal id

abbrev pub vlan : WordForm (Option ℕ)
vlan = record {
  read = λ text. if is_dash text then Some None else option_map (λ id. Some id) ((number 0 4095).read text);
  may = may_be_vlan;
  write = vlan_text;
}

-- ---- kinds

-- whether it is a source of flow samples, and not one of counters samples
abbrev pub kind_text : Bool → Text
kind_text true = codes "flow"
kind_text false = codes "counter"

abbrev pub kind : WordForm Bool
kind = record {
  read = λ text. if bytes_eq text (codes "flow") then Some true
      else if bytes_eq text (codes "counter") then Some false
      else None;
  may = λ flow. true;
  write = kind_text;
}
