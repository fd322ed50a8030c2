-- The numbers that options take.
use Rattle.std.specs.Prelude.{ℕ, ◌==◌, ◌&&◌, ◌^◌, Bool, not, length, slice_index, nat_lt, Option, Some, None, if◌then◌else◌}
use Rattle.std.specs.List.{list_all}
use Rattle.std.specs.Char.{is_ascii_digit}
use Rattle.std.specs.Str.Parse.{digits_value}
use Rattle.command_words.specs.Rules.{Text}

-- a zero before further digits; the digit zero is 48
abbrev pub has_leading_zero : Text → Bool
has_leading_zero text = nat_lt 1 (length text) && slice_index text 0 == 48

-- one decimal digit or more, without a leading zero
abbrev pub is_numeral : Text → Bool
is_numeral text = nat_lt 0 (length text) && (not (has_leading_zero text) && list_all is_ascii_digit text)

-- the number of so many bits that the text writes
abbrev pub number_of : ℕ → Text → Option ℕ
number_of bits text =
    if is_numeral text && nat_lt (digits_value 10 text) (2 ^ bits) then Some (digits_value 10 text) else None

abbrev pub number_in : Text → Option ℕ
number_in text = number_of 32 text

abbrev pub wide_number_in : Text → Option ℕ
wide_number_in text = number_of 64 text
