-- The reading of words from the front on: at each word an option may wait for its text.
use Rattle.std.specs.Prelude.{ℕ, ◌==◌, ◌&&◌, Bool, List, [], ◌∷◌, Option, Some, None, nat_le, if◌then◌else◌, option_map, option_and_then}
use Rattle.std.specs.List.{list_all, list_any, before_first, after_first}
use Rattle.std.specs.Option.{option_map_or}
use Rattle.command_words.specs.declared.arguments.Form.{Form}
use Rattle.command_words.specs.declared.arguments.Form.TheVariants.{Flag, Optional, Required}
use Rattle.command_words.specs.Rules.{Text, Rule, form_named, has_option}
use Rattle.command_words.specs.Pieces.{Piece, joined, apart, alone, is_text, count_of}

-- what a word is: a piece or the end of one, the name of an option that waits for its text, or nothing lawful
pub data Meaning : Type 0 where
  whole : Piece → Meaning
  opens : (name : Text) → Meaning
  nothing : Meaning

abbrev pub after_hyphen : Text → Option Text
after_hyphen [] = None
after_hyphen (first ∷ rest) = if first == 45 then Some rest else None

abbrev pub after_hyphens : Text → Option Text
after_hyphens word = option_and_then after_hyphen (after_hyphen word)

-- `--name`, by what the command has under that name
abbrev pub named_meaning : Option Form → Text → Meaning
named_meaning None name = nothing
named_meaning (Some Flag) name = whole (alone name)
named_meaning (Some Optional) name = opens name
named_meaning (Some Required) name = opens name

abbrev pub joined_meaning : List Rule → Text → Text → Meaning
joined_meaning rules name text = if has_option rules name && is_text text then whole (joined name text) else nothing

-- what follows the hyphens, with its first `=` if it has one
abbrev pub long_meaning : List Rule → Text → Meaning
long_meaning rules rest =
    if list_any (λ b. b == 61) rest
    then joined_meaning rules (before_first (λ b. b == 61) rest) (after_first (λ b. b == 61) rest)
    else named_meaning (form_named rules rest) rest

abbrev pub opening_meaning : List Rule → Text → Meaning
opening_meaning rules word = option_map_or (long_meaning rules) (after_hyphens word) nothing

-- a word where no option waits, and where the named option does
abbrev pub meaning_of : List Rule → Option Text → Text → Meaning
meaning_of rules None word = opening_meaning rules word
meaning_of rules (Some name) word = if is_text word then whole (apart name word) else nothing

abbrev pub after_meaning : Meaning → (Option Text → Option (List Piece)) → Option (List Piece)
after_meaning (whole piece) more = option_map (λ pieces. piece ∷ pieces) (more None)
after_meaning (opens name) more = more (Some name)
after_meaning nothing more = None

-- at the end no option waits
abbrev pub pieces_at_end : Option Text → Option (List Piece)
pieces_at_end None = Some []
pieces_at_end (Some name) = None

-- the pieces of the words, where the named option waits for its text
abbrev pub pieces_from : List Rule → Option Text → List Text → Option (List Piece)
pieces_from rules waiting [] = pieces_at_end waiting
pieces_from rules waiting (word ∷ words) =
    after_meaning (meaning_of rules waiting word) (λ next. pieces_from rules next words)

-- at most once, and a required option once
abbrev pub is_count : Form → ℕ → Bool
is_count Flag count = nat_le count 1
is_count Optional count = nat_le count 1
is_count Required count = count == 1

abbrev pub is_counted : List Piece → Rule → Bool
is_counted pieces rule = is_count rule.form (count_of rule.name pieces)

abbrev pub counted : List Rule → List Piece → Option (List Piece)
counted rules pieces = if list_all (is_counted pieces) rules then Some pieces else None

-- the pieces of words that are lawful under the rules
abbrev pub lawful_pieces : List Rule → List Text → Option (List Piece)
lawful_pieces rules words = option_and_then (counted rules) (pieces_from rules None words)
