-- The pieces that the words after a command's name are made of, and which of them are lawful.
use Rattle.std.specs.Prelude.{◌≡◌, ◌≤◌, ℕ, ◌==◌, ◌&&◌, Bool, true, false, not, is_some, Option, Some, None, List, [], ◌∷◌, ◌++◌, IsTrue, Contains, ◌+◌, if◌then◌else◌, nat_lt, codes}
use Rattle.std.specs.List.{list_all, list_any, flat_map}
use Rattle.std.specs.Str.{bytes_eq}
use Rattle.command_words.specs.Rules.{Text, Rule, form_named, has_option, has_flag, is_required}

-- `--name=TEXT`, `--name` `TEXT`, and `--name` alone
pub data Piece : Type 0 where
  joined : (name text : Text) → Piece
  apart : (name text : Text) → Piece
  alone : (name : Text) → Piece

-- the words of a piece; a hyphen is 45, and `=` is 61
abbrev pub words_of : Piece → List Text
words_of (joined name text) = (45 ∷ 45 ∷ (name ++ 61 ∷ text)) ∷ []
words_of (apart name text) = (45 ∷ 45 ∷ name) ∷ text ∷ []
words_of (alone name) = (45 ∷ 45 ∷ name) ∷ []

-- the pieces, one after the other, spell these words
abbrev pub spelling : List Piece → List Text
spelling pieces = flat_map words_of pieces

abbrev pub Spell : List Piece → List Text → Type 0
Spell pieces words = spelling pieces ≡ words

-- a text has bytes, and a hyphen isn't the first of them
abbrev pub is_text : Text → Bool
is_text [] = false
is_text (first ∷ more) = not (first == 45)

-- the piece is an option of the command with a text, or a flag of it
abbrev pub is_piece_of : List Rule → Piece → Bool
is_piece_of rules (joined name text) = has_option rules name && is_text text
is_piece_of rules (apart name text) = has_option rules name && is_text text
is_piece_of rules (alone name) = has_flag rules name

abbrev pub name_in : Piece → Text
name_in (joined name text) = name
name_in (apart name text) = name
name_in (alone name) = name

-- how often a name stands among the pieces
abbrev pub count_of : Text → List Piece → ℕ
count_of name [] = 0
count_of name (piece ∷ pieces) = (if bytes_eq (name_in piece) name then 1 else 0) + count_of name pieces

-- the text of a piece, and of the first piece of a name
abbrev pub text_in : Piece → Option Text
text_in (joined name text) = Some text
text_in (apart name text) = Some text
text_in (alone name) = None

abbrev pub text_of : Text → List Piece → Option Text
text_of name [] = None
text_of name (piece ∷ pieces) = if bytes_eq (name_in piece) name then text_in piece else text_of name pieces

-- a flag as a text: `true` where it stands, else `false`
abbrev pub flag_text : Text → List Piece → Text
flag_text name pieces = if nat_lt 0 (count_of name pieces) then codes "true" else codes "false"

-- the pieces are those of the command, each name stands at most once, and each required option is there
pub record AreLawful (rules : List Rule) (pieces : List Piece) : Type 0 where
  pub known : IsTrue (list_all (is_piece_of rules) pieces)
  pub once : (name : Text) → count_of name pieces ≤ 1
  pub required : (rule : Rule) → Contains rules rule → IsTrue (is_required rule.form) → 1 ≤ count_of rule.name pieces

-- a name has bytes, and no `=` is among them
abbrev pub is_name : Text → Bool
is_name [] = false
is_name (first ∷ more) = not (list_any (λ b. b == 61) (first ∷ more))

-- rules that words can be read by: each has a name, and no two have the same
abbrev pub are_rules : List Rule → Bool
are_rules [] = true
are_rules (rule ∷ rules) = (is_name rule.name && not (is_some (form_named rules rule.name))) && are_rules rules
