-- Lawful words are taken by clap, and its matches are the rows of their pieces and of the defaults.
use Rattle.std.proofs.Common.{◌≡◌, ◌∙◌, ◌≤◌, ◌+◌, ℕ, Bool, true, false, not, ◌&&◌, ◌||◌, if◌then◌else◌, List, [], ◌∷◌, Option, Some, None, map, refl, ap, ap₂, sym, subst, fold, arith, codes, nat_lt}
use Rattle.std.specs.Prelude.{is_some, option_and_then, slice_get}
use Rattle.std.specs.Option.{option_map_or}
use Rattle.std.specs.List.{list_all}
use Rattle.std.specs.Str.{bytes_eq}
use Rattle.std.proofs.lemmas.Bool.Decides.{nat_tests}
use Rattle.std.proofs.lemmas.Slice.Eq.{bytes_eq-Decides}
use Rattle.clap.specs.Words.{App, Rule as ClapRule, HasMatchesOf, first_value, found_of, matches_of, one_text, rows_of, takes}
use Rattle.clap.specs.declared.parser.matches.ArgMatches.{ArgMatches}
use Rattle.clap.proofs.WalkLemmas.{first_value-rows, one_text-rows}
use Rattle.clap.specs.Facts.{explicit_source}
use Rattle.clap.specs.Walk.{Row, Walk, finished, first_of, nothing_held, one_of, row_text, walked, walk_from, with_default}
use Rattle.clap.specs.Takes.{built_takes, default_passes, entered_passes, is_given, is_valid, settle_passes}
use Rattle.clap.specs.Simple.{entered, is_simple}
use Rattle.command_words.specs.declared.arguments.Form.{Form}
use Rattle.command_words.specs.declared.arguments.Form.TheVariants.{Flag, Optional, Required}
use Rattle.command_words.specs.Rules.{Text, Rule, form_named, has_option, has_flag, has_text, is_flag, is_required}
use Rattle.command_words.specs.Pieces.{Piece, joined, apart, alone, spelling, name_in, count_of, flag_text, text_in, text_of, is_piece_of, are_rules, AreLawful}
use Rattle.command_words.specs.Reading.{is_count, is_counted, lawful_pieces}
use Rattle.command_words.specs.Matching.{app_with}
use Rattle.command_words.proofs.Spelled.{both, has_form}
use Rattle.command_words.proofs.LawfulReading.{all_counted, read_lawful, count_at_least}
use Rattle.command_words.proofs.ClapRules.{built_rule, built_rules, each_rule, simple_app}
use Rattle.command_words.proofs.ClapRows.{row_named, piece_row, defaults_keep, absent_flag, absent_option, missing_row, given_row}
use Rattle.command_words.proofs.ClapWalk.{shape_with, IsTaken, pieces_taken}

-- the rows at the end
abbrev pub rows_of_pieces : List Rule → List Piece → List Row
rows_of_pieces rules pieces = fold with_default (map piece_row pieces) (map built_rule rules)

-- ---- what is required is there

explicit_row : (piece : Piece) → explicit_source (piece_row piece).source ≡ true
explicit_row piece = refl

is_there : (rules : List Rule) (pieces : List Piece) (name : Text) → 1 ≤ count_of name pieces
    → is_given name (rows_of_pieces rules pieces) ≡ true
is_there rules pieces name some =
    let row = given_row name pieces some in
    ap (λ o. option_map_or (λ (r : Row). explicit_source r.source) o false) (defaults_keep name (piece_row row.0) rules (map piece_row pieces) row.1)

needed_there : (form : Form) (n : ℕ) (there : Bool) → is_count form n ≡ true → (1 ≤ n → there ≡ true)
    → (not (is_required form) || there) ≡ true
needed_there Flag n there counts some = refl
needed_there Optional n there counts some = refl
needed_there Required n there counts some = some (count_at_least Required n counts refl)

required_there : (rules : List Rule) (pieces : List Piece) (some : List Rule) → list_all (is_counted pieces) some ≡ true
    → list_all (λ a. not a.required || is_given a.id (rows_of_pieces rules pieces)) (map built_rule some) ≡ true
required_there rules pieces [] counts = refl
required_there rules pieces (rule ∷ more) counts =
    let parts = both (is_counted pieces rule) _ counts in
    ap₂ (λ a b. a && b) (needed_there rule.form (count_of rule.name pieces) _ parts.0 (is_there rules pieces rule.name))
    (required_there rules pieces more parts.1)

valid_rows : (command : Text) (rules : List Rule) (pieces : List Piece) → list_all (is_counted pieces) rules ≡ true
    → is_valid (shape_with command (map built_rule rules)) (rows_of_pieces rules pieces) false ≡ true
valid_rows command rules pieces counts =
    ap₂ (λ a b. a && b) (each_rule (λ a. a.is_free) built_rule (λ _. refl) rules) (required_there rules pieces rules counts)

defaults_pass : (rules : List Rule) → list_all default_passes (map built_rule rules) ≡ true
defaults_pass rules = each_rule default_passes built_rule passes rules
  where
    passes_as : (name : Text) (form : Form) → default_passes (built_rule (record { name = name; form = form })) ≡ true
    passes_as name Flag = refl
    passes_as name Optional = refl
    passes_as name Required = refl

    passes : (rule : Rule) → default_passes (built_rule rule) ≡ true
    passes rule = passes_as rule.name rule.form

-- ---- the command on the words

abbrev built_with : Text → List ClapRule → App
built_with command rules = record { top = shape_with command rules; subs = [] }

module _ (command : Text) (rules : List Rule) (pieces : List Piece) (fine : are_rules rules ≡ true) (lawful : AreLawful rules pieces) where
  abbrev c : List ClapRule
  c = map built_rule rules

  abbrev counts : list_all (is_counted pieces) rules ≡ true
  counts = all_counted rules pieces lawful.once lawful.required

  taken : IsTaken command c nothing_held (spelling pieces) pieces
  taken =
      pieces_taken command rules fine pieces lawful.known nothing_held refl (λ name. let few = lawful.once name in omega arith)

  built_takes_pieces : built_takes (built_with command c) nothing_held (spelling pieces) ≡ true
  built_takes_pieces =
      let A : App = built_with command c in
      ap₂ (λ (w : Walk) p. entered_passes A w.stopped && (p && (settle_passes c false w.held && (list_all default_passes c && is_valid A.top (finished c w.held) (is_some (entered A w.stopped))))))
      taken.walks taken.passes
      ∙ ap₂ (λ a b. a && (b && is_valid A.top (finished c taken.end) false)) taken.settles (defaults_pass rules)
      ∙ ap (λ rows. is_valid A.top (fold with_default rows c) false) taken.rows
      ∙ valid_rows command rules pieces counts

  pub pieces_pass : takes (app_with command rules) (spelling pieces) ≡ true
  pieces_pass =
      ap₂ (λ b rs. b && built_takes (built_with command rs) nothing_held (spelling pieces)) (simple_app command rules) (built_rules command rules)
      ∙ built_takes_pieces

  pub pieces_match : matches_of (app_with command rules) (spelling pieces) ≡ rows_of_pieces rules pieces
  pieces_match =
      ap (λ rs. finished rs (fold (walked rs []) (walk_from nothing_held) (spelling pieces)).held) (built_rules command rules)
      ∙ ap (λ (w : Walk). finished c w.held) taken.walks ∙ ap (λ rows. fold with_default rows c) taken.rows

-- ---- flags

-- where a name stands, one of its pieces has the row
record HasRow (rules : List Rule) (name : Text) (found : Option Row) : Type 0 where
  pub piece : Piece
  pub row : found ≡ Some (piece_row piece)
  pub known : is_piece_of rules piece ≡ true
  pub named : name_in piece ≡ name

first_or_later : (rules : List Rule) (name : Text) (piece : Piece) (b : Bool) (n : ℕ) (found : Option Row)
    → bytes_eq (name_in piece) name ≡ b
    → is_piece_of rules piece ≡ true → (1 ≤ n → HasRow rules name found) → 1 ≤ (if b then 1 else 0) + n
    → HasRow rules name (if b then Some (piece_row piece) else found)
first_or_later rules name piece true n found is known later some = record {
  piece = piece;
  row = refl;
  known = known;
  named = (bytes_eq-Decides (name_in piece) name).0 is;
}
first_or_later rules name piece false n found is known later some = later (omega arith)

row_of_name : (rules : List Rule) (name : Text) (pieces : List Piece) → list_all (is_piece_of rules) pieces ≡ true
    → 1 ≤ count_of name pieces
    → HasRow rules name (row_named name (map piece_row pieces))
row_of_name rules name [] known some = absurd (omega arith)
row_of_name rules name (piece ∷ pieces) known some =
    let parts = both (is_piece_of rules piece) _ known in
    first_or_later rules name piece (bytes_eq (name_in piece) name) (count_of name pieces) (row_named name (map piece_row pieces)) refl parts.0
    (row_of_name rules name pieces parts.1) some

flag_or_option : (o : Option Form) → option_map_or is_flag o false ≡ true → option_map_or has_text o false ≡ true → ⊥
flag_or_option None a b = cc
flag_or_option (Some Flag) a b = cc
flag_or_option (Some Optional) a b = cc
flag_or_option (Some Required) a b = cc

-- a piece of a flag's name is the flag
flag_piece : (rules : List Rule) (name : Text) (piece : Piece) → has_flag rules name ≡ true
    → is_piece_of rules piece ≡ true → name_in piece ≡ name
    → row_text (piece_row piece) ≡ Some (codes "true")
flag_piece rules name (joined n text) flag known named =
    absurd (flag_or_option (form_named rules name) flag (subst (λ m. has_option rules m ≡ true) named (both (has_option rules n) _ known).0))
flag_piece rules name (apart n text) flag known named =
    absurd (flag_or_option (form_named rules name) flag (subst (λ m. has_option rules m ≡ true) named (both (has_option rules n) _ known).0))
flag_piece rules name (alone n) flag known named = refl

is_flag_form : (form : Form) → is_flag form ≡ true → form ≡ Flag
is_flag_form Flag e = refl
is_flag_form Optional e = cc
is_flag_form Required e = cc

-- a flag's text in the matches says whether it stands among the pieces
pub flag_read : (rules : List Rule) (name : Text) (pieces : List Piece) → has_flag rules name ≡ true
    → list_all (is_piece_of rules) pieces ≡ true
    → one_of name (rows_of_pieces rules pieces) ≡ Some (flag_text name pieces)
flag_read rules name pieces flag known = go (nat_lt 0 (count_of name pieces)) refl
  where
    go : (b : Bool) → nat_lt 0 (count_of name pieces) ≡ b
        → one_of name (rows_of_pieces rules pieces) ≡ Some (if b then codes "true" else codes "false")
    go true is =
        let some : 1 ≤ count_of name pieces = grind (arith, nat_tests) in
        let there = row_of_name rules name pieces known some in
        ap (option_and_then row_text) (defaults_keep name (piece_row there.piece) rules (map piece_row pieces) there.row)
        ∙ flag_piece rules name there.piece flag there.known there.named
    go false is =
        let none : count_of name pieces ≡ 0 = grind (arith, nat_tests) in
        let form = has_form (form_named rules name) is_flag flag in
        ap (option_and_then row_text)
        (absent_flag name rules (map piece_row pieces) (missing_row name pieces none) (form.1 ∙ ap (λ f. Some f) (is_flag_form form.0 form.2)))

-- ---- options

abbrev first_text : Option Row → Option Text
first_text row = option_and_then (λ (r : Row). slice_get r.values 0) row

-- a piece of an option's name has a text
option_piece : (rules : List Rule) (name : Text) (piece : Piece) → has_option rules name ≡ true
    → is_piece_of rules piece ≡ true → name_in piece ≡ name
    → first_text (Some (piece_row piece)) ≡ text_in piece
option_piece rules name (joined n text) option known named = refl
option_piece rules name (apart n text) option known named = refl
option_piece rules name (alone n) option known named =
    absurd (flag_or_option (form_named rules name) (subst (λ m. has_flag rules m ≡ true) named known) option)

text_here : (rules : List Rule) (name : Text) (piece : Piece) (b : Bool) (found : Option Row) (text : Option Text)
    → bytes_eq (name_in piece) name ≡ b
    → has_option rules name ≡ true → is_piece_of rules piece ≡ true → first_text found ≡ text
    → first_text (if b then Some (piece_row piece) else found) ≡ (if b then text_in piece else text)
text_here rules name piece true found text is option known rest =
    option_piece rules name piece option known ((bytes_eq-Decides (name_in piece) name).0 is)
text_here rules name piece false found text is option known rest = rest

text_row : (rules : List Rule) (name : Text) (pieces : List Piece) → has_option rules name ≡ true
    → list_all (is_piece_of rules) pieces ≡ true
    → first_text (row_named name (map piece_row pieces)) ≡ text_of name pieces
text_row rules name [] option known = refl
text_row rules name (piece ∷ pieces) option known =
    let parts = both (is_piece_of rules piece) _ known in
    text_here rules name piece (bytes_eq (name_in piece) name) (row_named name (map piece_row pieces)) (text_of name pieces) refl option parts.0
    (text_row rules name pieces option parts.1)

-- an option's first value in the matches is its text
pub option_read : (rules : List Rule) (name : Text) (pieces : List Piece) → are_rules rules ≡ true
    → has_option rules name ≡ true
    → list_all (is_piece_of rules) pieces ≡ true → first_of name (rows_of_pieces rules pieces) ≡ text_of name pieces
option_read rules name pieces fine option known = go (row_named name (map piece_row pieces)) refl
  where
    go : (o : Option Row) → row_named name (map piece_row pieces) ≡ o
        → first_of name (rows_of_pieces rules pieces) ≡ text_of name pieces
    go None is =
        let form = has_form (form_named rules name) has_text option in
        ap first_text (absent_option name rules (map piece_row pieces) form.0 form.2 fine is form.1 ∙ sym is)
        ∙ text_row rules name pieces option known
    go (Some row) is =
        ap first_text (defaults_keep name row rules (map piece_row pieces) is ∙ sym is)
        ∙ text_row rules name pieces option known

-- ---- words

-- lawful words are taken
pub lawful_taken : (command : Text) (rules : List Rule) (words : List Text) → are_rules rules ≡ true
    → is_some (lawful_pieces rules words) ≡ true
    → takes (app_with command rules) words ≡ true
lawful_taken command rules words fine some = go (lawful_pieces rules words) refl some
  where
    go : (o : Option (List Piece)) → lawful_pieces rules words ≡ o → is_some o ≡ true
        → takes (app_with command rules) words ≡ true
    go None is some = cc
    go (Some pieces) is some =
        let read = read_lawful rules words pieces is in
        subst (λ ws. takes (app_with command rules) ws ≡ true) read.1 (pieces_pass command rules pieces fine read.0)

-- the matches of lawful words
module _ (command : Text) (rules : List Rule) (words : List Text) (app : App) (matches : ArgMatches) (same : app ≡ app_with command rules)
    (has : HasMatchesOf app words matches) (fine : are_rules rules ≡ true) (pieces : List Piece) (lawful : lawful_pieces rules words ≡ Some pieces) where
  abbrev read : AreLawful rules pieces × (spelling pieces ≡ words)
  read = read_lawful rules words pieces lawful

  matched_rows : rows_of (found_of matches) ≡ rows_of_pieces rules pieces
  matched_rows =
      (has (ap is_simple same ∙ simple_app command rules)).0 ∙ ap₂ matches_of same (sym read.1)
      ∙ pieces_match command rules pieces fine read.0

  -- what they have under a flag's name, and under an option's
  pub lawful_flag : (flag : Text) → has_flag rules flag ≡ true
      → one_text (found_of matches) flag ≡ Some (flag_text flag pieces)
  lawful_flag flag there =
      one_text-rows (found_of matches) flag ∙ ap (one_of flag) matched_rows
      ∙ flag_read rules flag pieces there read.0.known

  pub lawful_option : (name : Text) → has_option rules name ≡ true
      → first_value (found_of matches) name ≡ text_of name pieces
  lawful_option name there =
      first_value-rows (found_of matches) name ∙ ap (first_of name) matched_rows
      ∙ option_read rules name pieces fine there read.0.known
