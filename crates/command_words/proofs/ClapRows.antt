-- The rows that pieces leave in clap's matches.
use Rattle.std.proofs.Common.{◌≡◌, ◌∙◌, ◌≤◌, ◌+◌, ℕ, Bool, true, false, not, ◌||◌, if◌then◌else◌, List, [], ◌∷◌, ◌++◌, Option, Some, None, map, refl, ap, ap₂, sym, fold, arith, codes}
use Rattle.std.specs.Prelude.{find, is_some, option_map}
use Rattle.std.specs.Option.{option_or}
use Rattle.std.specs.Str.{bytes_eq}
use Rattle.std.proofs.lemmas.List.{append-nil}
use Rattle.std.proofs.lemmas.List.Folds.{find-append}
use Rattle.std.proofs.lemmas.Slice.Eq.{bytes_eq-Decides}
use Rattle.clap.specs.declared.builder.value_parser.Reading.{Reading}
use Rattle.clap.specs.Walk.{Row, at_row, default_rows, has_row, more_values, reading_by, used, with_default, with_values, without}
use Rattle.clap.specs.declared.parser.matches.ValueSource.TheVariants.{CommandLine, DefaultValue}
use Rattle.command_words.specs.declared.arguments.Form.{Form}
use Rattle.command_words.specs.declared.arguments.Form.TheVariants.{Flag, Optional, Required}
use Rattle.command_words.specs.Rules.{Text, Rule, form_named, has_text}
use Rattle.command_words.specs.Pieces.{Piece, joined, apart, alone, name_in, count_of, is_name, are_rules}
use Rattle.command_words.proofs.Spelled.{both, find_cases}
use Rattle.command_words.proofs.ClapRules.{built_rule, option_rule, flag_rule}

-- ---- rows by their ids

-- how many rows have the name
abbrev pub rows_under : Text → List Row → ℕ
rows_under name [] = 0
rows_under name (row ∷ rows) = (if bytes_eq row.id name then 1 else 0) + rows_under name rows

abbrev pub row_named : Text → List Row → Option Row
row_named name rows = find (λ r. bytes_eq r.id name) rows

pub rows_under-push : (name : Text) (rows : List Row) (row : Row)
    → rows_under name (rows ++ row ∷ []) ≡ rows_under name rows + (if bytes_eq row.id name then 1 else 0)
rows_under-push name [] row = omega arith
rows_under-push name (r ∷ rows) row =
    ap (λ n. (if bytes_eq r.id name then 1 else 0) + n) (rows_under-push name rows row) ∙ omega arith

none_after : (b : Bool) (n : ℕ) (more : Bool) → (n ≡ 0 → more ≡ false) → (if b then 1 else 0) + n ≡ 0
    → (b || more) ≡ false
none_after true n more rest e = absurd (omega arith)
none_after false n more rest e = rest (omega arith)

pub no_row : (name : Text) (rows : List Row) → rows_under name rows ≡ 0 → has_row name rows ≡ false
no_row name [] none = refl
no_row name (r ∷ rows) none = none_after (bytes_eq r.id name) (rows_under name rows) _ (no_row name rows) none

-- where no row has the name, a row of it goes last
put_after : (b : Bool) (more : Bool) (r : Row) (rows : List Row) (change : List Row) (missing : List Row) (there : List Row)
    → (more ≡ false → there ≡ rows ++ missing) → (b || more) ≡ false
    → (if b then change ++ rows else r ∷ there) ≡ r ∷ (rows ++ missing)
put_after true more r rows change missing there rest e = cc
put_after false more r rows change missing there rest e = ap (λ rs. r ∷ rs) (rest e)

at_row-none : (name : Text) (change : Row → List Row) (missing rows : List Row) → has_row name rows ≡ false
    → at_row name change missing rows ≡ rows ++ missing
at_row-none name change missing [] none = refl
at_row-none name change missing (r ∷ rows) none =
    put_after (bytes_eq r.id name) (has_row name rows) r rows (change r) missing _ (at_row-none name change missing rows) none

without-none : (name : Text) (rows : List Row) → has_row name rows ≡ false → without name rows ≡ rows
without-none name rows none = at_row-none name (λ _. []) [] rows none ∙ append-nil rows

-- ---- the row of a piece

abbrev pub values_in : Piece → List Text
values_in (joined name text) = text ∷ []
values_in (apart name text) = text ∷ []
values_in (alone name) = codes "true" ∷ []

abbrev pub reading_in : Piece → Reading
reading_in (joined name text) = reading_by (option_rule [] false)
reading_in (apart name text) = reading_by (option_rule [] false)
reading_in (alone name) = reading_by (flag_rule [])

abbrev pub piece_row : Piece → Row
piece_row piece = record {
  id = name_in piece;
  values = values_in piece;
  count = None;
  source = Some CommandLine;
  reading = reading_in piece;
}

module _ (name : Text) (rows : List Row) (none : has_row name rows ≡ false) where
  pub used-joined : (text : Text) (needed : Bool)
      → used (option_rule name needed) (text ∷ []) rows ≡ rows ++ piece_row (joined name text) ∷ []
  used-joined text needed =
      ap (with_values name (reading_by (option_rule [] false)) CommandLine (text ∷ [])) (without-none name rows none)
      ∙ at_row-none name (more_values CommandLine (text ∷ [])) _ rows none

  pub used-apart : (text : Text) (needed : Bool)
      → used (option_rule name needed) (text ∷ []) rows ≡ rows ++ piece_row (apart name text) ∷ []
  used-apart text needed = used-joined text needed

  pub used-alone : used (flag_rule name) [] rows ≡ rows ++ piece_row (alone name) ∷ []
  used-alone =
      ap (with_values name (reading_by (flag_rule [])) CommandLine (codes "true" ∷ [])) (without-none name rows none)
      ∙ at_row-none name (more_values CommandLine (codes "true" ∷ [])) _ rows none

-- ---- defaults

-- the row of a flag that isn't there
abbrev pub absent_row : Text → Row
absent_row name = record {
  id = name;
  values = codes "false" ∷ [];
  count = None;
  source = Some DefaultValue;
  reading = reading_by (flag_rule []);
}

-- a default may add one row of the rule's name
record Grows (rows : List Row) (rule : Rule) (after : List Row) : Type 0 where
  pub more : List Row
  pub same : after ≡ rows ++ more
  pub named : (name : Text) → bytes_eq rule.name name ≡ false → row_named name more ≡ None

grown : (rows : List Row) (rule : Rule) → Grows rows rule (with_default rows (built_rule rule))
grown rows rule = go (has_row rule.name rows) refl
  where
    same_rows : Grows rows rule rows
    same_rows = record { more = []; same = sym (append-nil rows); named = λ name other. refl }

    added : (form : Form) → has_row rule.name rows ≡ false
        → Grows rows rule (default_rows rule.name (reading_by (built_rule (record { name = rule.name; form = form }))) (built_rule (record { name = rule.name; form = form })).defaults rows)
    added Flag none = record {
      more = absent_row rule.name ∷ [];
      same =
          at_row-none rule.name (more_values DefaultValue (codes "false" ∷ [])) (absent_row rule.name ∷ []) rows none;
      named = λ name other. ap (λ b. if b then Some (absent_row rule.name) else None) other;
    }
    added Optional none = same_rows
    added Required none = same_rows

    go : (b : Bool) → has_row rule.name rows ≡ b
        → Grows rows rule (if b then rows else default_rows rule.name (reading_by (built_rule rule)) (built_rule rule).defaults rows)
    go true is = same_rows
    go false is = added rule.form is

found_first : (name : Text) (row : Row) (rows more : List Row) → row_named name rows ≡ Some row
    → row_named name (rows ++ more) ≡ Some row
found_first name row rows more found =
    find-append (λ r. bytes_eq r.id name) rows more ∙ ap (λ o. option_or o (row_named name more)) found

-- what is found stays found
pub defaults_keep : (name : Text) (row : Row) (rules : List Rule) (rows : List Row) → row_named name rows ≡ Some row
    → row_named name (fold with_default rows (map built_rule rules)) ≡ Some row
defaults_keep name row [] rows found = found
defaults_keep name row (rule ∷ rules) rows found =
    let grows = grown rows rule in
    defaults_keep name row rules (with_default rows (built_rule rule)) (ap (row_named name) grows.same ∙ found_first name row rows grows.more found)

has_row-none : (name : Text) (rows : List Row) → row_named name rows ≡ None → has_row name rows ≡ false
has_row-none name [] none = refl
has_row-none name (r ∷ rows) none =
    go (bytes_eq r.id name) (row_named name rows) (has_row name rows) (has_row-none name rows) none
  where
    go : (b : Bool) (o : Option Row) (more : Bool) → (o ≡ None → more ≡ false) → (if b then Some r else o) ≡ None
        → (b || more) ≡ false
    go true o more rest e = cc
    go false o more rest e = rest e

same_name : (name : Text) → bytes_eq name name ≡ true
same_name name = (bytes_eq-Decides name name).1 refl

absent_added : (name : Text) (rows : List Row) → row_named name rows ≡ None
    → row_named name (with_default rows (flag_rule name)) ≡ Some (absent_row name)
absent_added name rows none =
    let free = has_row-none name rows none in
    ap (λ b. row_named name (if b then rows else default_rows name (reading_by (flag_rule [])) (codes "false" ∷ []) rows)) free
    ∙ ap (row_named name) (at_row-none name (more_values DefaultValue (codes "false" ∷ [])) (absent_row name ∷ []) rows free)
    ∙ find-append (λ r. bytes_eq r.id name) rows (absent_row name ∷ [])
    ∙ ap₂ (λ o b. option_or o (if b then Some (absent_row name) else None)) none (same_name name)

-- a flag that isn't there has the row of its default
pub absent_flag : (name : Text) (rules : List Rule) (rows : List Row) → row_named name rows ≡ None
    → form_named rules name ≡ Some Flag
    → row_named name (fold with_default rows (map built_rule rules)) ≡ Some (absent_row name)
absent_flag name [] rows none found = cc
absent_flag name (rule ∷ rules) rows none found = find_cases (bytes_eq rule.name name) rule _ Flag found
    (λ e form. defaults_keep name (absent_row name) rules (with_default rows (built_rule rule))
    (ap₂ (λ (n : Text) f. row_named name (with_default rows (built_rule (record { name = n; form = f })))) ((bytes_eq-Decides rule.name name).0 e) form ∙ absent_added name rows none))
    (λ e further.
    let grows = grown rows rule in
    absent_flag name rules (with_default rows (built_rule rule))
    (ap (row_named name) grows.same ∙ find-append (λ r. bytes_eq r.id name) rows grows.more ∙ ap₂ option_or none (grows.named name e)) further)

-- an option has no default
same_rows : (b : Bool) (rows : List Row) → (if b then rows else rows) ≡ rows
same_rows true rows = refl
same_rows false rows = refl

option_default : (rows : List Row) (name : Text) (form : Form) → has_text form ≡ true
    → with_default rows (built_rule (record { name = name; form = form })) ≡ rows
option_default rows name Flag text = cc
option_default rows name Optional text = same_rows (has_row name rows) rows
option_default rows name Required text = same_rows (has_row name rows) rows

missing_cases : (b : Bool) (rule : Rule) (rest : Option Rule)
    → option_map (λ r. r.form) (if b then Some rule else rest) ≡ None
    → (b ≡ false) × (option_map (λ r. r.form) rest ≡ None)
missing_cases true rule rest e = cc
missing_cases false rule rest e = (refl, e)

still_none : (name : Text) (rows : List Row) (rule : Rule) → row_named name rows ≡ None
    → bytes_eq rule.name name ≡ false
    → row_named name (with_default rows (built_rule rule)) ≡ None
still_none name rows rule none other =
    let grows = grown rows rule in
    ap (row_named name) grows.same ∙ find-append (λ r. bytes_eq r.id name) rows grows.more
    ∙ ap₂ option_or none (grows.named name other)

no_default : (name : Text) (rules : List Rule) (rows : List Row) → row_named name rows ≡ None
    → form_named rules name ≡ None
    → row_named name (fold with_default rows (map built_rule rules)) ≡ None
no_default name [] rows none missing = none
no_default name (rule ∷ rules) rows none missing =
    let other = missing_cases (bytes_eq rule.name name) rule _ missing in
    no_default name rules (with_default rows (built_rule rule)) (still_none name rows rule none other.0) other.1

is_none : (o : Option Form) → not (is_some o) ≡ true → o ≡ None
is_none None e = refl
is_none (Some form) e = cc

-- an option that isn't there has no row
pub absent_option : (name : Text) (rules : List Rule) (rows : List Row) (form : Form) → has_text form ≡ true
    → are_rules rules ≡ true → row_named name rows ≡ None
    → form_named rules name ≡ Some form → row_named name (fold with_default rows (map built_rule rules)) ≡ None
absent_option name [] rows form text fine none found = cc
absent_option name (rule ∷ rules) rows form text fine none found =
    find_cases (bytes_eq rule.name name) rule _ form found
    (λ e same.
    let alone : form_named rules rule.name ≡ None = is_none (form_named rules rule.name) (both (is_name rule.name) _ (both _ _ fine).0).1 in
    ap (λ rs. row_named name (fold with_default rs (map built_rule rules))) (option_default rows rule.name rule.form (ap has_text same ∙ text))
    ∙ no_default name rules rows none (ap (form_named rules) (sym ((bytes_eq-Decides rule.name name).0 e)) ∙ alone))
    (λ e further. absent_option name rules (with_default rows (built_rule rule)) form text (both _ _ fine).1 (still_none name rows rule none e) further)

-- ---- the rows of lawful pieces

row_in : (piece : Piece) (b : Bool) (n : ℕ) (o : Option Row) → (1 ≤ n → (p : Piece) × (o ≡ Some (piece_row p)))
    → 1 ≤ (if b then 1 else 0) + n
    → (p : Piece) × ((if b then Some (piece_row piece) else o) ≡ Some (piece_row p))
row_in piece true n o rest some = (piece, refl)
row_in piece false n o rest some = rest (omega arith)

-- a piece of that name has a row
pub given_row : (name : Text) (pieces : List Piece) → 1 ≤ count_of name pieces
    → (p : Piece) × (row_named name (map piece_row pieces) ≡ Some (piece_row p))
given_row name [] some = absurd (omega arith)
given_row name (piece ∷ pieces) some =
    row_in piece (bytes_eq (name_in piece) name) (count_of name pieces) (row_named name (map piece_row pieces)) (given_row name pieces) some

no_row_in : (piece : Piece) (b : Bool) (n : ℕ) (o : Option Row) → (n ≡ 0 → o ≡ None) → (if b then 1 else 0) + n ≡ 0
    → (if b then Some (piece_row piece) else o) ≡ None
no_row_in piece true n o rest none = absurd (omega arith)
no_row_in piece false n o rest none = rest (omega arith)

pub missing_row : (name : Text) (pieces : List Piece) → count_of name pieces ≡ 0
    → row_named name (map piece_row pieces) ≡ None
missing_row name [] none = refl
missing_row name (piece ∷ pieces) none =
    no_row_in piece (bytes_eq (name_in piece) name) (count_of name pieces) (row_named name (map piece_row pieces)) (missing_row name pieces) none
