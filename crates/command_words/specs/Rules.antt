-- The options and flags of a command.
use Rattle.std.specs.Prelude.{ℕ, Bool, true, false, List, Option, find, option_map}
use Rattle.std.specs.Option.{option_map_or}
use Rattle.std.specs.Str.{bytes_eq}
use Rattle.command_words.specs.declared.arguments.Form.{Form}
use Rattle.command_words.specs.declared.arguments.Form.TheVariants.{Flag, Optional, Required}

-- a word, or a part of one, as its bytes
abbrev pub Text : Type 0
Text = List ℕ

-- an option or a flag, by its name without the hyphens
pub record Rule : Type 0 where
  pub name : Text
  pub form : Form

-- an option has a text behind its name, a flag has none
abbrev pub has_text : Form → Bool
has_text Flag = false
has_text Optional = true
has_text Required = true

abbrev pub is_flag : Form → Bool
is_flag Flag = true
is_flag Optional = false
is_flag Required = false

abbrev pub is_required : Form → Bool
is_required Flag = false
is_required Optional = false
is_required Required = true

-- what the command has under a name
abbrev pub form_named : List Rule → Text → Option Form
form_named rules name = option_map (λ rule. rule.form) (find (λ rule. bytes_eq rule.name name) rules)

abbrev pub has_option : List Rule → Text → Bool
has_option rules name = option_map_or has_text (form_named rules name) false

abbrev pub has_flag : List Rule → Text → Bool
has_flag rules name = option_map_or is_flag (form_named rules name) false
