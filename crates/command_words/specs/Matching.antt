-- The rules of a command as `clap` has them.
use Rattle.std.specs.Prelude.{◌≡◌, List, Some, IsTrue, true, map}
use Rattle.clap.specs.Words.{App, Rule as ClapRule, first_value, new_app, new_rule, one_text}
use Rattle.clap.specs.declared.parser.matches.Found.{Found}
use Rattle.clap.specs.Simple.{Shape, on_top}
use Rattle.clap.specs.declared.builder.action.ArgAction.{ArgAction}
use Rattle.clap.specs.declared.builder.action.ArgAction.TheVariants.{Set, SetTrue}
use Rattle.command_words.specs.declared.arguments.Form.{Form}
use Rattle.command_words.specs.declared.arguments.Form.TheVariants.{Flag, Optional, Required}
use Rattle.command_words.specs.Rules.{Text, Rule, has_flag, has_option, is_required}
use Rattle.command_words.specs.Pieces.{Piece, flag_text, text_of}

-- an option takes one text, a flag is set
abbrev pub action_for : Form → ArgAction
action_for Flag = SetTrue
action_for Optional = Set
action_for Required = Set

abbrev pub clap_rule : Rule → ClapRule
clap_rule rule = record (new_rule rule.name) {
  long = Some rule.name;
  action = Some (action_for rule.form);
  required = is_required rule.form;
}

-- no program's name in front, and no flags of clap's own
abbrev pub plain_shape : Shape → Shape
plain_shape s = record s { no_binary_name = true; disable_help_flag = true; disable_version_flag = true }

abbrev pub plain_app : Text → App
plain_app name = on_top plain_shape (new_app name)

abbrev pub app_with : Text → List Rule → App
app_with name rules = on_top (λ s. record s { rules = map clap_rule rules }) (plain_app name)

-- what was found holds each flag of the rules as it stands among the pieces, and each option's text
pub record Holds (found : Found) (rules : List Rule) (pieces : List Piece) : Type 0 where
  pub flags : (flag : Text) → IsTrue (has_flag rules flag) → one_text found flag ≡ Some (flag_text flag pieces)
  pub options : (option : Text) → IsTrue (has_option rules option) → first_value found option ≡ text_of option pieces
