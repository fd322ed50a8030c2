-- Options and flags by their names, in the code's table and in the rules.
use Rattle.std.proofs.Common.{◌≡◌, Bool, true, false, List, [], ◌∷◌, Option, Some, refl, if◌then◌else◌}
use Rattle.std.specs.Prelude.{find, option_map}
use Rattle.std.specs.Str.{bytes_eq}
use Rattle.command_words.specs.declared.arguments.Argument.{Argument}
use Rattle.command_words.specs.Rules.{Text, Rule, form_named}
use Rattle.command_words.specs.Arguments.{rule_in, rules_in}

chosen : (b : Bool) (a : Argument) (x : Option Rule) (y : Option Argument)
    → option_map (λ rule. rule.form) x ≡ option_map (λ a. a.form) y
    → option_map (λ rule. rule.form) (if b then Some (rule_in a) else x) ≡ option_map (λ a. a.form) (if b then Some a else y)
chosen true a x y same = refl
chosen false a x y same = same

pub form_named-rules_in : (arguments : List Argument) (name : Text)
    → form_named (rules_in arguments) name ≡ option_map (λ a. a.form) (find (λ a. bytes_eq a.name.now name) arguments)
form_named-rules_in [] name = refl
form_named-rules_in (a ∷ arguments) name = chosen (bytes_eq a.name.now name) a _ _ (form_named-rules_in arguments name)
