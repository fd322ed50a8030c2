-- The options and flags of the code as rules.
use Rattle.std.specs.Prelude.{List, map}
use Rattle.command_words.specs.declared.arguments.Argument.{Argument}
use Rattle.command_words.specs.Rules.{Rule}

abbrev pub rule_in : Argument → Rule
rule_in argument = record { name = argument.name.now; form = argument.form }

abbrev pub rules_in : List Argument → List Rule
rules_in arguments = map rule_in arguments
