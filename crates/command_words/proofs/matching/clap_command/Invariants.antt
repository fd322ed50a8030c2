use Rattle.std.proofs.Common.{◌≡◌, take}
use Rattle.clap.specs.Words.{app_of}
use Rattle.command_words.specs.Arguments.{rules_in}
use Rattle.command_words.specs.Matching.{app_with}
use Rattle.command_words.proofs.matching.clap_command.Given as goal

abbrev pub invariant-loop-argument : goal.invariant-loop-argument
invariant-loop-argument l = app_of l.command ≡ app_with l.name (rules_in (take l.argument-index l.arguments))
