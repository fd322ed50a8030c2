use Rattle.std.proofs.Common.{◌∙◌, ap₂, arith}
use Rattle.clap.specs.Words.{with_rule}
use Rattle.command_words.proofs.ClapRules.{app_with-next}
use Rattle.command_words.proofs.matching.clap_command.Goals as goal

pub loop-argument-preserved : goal.loop-argument-preserved
loop-argument-preserved c =
    c.in_ok-command.ensures.shape c.arg_of.ensures.own
    ∙ ap₂ with_rule c.loop-argument.invariant c.arg_of.ensures.rule
    ∙ app_with-next c.args.name.now c.args.arguments.now c.loop-argument.argument-index _ (omega arith)
