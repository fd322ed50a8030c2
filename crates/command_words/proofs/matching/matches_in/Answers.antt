use Rattle.std.proofs.Common.{◌∙◌, List, ap, map, string_bytes}
use Rattle.std.proofs.lemmas.Result.{IfErr-weaker, IfOk-weaker}
use Rattle.clap.specs.Words.{App, takes}
use Rattle.command_words.specs.Rules.{Text}
use Rattle.command_words.specs.Arguments.{rules_in}
use Rattle.command_words.proofs.ClapTakes.{lawful_taken, lawful_flag, lawful_option}
use Rattle.command_words.proofs.matching.matches_in.Goals as goal

pub returns-clause-memory : goal.returns-clause-memory
returns-clause-memory c =
    let words : List Text = map string_bytes c.args.words.now in
    IfErr-weaker c.try_get_matches_from.result _ _
    (λ error only. only (ap (λ (a : App). takes a words) c.in_ok-clap_command.ensures
    ∙ lawful_taken c.args.name.now (rules_in c.args.arguments.now) words c.requires.rules c.requires.lawful))
    c.try_get_matches_from.ensures.passes

pub returns-clause-matches : goal.returns-clause-matches
returns-clause-matches c =
    let words : List Text = map string_bytes c.args.words.now in
    IfOk-weaker c.try_get_matches_from.result _ _
    (λ matches has pieces lawful. record {
      flags = λ flag there. lawful_flag c.args.name.now (rules_in c.args.arguments.now) words _ matches c.in_ok-clap_command.ensures has c.requires.rules pieces lawful flag there;
      options = λ option there. lawful_option c.args.name.now (rules_in c.args.arguments.now) words _ matches c.in_ok-clap_command.ensures has c.requires.rules pieces lawful option there;
    })
    c.try_get_matches_from.ensures.matches
