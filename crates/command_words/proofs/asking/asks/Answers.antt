use Rattle.std.proofs.Common.{map, string_bytes, ◌∙◌, ap, is_some}
use Rattle.command_words.specs.Limits.{limits_asked}
use Rattle.command_words.proofs.Asked.{collect_test, pieces_ask, replay_test}
use Rattle.command_words.specs.declared.arguments.CommandName.TheVariants as name
use Rattle.command_words.proofs.asking.asks.Goals as goal

pub returns-in-Replay : goal.returns-in-Replay
returns-in-Replay c =
    pieces_ask name.Replay c.args.name (map string_bytes c.args.words.now) _ _ c.in-Replay.is
    c.arguments-arguments.ensures c.if-are_lawful.ensures
    (λ pieces are. c.is_some.ensures ∙ ap is_some (c.limits.ensures ∙ ap limits_asked (c.in_words.ensures pieces are))
    ∙ replay_test pieces)

pub returns-in-Collect : goal.returns-in-Collect
returns-in-Collect c =
    pieces_ask name.Collect c.args.name (map string_bytes c.args.words.now) _ _ c.in-Collect.is
    c.arguments-arguments.ensures c.if-are_lawful.ensures
    (λ pieces are. c.can_collect.ensures pieces are ∙ collect_test pieces)

pub returns-in-Relay : goal.returns-in-Relay
returns-in-Relay c =
    pieces_ask name.Relay c.args.name (map string_bytes c.args.words.now) _ _ c.in-Relay.is
    c.arguments-arguments.ensures c.if-are_lawful.ensures c.can_relay.ensures

pub returns-in-Trial : goal.returns-in-Trial
returns-in-Trial c =
    pieces_ask name.Trial c.args.name (map string_bytes c.args.words.now) _ _ c.in-Trial.is
    c.arguments-arguments.ensures c.if-are_lawful.ensures c.can_try.ensures
