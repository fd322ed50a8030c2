use Rattle.std.proofs.Common.{◌∙◌, map, string_bytes}
use Rattle.command_words.specs.Commands.{command_named}
use Rattle.command_words.proofs.Needed.{asked_for, none_for}
use Rattle.command_words.proofs.asking.asks_for.Goals as goal

pub returns-then-asks : goal.returns-then-asks
returns-then-asks c =
    asked_for c.args.receivers c.receivers_of.result (command_named (map string_bytes c.args.words.now) c.args.name) _
    c.if-asks.ensures c.receivers_of.ensures

pub returns-else-asks : goal.returns-else-asks
returns-else-asks c =
    c.if-asks.false ∙ none_for c.args.receivers (command_named (map string_bytes c.args.words.now) c.args.name) c.if-asks.ensures
