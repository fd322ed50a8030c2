use Rattle.std.proofs.Common.{map, string_bytes}
use Rattle.command_words.proofs.Needed.{others_need, relay_needs}
use Rattle.command_words.proofs.asking.receivers_of.Goals as goal

pub returns-in-Relay : goal.returns-in-Relay
returns-in-Relay c =
    relay_needs c.args.name (map string_bytes c.args.words.now) _ _ c.in-Relay.is c.arguments.ensures c.route_count.ensures

pub returns-in_default : goal.returns-in_default
returns-in_default c = others_need c.args.name (map string_bytes c.args.words.now) c.in_default.not-Relay
