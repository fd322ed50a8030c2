use Rattle.std.proofs.Common.{◌∙◌, refl, ap}
use Rattle.command_words.specs.Collections.{routes_asked}
use Rattle.command_words.specs.Commands.{routes_of}
use Rattle.command_words.proofs.Asked.{relay_parts}
use Rattle.command_words.proofs.asking.can_relay.Goals as goal

pub returns-then-can_collect : goal.returns-then-can_collect
returns-then-can_collect c = λ pieces are.
    c.is_some.ensures
    ∙ relay_parts _ c.routes_in.result pieces (c.if-can_collect.ensures pieces are)
    (c.routes_in.ensures ∙ ap routes_asked (c.text.ensures pieces are))

pub returns-else-can_collect : goal.returns-else-can_collect
returns-else-can_collect c = λ pieces are.
    c.if-can_collect.false
    ∙ relay_parts _ (routes_of pieces) pieces (c.if-can_collect.ensures pieces are) refl
