use Rattle.std.proofs.Common.{◌∙◌, ◌&&◌, refl, sym, ap, is_some}
use Rattle.command_words.specs.Collections.{turns_asked}
use Rattle.command_words.specs.Commands.{turns_of}
use Rattle.command_words.specs.Limits.{limits_asked}
use Rattle.command_words.proofs.Asked.{both_asked}
use Rattle.command_words.proofs.asking.can_collect.Goals as goal

pub returns-then-is_some : goal.returns-then-is_some
returns-then-is_some c = λ pieces are.
    c.is_some-then-is_some.ensures
    ∙ ap (λ b. b && is_some c.turns_in.result) (sym c.if-is_some.true ∙ c.is_some.ensures)
    ∙ both_asked c.limits.result c.turns_in.result pieces
    (c.limits.ensures ∙ ap limits_asked (c.in_words.ensures pieces are))
    (c.turns_in.ensures ∙ ap turns_asked (c.text.ensures pieces are))

pub returns-else-is_some : goal.returns-else-is_some
returns-else-is_some c = λ pieces are.
    c.if-is_some.false
    ∙ ap (λ b. b && is_some (turns_of pieces)) (sym c.if-is_some.false ∙ c.is_some.ensures)
    ∙ both_asked c.limits.result (turns_of pieces) pieces
    (c.limits.ensures ∙ ap limits_asked (c.in_words.ensures pieces are)) refl
