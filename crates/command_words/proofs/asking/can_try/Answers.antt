use Rattle.std.proofs.Common.{◌∙◌, ◌&&◌, refl, sym, ap, ap₂, is_some}
use Rattle.command_words.specs.Commands.{run_of}
use Rattle.command_words.specs.Limits.{limits_asked}
use Rattle.command_words.specs.Runs.{run_asked}
use Rattle.command_words.proofs.Asked.{trial_parts}
use Rattle.command_words.proofs.asking.can_try.Goals as goal

pub returns-then-is_some : goal.returns-then-is_some
returns-then-is_some c = λ pieces are.
    c.is_some-then-is_some.ensures
    ∙ ap (λ b. b && is_some c.asked.result) (sym c.if-is_some.true ∙ c.is_some.ensures)
    ∙ trial_parts c.limits.result c.asked.result pieces
    (c.limits.ensures ∙ ap limits_asked (c.in_words.ensures pieces are))
    (c.asked.ensures ∙ ap₂ run_asked (c.text.ensures pieces are) (c.text-then-is_some.ensures pieces are))

pub returns-else-is_some : goal.returns-else-is_some
returns-else-is_some c = λ pieces are.
    c.if-is_some.false
    ∙ ap (λ b. b && is_some (run_of pieces)) (sym c.if-is_some.false ∙ c.is_some.ensures)
    ∙ trial_parts c.limits.result (run_of pieces) pieces
    (c.limits.ensures ∙ ap limits_asked (c.in_words.ensures pieces are)) refl
