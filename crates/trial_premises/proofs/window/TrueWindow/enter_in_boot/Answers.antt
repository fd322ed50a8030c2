use Rattle.std.proofs.Common.{◌∙◌, ℕ, ap, not, ◌&&◌, pos}
use Rattle.count_spec.specs.Windows.{has}
use Rattle.account_spec.specs.TrueNumbers.{is_late, in_time}
use Rattle.trial_premises.proofs.window.TrueWindow.enter_in_boot.Goals as goal

pub returns-clause-stands : goal.returns-clause-stands
returns-clause-stands c = λ numbers begins goes_on.
    c.enter.ensures.stands numbers (c.begin_if.ensures.stands numbers begins goes_on)

pub returns-clause-answer : goal.returns-clause-answer
returns-clause-answer c = λ numbers begins goes_on.
    c.enter.ensures.answer numbers (c.begin_if.ensures.stands numbers begins goes_on)
    ∙ ap (λ (w : ℕ). not (is_late w numbers (pos c.args.number)) && not (has (in_time w numbers) (pos c.args.number)))
    c.begin_if.ensures.width
