use Rattle.std.proofs.Common.{refl}
use Rattle.std.specs.Fmt.{digits}
use Rattle.report_lines.specs.TrialLines.{agent_text, premises_text}
use Rattle.report_lines.proofs.trial_rows.worked_trial_lines.Goals as goal

pub returns-clause-two_datagrams : goal.returns-clause-two_datagrams
unfolding digits agent_text
returns-clause-two_datagrams c = refl

pub returns-clause-none : goal.returns-clause-none
unfolding digits agent_text
returns-clause-none c = refl

pub returns-clause-all_hold : goal.returns-clause-all_hold
unfolding premises_text
returns-clause-all_hold c = refl

pub returns-clause-one_does_not : goal.returns-clause-one_does_not
unfolding premises_text
returns-clause-one_does_not c = refl

pub returns-clause-in_their_order : goal.returns-clause-in_their_order
unfolding premises_text
returns-clause-in_their_order c = refl
