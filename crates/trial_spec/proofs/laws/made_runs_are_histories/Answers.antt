use Rattle.trial_spec.proofs.MadeRuns.{is-history}
use Rattle.trial_spec.proofs.MadeSent.{are-sent}
use Rattle.trial_spec.proofs.laws.made_runs_are_histories.Goals as goal

pub returns-clause-history : goal.returns-clause-history
returns-clause-history c = is-history

pub returns-clause-sent : goal.returns-clause-sent
returns-clause-sent c = are-sent
