use Rattle.script_histories.proofs.Histories.{is_history}
use Rattle.script_histories.proofs.Deliveries.{are_sent, delivers}
use Rattle.script_histories.proofs.laws.scripts_are_histories.Goals as goal

pub returns-clause-history : goal.returns-clause-history
returns-clause-history c = is_history

pub returns-clause-sent : goal.returns-clause-sent
returns-clause-sent c = are_sent

pub returns-clause-entries : goal.returns-clause-entries
returns-clause-entries c = delivers
