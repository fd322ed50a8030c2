use Rattle.script_histories.proofs.SetUpsStay.{no_deliveries, no_entries, no_history}
use Rattle.script_histories.proofs.laws.nobody_sends.Goals as goal

pub returns-clause-history : goal.returns-clause-history
returns-clause-history c = no_history

pub returns-clause-deliveries : goal.returns-clause-deliveries
returns-clause-deliveries c = no_deliveries

pub returns-clause-entries : goal.returns-clause-entries
returns-clause-entries c = no_entries
