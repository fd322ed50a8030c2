use Rattle.account_laws.proofs.Interfaces.{interfaces-are}
use Rattle.account_laws.proofs.laws.interface_counters_rise_as_they_did.Goals as goal

pub returns : goal.returns
returns c = λ truth l history deliveries p slow. interfaces-are l history deliveries p truth slow
