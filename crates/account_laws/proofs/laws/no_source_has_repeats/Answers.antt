use Rattle.account_laws.proofs.Repeats.{sources-once}
use Rattle.account_laws.proofs.laws.no_source_has_repeats.Goals as goal

pub returns : goal.returns
returns c = λ l history deliveries p. sources-once l history deliveries p
