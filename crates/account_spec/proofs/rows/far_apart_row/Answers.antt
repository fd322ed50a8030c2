use Rattle.account_spec.proofs.Far.{is-history, are-sent}
use Rattle.account_spec.proofs.rows.far_apart_row.Goals as goal

pub returns-clause-history : goal.returns-clause-history
returns-clause-history c = is-history

pub returns-clause-sent : goal.returns-clause-sent
returns-clause-sent c = are-sent
