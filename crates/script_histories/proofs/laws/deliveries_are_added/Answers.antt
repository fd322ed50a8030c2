use Rattle.script_histories.proofs.MoreLines.{one_more, other_deliveries, other_entries}
use Rattle.script_histories.proofs.laws.deliveries_are_added.Goals as goal

pub returns-clause-one_more : goal.returns-clause-one_more
returns-clause-one_more c = one_more

pub returns-clause-other_entries : goal.returns-clause-other_entries
returns-clause-other_entries c = λ lines line. other_entries line lines

pub returns-clause-other_deliveries : goal.returns-clause-other_deliveries
returns-clause-other_deliveries c = λ lines line. other_deliveries line lines
