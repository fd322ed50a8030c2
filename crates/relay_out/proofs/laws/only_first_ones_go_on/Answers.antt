use Rattle.relay_out.proofs.Arrivals.{first_more, others_rest}
use Rattle.relay_out.proofs.laws.only_first_ones_go_on.Goals as goal

pub returns-clause-first : goal.returns-clause-first
returns-clause-first c = first_more

pub returns-clause-others : goal.returns-clause-others
returns-clause-others c = others_rest
