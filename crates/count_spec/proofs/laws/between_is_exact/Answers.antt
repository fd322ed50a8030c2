use Rattle.count_spec.proofs.Gaps.{has-between, distinct-between}
use Rattle.count_spec.proofs.laws.between_is_exact.Goals as goal

pub returns-clause-members : goal.returns-clause-members
returns-clause-members c = λ low high n order. has-between low high n order

pub returns-clause-each_once : goal.returns-clause-each_once
returns-clause-each_once c = λ low high. distinct-between low high
