use Rattle.wire_spec.proofs.OneHead.{one_head}
use Rattle.wire_spec.proofs.grammar_laws.one_head_of_a_datagram.Goals as goal

pub returns : goal.returns
returns c = one_head
