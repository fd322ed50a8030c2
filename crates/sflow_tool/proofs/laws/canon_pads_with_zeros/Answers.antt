use Rattle.sflow_tool.proofs.CanonLaws.{zero_faulty, zero_faulty_count}
use Rattle.sflow_tool.proofs.laws.canon_pads_with_zeros.Goals as goal

pub returns-clause-entry : goal.returns-clause-entry
returns-clause-entry c = zero_faulty

pub returns-clause-all : goal.returns-clause-all
returns-clause-all c = zero_faulty_count
