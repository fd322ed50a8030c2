use Rattle.sflow_tool.proofs.CanonLaws.{canonical_datagram, canonical_other, canonical_length}
use Rattle.sflow_tool.proofs.laws.canonical_bytes_are_exact.Goals as goal

pub returns-clause-datagram : goal.returns-clause-datagram
returns-clause-datagram c = canonical_datagram

pub returns-clause-other : goal.returns-clause-other
returns-clause-other c = canonical_other

pub returns-clause-length : goal.returns-clause-length
returns-clause-length c = canonical_length
