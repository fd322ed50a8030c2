use Rattle.flow_collector.proofs.Readings.{datagram-in-tree}
use Rattle.flow_collector.proofs.laws.datagrams_are_their_values.Goals as goal

pub returns : goal.returns
returns c = λ at d. datagram-in-tree at d
