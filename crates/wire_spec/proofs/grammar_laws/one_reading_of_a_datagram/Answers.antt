use Rattle.wire_spec.specs.Tables.{datagram}
use Rattle.wire_spec.proofs.OneReading.{one_whole}
use Rattle.wire_spec.proofs.grammar_laws.one_reading_of_a_datagram.Goals as goal

pub returns : goal.returns
returns c = λ p bytes fits. one_whole p datagram bytes fits
