use Rattle.wire_spec.proofs.OneReading.{one_whole}
use Rattle.wire_spec.proofs.grammar_laws.one_reading_of_a_whole.Goals as goal

pub returns : goal.returns
returns c = one_whole
