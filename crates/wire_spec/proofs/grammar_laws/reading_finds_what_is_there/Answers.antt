use Rattle.wire_spec.proofs.OneReading.{whole_good, whole_bad, whole_taken, whole_refused}
use Rattle.wire_spec.proofs.grammar_laws.reading_finds_what_is_there.Goals as goal

pub returns-clause-value : goal.returns-clause-value
returns-clause-value c = whole_taken

pub returns-clause-fault : goal.returns-clause-fault
returns-clause-fault c = whole_refused

pub returns-clause-spelled : goal.returns-clause-spelled
returns-clause-spelled c = whole_good

pub returns-clause-fails : goal.returns-clause-fails
returns-clause-fails c = whole_bad
