use Rattle.wire_spec.proofs.Places.{within, whole_within}
use Rattle.wire_spec.proofs.grammar_laws.faults_stand_within_the_bytes.Goals as goal

pub returns-clause-front : goal.returns-clause-front
returns-clause-front c = within

pub returns-clause-whole : goal.returns-clause-whole
returns-clause-whole c = whole_within
