use Rattle.wire_spec.proofs.Spellings.{lawful_spelled, spelled_lawful}
use Rattle.wire_spec.proofs.spelling_laws.lawful_values_are_spelled.Goals as goal

pub returns-clause-spelled : goal.returns-clause-spelled
returns-clause-spelled c = lawful_spelled

pub returns-clause-lawful : goal.returns-clause-lawful
returns-clause-lawful c = spelled_lawful
