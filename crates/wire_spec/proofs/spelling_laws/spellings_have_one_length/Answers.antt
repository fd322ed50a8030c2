use Rattle.wire_spec.proofs.Spellings.{spelled_length}
use Rattle.wire_spec.proofs.spelling_laws.spellings_have_one_length.Goals as goal

pub returns : goal.returns
returns c = spelled_length
