use Rattle.wire_spec.proofs.Spellings.{one_spelling}
use Rattle.wire_spec.proofs.spelling_laws.one_spelling_with_zero_padding.Goals as goal

pub returns : goal.returns
returns c = one_spelling
