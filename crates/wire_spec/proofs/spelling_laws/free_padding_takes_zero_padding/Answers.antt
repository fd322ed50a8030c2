use Rattle.wire_spec.proofs.Spellings.{spelled_freely}
use Rattle.wire_spec.proofs.spelling_laws.free_padding_takes_zero_padding.Goals as goal

pub returns : goal.returns
returns c = spelled_freely
