use Rattle.std.proofs.Common.{sym}
use Rattle.wire_spec.specs.Spelling.{spell}
use Rattle.wire_spec.proofs.OneReading.{whole_taken}
use Rattle.wire_spec.proofs.Spellings.{lawful_spelled, one_spelling}
use Rattle.wire_spec.proofs.spelling_laws.spelling_and_reading_are_inverse.Goals as goal

pub returns-clause-read_again : goal.returns-clause-read_again
returns-clause-read_again c = λ p s t lawful few. whole_taken p s (spell t) t (few, lawful_spelled p s t lawful)

pub returns-clause-spelled_again : goal.returns-clause-spelled_again
returns-clause-spelled_again c = λ s bytes t h. sym (one_spelling s t bytes h.1)
