use Rattle.script_spec.proofs.NextLines.{reads_next}
use Rattle.script_spec.proofs.laws.reading_goes_on.Goals as goal

pub returns : goal.returns
returns c = reads_next
