use Rattle.script_laws.proofs.Lining.{line_said, line_read}
use Rattle.script_laws.proofs.laws.lines_are_written.Goals as goal

pub returns : goal.returns
returns c = λ text line. (line_said text line, line_read text line)
