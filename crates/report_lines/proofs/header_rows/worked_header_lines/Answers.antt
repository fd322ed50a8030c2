use Rattle.std.proofs.Common.{refl}
use Rattle.std.specs.Fmt.{digits}
use Rattle.report_lines.specs.HeaderLines.{class_line}
use Rattle.report_lines.proofs.header_rows.worked_header_lines.Goals as goal

pub returns-clause-seventeen : goal.returns-clause-seventeen
unfolding digits class_line
returns-clause-seventeen c = refl
