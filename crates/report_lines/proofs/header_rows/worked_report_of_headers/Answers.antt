use Rattle.std.proofs.Common.{refl}
use Rattle.std.specs.Fmt.{digits}
use Rattle.report_lines.specs.HeaderLines.{class_line}
use Rattle.report_lines.specs.InterfaceLines.{report_with}
use Rattle.report_lines.specs.Lines.{total_text}
use Rattle.report_lines.proofs.header_rows.worked_report_of_headers.Goals as goal

pub returns : goal.returns
unfolding digits class_line total_text report_with
returns c = refl
