use Rattle.std.proofs.Common.{refl}
use Rattle.report_lines.specs.InterfaceLines.{report_with}
use Rattle.report_lines.specs.Reports.{report_text}
use Rattle.report_lines.proofs.interface_rows.without_interfaces_the_report_is_the_same.Goals as goal

pub returns : goal.returns
unfolding report_with report_text
returns c = λ b. refl
