use Rattle.std.proofs.Common.{refl}
use Rattle.std.specs.Fmt.{digits}
use Rattle.count_spec.specs.Parts.{between}
use Rattle.report_lines.specs.Lines.{stream_text, flow_text, counters_text, fault_line, total_text}
use Rattle.report_lines.specs.InterfaceLines.{interface_text, report_with}
use Rattle.report_lines.proofs.interface_rows.worked_interfaces.Goals as goal

pub returns : goal.returns
unfolding digits between stream_text flow_text counters_text fault_line total_text interface_text report_with
returns c = record { through_wraps = refl }
