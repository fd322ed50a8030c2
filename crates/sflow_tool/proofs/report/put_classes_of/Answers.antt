use Rattle.std.proofs.Common.{ap}
use Rattle.text_lines.proofs.PageLaws.{prints_same}
use Rattle.report_lines.specs.HeaderLines.{class_text}
use Rattle.sflow_tool.proofs.report.put_classes_of.Goals as goal

pub returns : goal.returns
returns g c = prints_same _ _ _ _ _ _ _ (ap class_text c.classes.ensures) c.put_classes.ensures
