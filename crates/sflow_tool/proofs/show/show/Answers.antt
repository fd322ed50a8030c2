use Rattle.sflow_tool.specs.Shows.{show_act}
use Rattle.sflow_tool.proofs.Rows.{show_does}
use Rattle.sflow_tool.proofs.show.show.Goals as goal

pub returns : goal.returns
returns g c = c.visit_capture.ensures show_act show_does
