use Rattle.sflow_tool.specs.Checks.{check_act}
use Rattle.sflow_tool.proofs.Rows.{check_does}
use Rattle.sflow_tool.proofs.check.check.Goals as goal

pub returns : goal.returns
returns g c = c.visit_capture.ensures (check_act c.args.pad) (check_does c.args.pad)
