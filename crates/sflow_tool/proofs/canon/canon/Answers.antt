use Rattle.sflow_tool.specs.Canons.{canon_act}
use Rattle.sflow_tool.proofs.Rows.{canon_does}
use Rattle.sflow_tool.proofs.canon.canon.Goals as goal

pub returns : goal.returns
returns g c = c.visit_capture.ensures (canon_act c.args.to) (canon_does c.args.to)
