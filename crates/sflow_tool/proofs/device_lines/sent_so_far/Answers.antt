use Rattle.sflow_tool.proofs.SendLines.{has_sent, later_at}
use Rattle.sflow_tool.proofs.device_lines.sent_so_far.Goals as goal

pub returns : goal.returns
returns c = λ lines id now at lawful h s.
    let x = later_at c.args.device.now lines id now c.args.place at h s in
    has_sent c.args.device.now lines id now c.args.place at c.numbered.result lawful s x (c.numbered.ensures x.state x.state_there)
