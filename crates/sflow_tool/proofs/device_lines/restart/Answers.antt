use Rattle.std.proofs.Common.{refl}
use Rattle.sflow_tool.specs.ScriptBoots.{boot_now}
use Rattle.sflow_tool.proofs.DeviceLines.{restarted, stands_at}
use Rattle.sflow_tool.proofs.device_lines.restart.Goals as goal

pub returns : goal.returns
returns c = λ lines id at now lawful h s.
    let x = stands_at c.args.device.now lines id c.args.place now h s in
    let done = restarted c.args.device.now c.restart.new.self lines id at c.args.place x lawful h
    (c.restart.ensures x.state (boot_now lines x.sub) x.state_there x.stands) in
    (done.0, (done.1, refl))
