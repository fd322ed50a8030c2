use Rattle.std.proofs.Common.{refl}
use Rattle.sflow_tool.specs.ScriptBoots.{boot_now}
use Rattle.sflow_tool.proofs.DeviceLines.{stands_at}
use Rattle.sflow_tool.proofs.SendLines.{sent}
use Rattle.sflow_tool.proofs.device_lines.send.Goals as goal

pub returns : goal.returns
returns c = λ lines id at lawful h s none.
    let x = stands_at c.args.device.now lines id c.args.place at h s in
    let done = sent c.args.device.now c.send.new.self lines id c.args.uptime c.args.place at c.in_ok-send.field-0 c.args.outlet.now.taken
    c.send.new.outlet.taken s x lawful h refl none
    (c.in_ok-send.ensures.sends x.state (boot_now lines x.sub) x.state_there x.stands) in
    (done.0, λ time. record { boot = done.1.0; happens = done.1.1; bytes_are = done.1.2 }, done.2)
