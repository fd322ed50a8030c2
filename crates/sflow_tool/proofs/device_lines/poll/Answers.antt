use Rattle.std.proofs.Common.{Ok, Err, refl}
use Rattle.sflow_tool.specs.ScriptBoots.{boot_now}
use Rattle.sflow_tool.proofs.DeviceLines.{room_at, stands_at}
use Rattle.sflow_tool.proofs.PollLines.{polled}
use Rattle.sflow_tool.proofs.device_lines.poll.Goals as goal

pub returns-in-Ok : goal.returns-in-Ok
returns-in-Ok c = λ lines id at lawful h counts s.
    let x = stands_at c.args.device.now lines id c.args.place at h s in
    let done = polled c.args.device.now c.poll.new.self c.args.meter.now c.poll.new.meter lines id c.args.uptime c.args.place x lawful h counts
    (c.sources_are_known.ensures.due x.state (boot_now lines x.sub) c.args.uptime x.stands) (Ok c.in-Ok.count)
    (c.in-Ok.ensures.large x.state x.state_there)
    (c.in-Ok.ensures.polls x.state (boot_now lines x.sub) x.state_there x.stands (room_at c.args.device.now lines id c.args.place x lawful.2)) in
    (done.0, done.1, (done.2, refl))

pub returns-in-Err : goal.returns-in-Err
returns-in-Err c = λ lines id at lawful h counts s.
    let x = stands_at c.args.device.now lines id c.args.place at h s in
    absurd (polled c.args.device.now c.poll.new.self c.args.meter.now c.poll.new.meter lines id c.args.uptime c.args.place x lawful h counts
    (c.sources_are_known.ensures.due x.state (boot_now lines x.sub) c.args.uptime x.stands) (Err c.in-Err.field-0)
    (c.in-Err.ensures.large x.state x.state_there)
    (c.in-Err.ensures.polls x.state (boot_now lines x.sub) x.state_there x.stands (room_at c.args.device.now lines id c.args.place x lawful.2)))
