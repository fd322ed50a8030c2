use Rattle.std.proofs.Common.{◌∙◌, refl, sym}
use Rattle.sflow_tool.specs.ScriptBoots.{boots_now}
use Rattle.sflow_tool.proofs.DeviceLines.{reset_done, reset_none}
use Rattle.sflow_tool.proofs.device_lines.reset.Goals as goal

pub returns-in_default : goal.returns-in_default
returns-in_default c = λ lines lawful h.
    reset_none c.args.device.now c.args.flow c.args.source lines lawful h (sym c.home.ensures ∙ c.in_default.is)

pub returns-in-Ok : goal.returns-in-Ok
returns-in-Ok c = λ lines lawful h.
    let x = reset_done c.reset_at.new.self c.args.flow c.args.source c.in-Some.place lines lawful
    (c.in-Ok.ensures.stands (boots_now lines) h) in
    (x.0, (x.1, refl))
