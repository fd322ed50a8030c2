use Rattle.std.proofs.Common.{◌∙◌, refl, subst, sym}
use Rattle.sflow_tool.specs.ScriptBoots.{boots_now}
use Rattle.sflow_tool.specs.Steps.{Observes}
use Rattle.sflow_tool.proofs.DeviceLines.{packet_line, observed, observed_none, observed_refused}
use Rattle.sflow_tool.proofs.device_lines.observe.Goals as goal

pub returns-in_default : goal.returns-in_default
returns-in_default c = λ lines lawful h.
    observed_none c.args.device.now c.args.source c.args.packet.now lines lawful h (sym c.home.ensures ∙ c.in_default.is)

pub returns-in-Ok : goal.returns-in-Ok
returns-in-Ok c = λ lines lawful h.
    let x = observed c.observe_at.new.self c.args.source c.args.packet.now c.in-Some.place c.in-Ok.answer lines lawful
    (c.in-Ok.ensures.stands (boots_now lines) h) in
    (x.0, (subst (Observes lines (packet_line c.args.source c.args.packet.now) c.in-Some.place c.args.source) (sym c.seen_as.ensures) x.1, refl))

pub returns-in-Err : goal.returns-in-Err
returns-in-Err c = λ lines lawful h.
    observed_refused c.args.device.now c.args.source c.args.packet.now c.in-Err.field-0 lines lawful h c.in-Err.ensures.refused
