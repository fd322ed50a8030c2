use Rattle.std.proofs.Common.{refl}
use Rattle.std.proofs.lemmas.Bool.{eq-eqb}
use Rattle.script_spec.specs.Lines.{Delivery, DeliverLine, PollLine}
use Rattle.sflow_tool.proofs.RunLines.{delivered_line, delivered_none}
use Rattle.sflow_tool.proofs.script_run.ScriptRun.deliver.Goals as goal

pub returns-in_default : goal.returns-in_default
returns-in_default c = λ lines lawful h.
    let d : Delivery = record { id = c.args.id; boot = c.args.boot; number = c.args.number; at = c.args.at } in
    delivered_none lines d lawful (c.in_default.ensures.acts lines (PollLine d.id 0) h.tables (eq-eqb d.id d.id refl))

pub returns : goal.returns
returns c = λ lines lawful h.
    let d : Delivery = record { id = c.args.id; boot = c.args.boot; number = c.args.number; at = c.args.at } in
    let done = delivered_line c.args.self.now lines d c.go_on.new.self c.in-Some.sub.place c.in-Some.sub.at lawful h
    (c.go_on.ensures lines (DeliverLine d) refl h.tables) (c.in-Some.ensures.stands lines h.tables) in
    (done.0, (done.1, refl))
