use Rattle.std.proofs.Common.{refl, sym, ap, arith}
use Rattle.std.proofs.lemmas.Bool.{eq-eqb}
use Rattle.agent_outlets.specs.Outlets.{OutletState}
use Rattle.script_spec.specs.Lines.{Line, SendLine}
use Rattle.script_meter.proofs.MeterLines.{send_counts}
use Rattle.sflow_tool.proofs.RunLines.{device_of, few_sent, in_time, ok_of, running, lawful_send, within, within_sent}
use Rattle.sflow_tool.proofs.script_run.ScriptRun.send.Goals as goal

pub send-requires-clause-sub : goal.send-requires-clause-sub
send-requires-clause-sub c =
    within c.args.self.now c.requires.0 c.in-Some-device.device c.args.id c.in-Some.sub.place c.in-Some.sub.at c.requires.1 c.in-Some-device.is
    (c.in-Some.ensures.stands c.requires.0 c.requires.1.tables)

pub send-requires-clause-numbered : goal.send-requires-clause-numbered
send-requires-clause-numbered c = λ state there.
    few_sent c.args.self.now c.requires.0 c.in-Some-device.device c.args.id c.in-Some.sub.place c.in-Some.sub.at state c.requires.1 c.requires.2
    c.in-Some-device.is (c.in-Some.ensures.stands c.requires.0 c.requires.1.tables) there

pub sent_so_far-count-requires : goal.sent_so_far-count-requires
sent_so_far-count-requires c =
    let lines = c.requires.0 in
    let h = c.requires.1 in
    let stands = c.in-Some.ensures.stands lines h.tables in
    let may = c.in-Some.ensures.acts lines (SendLine c.args.id c.args.uptime) h.tables (eq-eqb c.args.id c.args.id refl) in
    let lawful = lawful_send lines c.args.id c.args.uptime c.ranges.id.fits c.ranges.uptime.fits h.lawful may in
    let sent = ok_of c.send.result (sym c.if-is_err.ensures.value) c.send.ensures lines c.args.id c.in-Some.sub.at lawful
    (device_of c.args.self.now lines c.in-Some-device.device h c.in-Some-device.is) stands
    (ap (λ (o : OutletState). o.taken) c.new-datagrams.ensures) in
    within_sent c.send.new.device lines c.args.id c.args.uptime c.in-Some.sub.place c.in-Some.sub.at sent.0 stands

pub overflow_add-at : goal.overflow_add-at
overflow_add-at c =
    let time = in_time c.requires.0 c.args.id c.in-Some.sub.place c.in-Some.sub.at c.args.uptime c.requires.1.lawful
    (c.in-Some.ensures.stands c.requires.0 c.requires.1.tables) c.ranges.uptime.fits in
    omega (arith, time)

pub returns : goal.returns
returns c = λ lines lawful h.
    let line : Line = SendLine c.args.id c.args.uptime in
    let stands = c.in-Some.ensures.stands lines h.tables in
    let sent = ok_of c.send.result (sym c.if-is_err.ensures.value) c.send.ensures lines c.args.id c.in-Some.sub.at lawful
    (device_of c.args.self.now lines c.in-Some-device.device h c.in-Some-device.is) stands
    (ap (λ (o : OutletState). o.taken) c.new-datagrams.ensures) in (
      running c.args.self.now.setups _ line lines c.send-2.new.self c.args.self.now.meter c.send.new.device refl lawful refl
          (c.send-2.ensures lines c.args.uptime lawful (c.sent_so_far-count.ensures lines c.args.id c.args.uptime c.in-Some.sub.at lawful sent.0 stands) h.tables)
          (send_counts c.args.self.now.meter lines h.counts c.args.id c.args.uptime) sent.0,
      (sent.1 _, sent.2),
    )
