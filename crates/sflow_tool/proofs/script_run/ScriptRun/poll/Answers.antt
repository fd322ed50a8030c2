use Rattle.std.proofs.Common.{◌∷◌, List, refl, subst, sym}
use Rattle.script_spec.specs.Lines.{PollLine}
use Rattle.script_meter.specs.declared.meter.CountedRow.{CountedRow}
use Rattle.script_meter.specs.Tallies.{Counts}
use Rattle.script_meter.proofs.MeterLines.{poll_counts}
use Rattle.sflow_tool.proofs.RunLines.{device_of, running, within}
use Rattle.sflow_tool.proofs.script_run.ScriptRun.poll.Goals as goal

pub poll-step-requires : goal.poll-step-requires
poll-step-requires c =
    within c.args.self.now c.requires.0 c.in-Some-device.device c.args.id c.in-Some.sub.place c.in-Some.sub.at c.requires.1 c.in-Some-device.is
    (c.in-Some.ensures.stands c.requires.0 c.requires.1.tables)

pub returns : goal.returns
returns c = λ lines lawful h.
    let stands = c.in-Some.ensures.stands lines h.tables in
    let polled = c.poll-step.ensures lines c.args.id c.in-Some.sub.at lawful (device_of c.args.self.now lines c.in-Some-device.device h c.in-Some-device.is)
    h.counts stands in (
      running c.args.self.now.setups _ (PollLine c.args.id c.args.uptime) lines c.go_on.new.self c.poll-step.new.meter c.poll-step.new.device refl lawful refl
          (c.go_on.ensures lines (PollLine c.args.id c.args.uptime) refl h.tables)
          (subst (λ (rows : List CountedRow). Counts rows (PollLine c.args.id c.args.uptime ∷ lines)) (sym polled.1)
          (poll_counts c.args.self.now.meter lines h.counts c.args.id c.args.uptime)) polled.0,
      polled.2,
    )
