use Rattle.std.proofs.Common.{◌∷◌, List, refl, subst, sym}
use Rattle.script_spec.specs.Lines.{Line, RestartLine}
use Rattle.script_meter.specs.declared.meter.CountedRow.{CountedRow}
use Rattle.script_meter.specs.Tallies.{Counts}
use Rattle.script_meter.proofs.MeterLines.{restart_counts}
use Rattle.sflow_tool.proofs.RunLines.{device_of, few_boots, running, within}
use Rattle.sflow_tool.proofs.script_run.ScriptRun.restart.Goals as goal

pub restart-step-requires-clause-sub : goal.restart-step-requires-clause-sub
restart-step-requires-clause-sub c =
    within c.args.self.now c.requires.0 c.in-Some-device.device c.args.id c.in-Some.sub.place c.in-Some.sub.at c.requires.1 c.in-Some-device.is
    (c.in-Some.ensures.stands c.requires.0 c.requires.1.tables)

pub restart-step-requires-clause-boot : goal.restart-step-requires-clause-boot
restart-step-requires-clause-boot c = λ state there.
    few_boots c.args.self.now c.requires.0 c.in-Some-device.device c.args.id c.in-Some.sub.place c.in-Some.sub.at state c.requires.1 c.requires.2
    c.in-Some-device.is (c.in-Some.ensures.stands c.requires.0 c.requires.1.tables) there

pub returns : goal.returns
returns c = λ lines lawful h.
    let line : Line = RestartLine c.args.id c.args.at in
    let made = c.restart-step.ensures lines c.args.id c.args.at c.in-Some.sub.at lawful
    (device_of c.args.self.now lines c.in-Some-device.device h c.in-Some-device.is) (c.in-Some.ensures.stands lines h.tables) in (
      running c.args.self.now.setups _ line lines c.restart-2.new.self c.restart.new.self c.restart-step.new.device refl lawful refl
          (c.in_ok-restart.ensures lines lawful h.tables)
          (subst (λ (rows : List CountedRow). Counts rows (line ∷ lines)) (sym c.restart.ensures)
          (restart_counts c.args.self.now.meter lines h.counts c.args.id c.args.at))
          made.0,
      made.1,
    )
