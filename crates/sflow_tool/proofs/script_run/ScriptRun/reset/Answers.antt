use Rattle.std.proofs.Common.{refl}
use Rattle.script_spec.specs.Lines.{Line, ResetLine}
use Rattle.script_meter.proofs.MeterLines.{reset_counts}
use Rattle.script_tables.specs.Said.{source_said}
use Rattle.sflow_tool.proofs.RunLines.{device_of, running}
use Rattle.sflow_tool.proofs.script_run.ScriptRun.reset.Goals as goal

pub returns : goal.returns
returns c = λ lines lawful h.
    let line : Line = ResetLine (source_said c.args.flow c.args.source) in
    let made = c.reset-step.ensures lines lawful (device_of c.args.self.now lines c.in-Some.device h c.in-Some.is) in (
      running c.args.self.now.setups _ line lines c.go_on.new.self c.args.self.now.meter c.reset-step.new.device refl lawful refl
          (c.go_on.ensures lines line refl h.tables)
          (reset_counts c.args.self.now.meter lines h.counts (source_said c.args.flow c.args.source))
          made.0,
      made.1,
    )
