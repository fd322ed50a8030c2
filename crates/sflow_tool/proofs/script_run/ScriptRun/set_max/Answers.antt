use Rattle.std.proofs.Common.{refl}
use Rattle.script_spec.specs.Lines.{MaxLine}
use Rattle.script_meter.proofs.MeterLines.{max_counts}
use Rattle.sflow_tool.proofs.RunLines.{set_up_line}
use Rattle.sflow_tool.proofs.script_run.ScriptRun.set_max.Goals as goal

pub returns : goal.returns
returns c = λ lines lawful h.
    set_up_line c.args.self.now (MaxLine c.args.bytes) lines c.set_max.new.self c.set_max-2.new.self c.args.self.now.meter lawful refl h
    (c.set_max.ensures lines c.args.bytes lawful h.tables)
    (max_counts c.args.self.now.meter lines h.counts c.args.bytes)
    (λ up. c.set_max-2.ensures lines lawful up)
