use Rattle.std.proofs.Common.{refl}
use Rattle.script_spec.specs.Lines.{FlowLine}
use Rattle.script_meter.proofs.MeterLines.{flow_counts}
use Rattle.script_tables.specs.Said.{flow_said}
use Rattle.sub_agents.proofs.Homes.{on-ok}
use Rattle.sflow_tool.proofs.RunLines.{set_up_line}
use Rattle.sflow_tool.proofs.script_run.ScriptRun.add_flow.Goals as goal

pub returns : goal.returns
returns c =
    on-ok c.add_flow.result (λ made. λ lines lawful h.
    set_up_line c.args.self.now (FlowLine c.args.id (flow_said c.args.flow)) lines c.add_source.new.self c.add_flow.new.self c.args.self.now.meter lawful refl h
    (c.in_ok-add_source.ensures.flow lines (flow_said c.args.flow) lawful refl h.tables)
    (flow_counts c.args.self.now.meter lines h.counts c.args.id (flow_said c.args.flow))
    (λ up. made lines lawful up)) c.add_flow.ensures
