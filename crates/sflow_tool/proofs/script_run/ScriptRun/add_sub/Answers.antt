use Rattle.std.proofs.Common.{refl}
use Rattle.data_format.specs.Addresses.{address_of}
use Rattle.script_spec.specs.Lines.{SubAgent, SubLine}
use Rattle.script_meter.proofs.MeterLines.{sub_counts}
use Rattle.sub_agents.proofs.Homes.{on-ok}
use Rattle.sflow_tool.proofs.RunLines.{set_up_line}
use Rattle.sflow_tool.proofs.script_run.ScriptRun.add_sub.Goals as goal

pub returns : goal.returns
returns c =
    let s : SubAgent = record {
      id = c.args.id;
      address = address_of c.args.address;
      first = c.args.first;
      at = c.args.at;
      stage = c.args.stage;
    } in
    on-ok c.add_sub-2.result (λ made. λ lines lawful h.
    set_up_line c.args.self.now (SubLine s) lines c.add_sub.new.self c.add_sub-2.new.self c.args.self.now.meter lawful refl h
    (c.in_ok-add_sub.ensures.added lines s lawful refl refl h.tables)
    (sub_counts c.args.self.now.meter lines h.counts s)
    (λ up. made lines s lawful refl refl refl refl up)) c.add_sub-2.ensures
