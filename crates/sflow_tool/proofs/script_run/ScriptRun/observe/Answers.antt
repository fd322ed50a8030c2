use Rattle.std.proofs.Common.{◌∷◌, List, refl, subst, sym, true}
use Rattle.script_spec.specs.Lines.{Line, PacketLine, place_of}
use Rattle.script_meter.specs.declared.meter.CountedRow.{CountedRow}
use Rattle.script_meter.specs.Tallies.{Counts}
use Rattle.script_meter.proofs.MeterLines.{packet_counts}
use Rattle.script_tables.specs.Said.{source_said}
use Rattle.sub_agents.specs.Packets.{packet_of}
use Rattle.sflow_tool.proofs.RunLines.{device_of, running}
use Rattle.sflow_tool.proofs.script_run.ScriptRun.observe.Goals as goal

pub returns : goal.returns
returns c = λ lines lawful h.
    let line : Line = PacketLine (place_of (source_said true c.args.source)) (packet_of c.args.packet.now) in
    let made = c.observe-step.ensures lines lawful (device_of c.args.self.now lines c.in-Some.device h c.in-Some.is) in (
      running c.args.self.now.setups _ line lines c.go_on.new.self c.count.new.self c.observe-step.new.device refl lawful refl
          (c.go_on.ensures lines line refl h.tables)
          (subst (λ (rows : List CountedRow). Counts rows (line ∷ lines)) (sym c.count.ensures)
          (packet_counts c.args.self.now.meter lines h.counts c.args.source (packet_of c.args.packet.now)))
          made.0,
      made.1,
    )
