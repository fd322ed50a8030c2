use Rattle.std.proofs.Common.{◌∷◌, List, refl, subst, sym}
use Rattle.script_spec.specs.Lines.{CounterLine}
use Rattle.script_laws.proofs.Happens.{in_order}
use Rattle.script_meter.specs.declared.meter.CountedRow.{CountedRow}
use Rattle.script_meter.specs.Tallies.{Counts}
use Rattle.script_meter.proofs.MeterLines.{counter_counts}
use Rattle.script_tables.specs.Said.{counter_said}
use Rattle.sub_agents.proofs.Homes.{on-ok}
use Rattle.sflow_tool.proofs.RunLines.{set_up_line}
use Rattle.sflow_tool.proofs.script_run.ScriptRun.add_counter.Goals as goal

pub returns : goal.returns
returns c =
    on-ok c.add_counter.result (λ made. λ lines lawful h.
    set_up_line c.args.self.now (CounterLine c.args.id (counter_said c.args.counter)) lines c.add_source.new.self c.add_counter.new.self
    c.add_source-2.new.self lawful refl h
    (c.in_ok-add_source.ensures.counter lines (counter_said c.args.counter) lawful refl h.tables)
    (subst (λ (rows : List CountedRow). Counts rows (CounterLine c.args.id (counter_said c.args.counter) ∷ lines)) (sym c.in_ok-add_source-2.ensures)
    (counter_counts c.args.self.now.meter lines h.counts c.args.id c.args.counter.source (counter_said c.args.counter)
    (in_order (CounterLine c.args.id (counter_said c.args.counter)) lines lawful.1 refl) refl))
    (λ up. made lines lawful up)) c.add_counter.ensures
