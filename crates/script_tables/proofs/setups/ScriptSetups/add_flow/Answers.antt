use Rattle.std.proofs.Common.{◌∷◌, sym, subst}
use Rattle.script_spec.specs.Lines.{FlowLine}
use Rattle.script_tables.specs.Said.{SetupsState, SetsUp, flow_said}
use Rattle.script_tables.proofs.Grow.{flow_up, found_name, unnamed_flow}
use Rattle.script_tables.proofs.SetRows.{on_ok}
use Rattle.script_tables.proofs.setups.ScriptSetups.add_flow.Goals as goal

pub returns-in-Some : goal.returns-in-Some
returns-in-Some c = on_ok c.add_flow_to.result (λ e. λ lines lawful tells.
    subst (λ (t : SetupsState). SetsUp t (FlowLine c.args.id (flow_said c.args.flow) ∷ lines)) (sym e.1)
    (flow_up c.args.self.now lines tells c.args.id (flow_said c.args.flow) e.0 c.in-Some.place e.2.said lawful e.2.there
    (found_name c.args.id c.args.self.now.setups c.in-Some.place e.2.said e.2.there c.in-Some.ensures.here) e.2.made))
    c.add_flow_to.ensures

pub returns-in-None : goal.returns-in-None
returns-in-None c = λ lines lawful tells. absurd (unnamed_flow c.args.self.now lines tells c.args.id _ lawful c.in-None.ensures.none)
