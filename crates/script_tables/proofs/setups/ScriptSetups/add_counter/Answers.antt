use Rattle.std.proofs.Common.{◌∷◌, sym, subst}
use Rattle.script_spec.specs.Lines.{CounterLine}
use Rattle.script_tables.specs.Said.{SetupsState, SetsUp, counter_said}
use Rattle.script_tables.proofs.Grow.{counter_up, found_name, unnamed_counter}
use Rattle.script_tables.proofs.SetRows.{on_ok}
use Rattle.script_tables.proofs.setups.ScriptSetups.add_counter.Goals as goal

pub returns-in-Some : goal.returns-in-Some
returns-in-Some c = on_ok c.add_counter_to.result (λ e. λ lines lawful tells.
    subst (λ (t : SetupsState). SetsUp t (CounterLine c.args.id (counter_said c.args.counter) ∷ lines)) (sym e.1)
    (counter_up c.args.self.now lines tells c.args.id (counter_said c.args.counter) e.0 c.in-Some.place e.2.said lawful e.2.there
    (found_name c.args.id c.args.self.now.setups c.in-Some.place e.2.said e.2.there c.in-Some.ensures.here) e.2.made))
    c.add_counter_to.ensures

pub returns-in-None : goal.returns-in-None
returns-in-None c = λ lines lawful tells. absurd (unnamed_counter c.args.self.now lines tells c.args.id _ lawful c.in-None.ensures.none)
