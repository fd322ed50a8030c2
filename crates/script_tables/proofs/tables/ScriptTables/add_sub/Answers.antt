use Rattle.std.proofs.Common.{◌∷◌, sym, subst}
use Rattle.script_spec.specs.Lines.{SubLine}
use Rattle.script_tables.specs.Tables.{TablesState, Tells}
use Rattle.script_tables.proofs.GoesOn.{named_goes_on}
use Rattle.script_tables.proofs.SetRows.{on_ok}
use Rattle.script_tables.proofs.tables.ScriptTables.add_sub.Goals as goal

pub returns-clause-added : goal.returns-clause-added
returns-clause-added c = on_ok c.push_sub.result (λ is. λ lines s lawful own at tells.
    subst (λ (t : TablesState). Tells t (SubLine s ∷ lines)) (sym is)
    (named_goes_on c.args.self.now lines tells s c.in_ok-row.row c.args.id c.args.at own at c.in_ok-row.ensures lawful))
    c.push_sub.ensures.added
