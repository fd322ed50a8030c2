use Rattle.std.proofs.Common.{◌∷◌, sym, subst}
use Rattle.script_spec.specs.Lines.{MaxLine}
use Rattle.script_tables.specs.Tables.{TablesState, Tells}
use Rattle.script_tables.proofs.GoesOn.{max_goes_on}
use Rattle.script_tables.proofs.tables.ScriptTables.set_max.Goals as goal

pub returns : goal.returns
returns c = λ lines bytes lawful tells.
    subst (λ (s : TablesState). Tells s (MaxLine bytes ∷ lines)) (sym c.mark_max.ensures)
    (max_goes_on c.args.self.now lines tells bytes lawful)
