use Rattle.std.proofs.Common.{◌∷◌, sym, subst}
use Rattle.script_tables.specs.Tables.{TablesState, Tells}
use Rattle.script_tables.proofs.GoesOn.{quiet_goes_on}
use Rattle.script_tables.proofs.tables.ScriptTables.go_on.Goals as goal

pub returns : goal.returns
returns c = λ lines line quiet tells.
    subst (λ (s : TablesState). Tells s (line ∷ lines)) (sym c.mark_running.ensures)
    (quiet_goes_on c.args.self.now lines tells line quiet)
