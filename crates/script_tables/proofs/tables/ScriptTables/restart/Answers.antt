use Rattle.std.proofs.Common.{◌∙◌, ◌∷◌, sym, subst}
use Rattle.std.proofs.lemmas.Bool.{true≢false}
use Rattle.script_spec.specs.Lines.{RestartLine}
use Rattle.script_tables.specs.Tables.{TablesState, Tells}
use Rattle.script_tables.proofs.Follows.{restart_follows}
use Rattle.script_tables.proofs.GoesOn.{restart_goes_on}
use Rattle.script_tables.proofs.SetRows.{found_id, on_ok}
use Rattle.script_tables.proofs.tables.ScriptTables.restart.Goals as goal

pub returns-in-Some : goal.returns-in-Some
returns-in-Some c = on_ok c.begin_boot.result (λ e. λ lines lawful tells.
    subst (λ (t : TablesState). Tells t (RestartLine c.args.id c.args.at ∷ lines)) (sym e.1)
    (restart_goes_on c.args.self.now lines tells c.args.id c.args.at e.0 c.in-Some.place e.2.count lawful e.2.there
    (found_id c.args.id c.args.self.now.subs c.in-Some.place e.2.count e.2.there c.in-Some.ensures.here) e.2.made))
    c.begin_boot.ensures

pub returns-in-None : goal.returns-in-None
returns-in-None c = λ lines lawful tells.
    absurd (true≢false (sym lawful.1 ∙ sym (restart_follows c.args.self.now lines tells c.args.id c.args.at) ∙ c.in-None.ensures.none))
