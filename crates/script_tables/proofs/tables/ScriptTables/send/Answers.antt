use Rattle.std.proofs.Common.{◌∙◌, ◌∷◌, sym, subst}
use Rattle.std.proofs.lemmas.Bool.{true≢false}
use Rattle.script_spec.specs.Lines.{SendLine}
use Rattle.script_tables.specs.Tables.{TablesState, Tells}
use Rattle.script_tables.proofs.Follows.{send_follows}
use Rattle.script_tables.proofs.GoesOn.{send_goes_on}
use Rattle.script_tables.proofs.SetRows.{found_id}
use Rattle.script_tables.proofs.tables.ScriptTables.send.Goals as goal

pub returns-in-Some : goal.returns-in-Some
returns-in-Some c = λ lines now lawful counts tells.
    let e = c.send_at.ensures in
    subst (λ (t : TablesState). Tells t (SendLine c.args.id now ∷ lines)) (sym e.1)
    (send_goes_on c.args.self.now lines tells c.args.id now c.args.sent e.0 c.in-Some.place e.2.count lawful counts e.2.there
    (found_id c.args.id c.args.self.now.subs c.in-Some.place e.2.count e.2.there c.in-Some.ensures.here) e.2.made)

pub returns-in-None : goal.returns-in-None
returns-in-None c = λ lines now lawful counts tells.
    absurd (true≢false (sym lawful.1 ∙ sym (send_follows c.args.self.now lines tells c.args.id now) ∙ c.in-None.ensures.none))
