use Rattle.std.proofs.Common.{◌≡◌, ◌∙◌, List, Some, IfSome, ap, subst, slice_get}
use Rattle.script_tables.specs.declared.rows.SubRow.{SubRow}
use Rattle.script_tables.specs.Tables.{TablesState}
use Rattle.script_tables.proofs.tables.ScriptTables.place_of.Goals as goal

pub returns-clause-here : goal.returns-clause-here
returns-clause-here c = λ row.
    subst (λ (xs : List SubRow). IfSome c.place_of.result (λ p. slice_get xs p ≡ Some row → row.id ≡ c.args.id))
    (c.deref.ensures.value ∙ ap (λ (s : TablesState). s.subs) c.self.view_is) (c.place_of.ensures.here row)
