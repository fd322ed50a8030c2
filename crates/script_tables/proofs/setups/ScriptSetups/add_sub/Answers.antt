use Rattle.std.proofs.Common.{◌∷◌, ap, sym, subst}
use Rattle.script_spec.specs.Lines.{SubLine}
use Rattle.script_tables.specs.Said.{SetupsState, SetsUp}
use Rattle.script_tables.proofs.Grow.{sub_up}
use Rattle.script_tables.proofs.SetRows.{on_ok}
use Rattle.script_tables.proofs.setups.ScriptSetups.add_sub.Goals as goal

pub returns : goal.returns
returns c = on_ok c.push_sub.result (λ is. λ lines s lawful is_id is_address is_first is_stage tells.
    subst (λ (t : SetupsState). SetsUp t (SubLine s ∷ lines)) (sym is)
    (sub_up c.args.self.now lines tells s c.new_setup-setup.result _ c.args.id c.args.first c.args.stage _
    (ap (λ (t : SetupsState). t.max) c.self.view_is) is_id is_address is_first
    is_stage c.new_setup-setup.ensures lawful))
    c.push_sub.ensures
