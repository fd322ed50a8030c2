use Rattle.std.proofs.Common.{◌∷◌, sym, subst}
use Rattle.script_spec.specs.Lines.{MaxLine}
use Rattle.script_tables.specs.Said.{SetupsState, SetsUp}
use Rattle.script_tables.proofs.Grow.{max_up}
use Rattle.script_tables.proofs.setups.ScriptSetups.set_max.Goals as goal

pub returns : goal.returns
returns c = λ lines lawful tells.
    subst (λ (t : SetupsState). SetsUp t (MaxLine c.args.bytes ∷ lines)) (sym c.mark_max.ensures)
    (max_up c.args.self.now lines tells c.args.bytes lawful)
