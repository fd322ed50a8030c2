use Rattle.std.proofs.Common.{◌≡◌, List, subst}
use Rattle.script_spec.specs.Lines.{Line, RestartLine}
use Rattle.made_runs.specs.declared.script.Phase.TheVariants.{Packet, Restart}
use Rattle.made_runs.specs.declared.script.Stage.TheVariants.{Going}
use Rattle.made_runs.specs.Scripts.{ScriptState, Told, Gives, nothing_due}
use Rattle.made_runs.proofs.Scripting.{restart_gives}
use Rattle.made_runs.proofs.script.MadeScript.restart_line.Goals as goal

pub returns : goal.returns
returns c =
    let P : ScriptState → Type 0 = λ s. (lines : List Line) → Told Restart s lines → s.due ≡ nothing_due
    → Gives s (record { seed = c.self.inside.seed; total = c.self.inside.total; run = c.begin_boot.new.self; packets = c.self.inside.packets; decided = 0; due = c.self.inside.due; stage = Going Packet }) lines (RestartLine 1 c.base.result) in
    subst P c.self.view_is (λ lines g none. restart_gives _ lines none _ c.base.result g c.base.ensures c.begin_boot.ensures)
