use Rattle.std.proofs.Common.{◌≡◌, List, subst}
use Rattle.script_spec.specs.Lines.{Line, SendLine}
use Rattle.made_runs.specs.declared.script.Phase.TheVariants.{Send, Decide}
use Rattle.made_runs.specs.declared.script.Stage.TheVariants.{Going}
use Rattle.made_runs.specs.Scripts.{ScriptState, Told, Gives, nothing_due}
use Rattle.made_runs.proofs.Scripting.{send_gives}
use Rattle.made_runs.proofs.script.MadeScript.send_line.Goals as goal

pub returns : goal.returns
returns c =
    let P : ScriptState → Type 0 = λ s. (lines : List Line) → Told Send s lines → s.due ≡ nothing_due
    → Gives s (record { seed = c.self.inside.seed; total = c.self.inside.total; run = c.self.inside.run; packets = c.self.inside.packets; decided = c.self.inside.decided; due = c.self.inside.due; stage = Going Decide }) lines (SendLine 1 c.uptime.result) in
    subst P c.self.view_is (λ lines g none. send_gives _ lines none c.uptime.result g c.uptime.ensures)
