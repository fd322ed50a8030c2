use Rattle.std.proofs.Common.{◌∙◌, subst, sym, ap}
use Rattle.script_lines.specs.Shown.{shown}
use Rattle.made_runs.specs.declared.script.Phase.TheVariants.{Packet}
use Rattle.made_runs.specs.declared.script.Stage.{Stage}
use Rattle.made_runs.specs.declared.script.Stage.TheVariants.{Flow, Counter, Going}
use Rattle.made_runs.specs.Scripts.{ScriptState, Gave, Gives, StandsAt}
use Rattle.made_runs.proofs.Scripting.{counter_gives, flow_gives, if_none, if_some, sub_gives}
use Rattle.made_runs.proofs.script.MadeScript.next.Goals as goal

pub returns-in-Sub-clause-some : goal.returns-in-Sub-clause-some
returns-in-Sub-clause-some c = λ lines g sent.
    let S : ScriptState = record { seed = c.self.inside.seed; total = c.self.inside.total; run = c.self.inside.run; packets = c.self.inside.packets; decided = c.self.inside.decided; due = c.self.inside.due; stage = c.self.inside.stage } in
    let T : ScriptState = record S { stage = Flow } in
    let P : ScriptState → Type 0 = λ s. Gave s lines → Gives s T lines (shown c.sub_line.result) in
    subst P c.self.view_is (λ gave.
    let new = subst (λ (stage : Stage). StandsAt stage S lines) c.in-Sub.is gave in
    subst (Gives S T lines) (sym c.sub_line.ensures) (sub_gives S lines new.0 new.1)) g

pub returns-in_ok-line-in-Flow-clause-some : goal.returns-in_ok-line-in-Flow-clause-some
returns-in_ok-line-in-Flow-clause-some c = λ lines g sent.
    let S : ScriptState = record { seed = c.self.inside.seed; total = c.self.inside.total; run = c.self.inside.run; packets = c.self.inside.packets; decided = c.self.inside.decided; due = c.self.inside.due; stage = c.self.inside.stage } in
    let T : ScriptState = record S { stage = Counter } in
    let P : ScriptState → Type 0 = λ s. Gave s lines → Gives s T lines (shown c.in_ok-line-in-Flow.line) in
    subst P c.self.view_is (λ gave.
    let new = subst (λ (stage : Stage). StandsAt stage S lines) c.in-Flow.is gave in
    subst (Gives S T lines) (sym c.in_ok-line-in-Flow.ensures) (flow_gives S lines new.0 new.1)) g

pub returns-in-Counter-clause-some : goal.returns-in-Counter-clause-some
returns-in-Counter-clause-some c = λ lines g sent.
    let S : ScriptState = record { seed = c.self.inside.seed; total = c.self.inside.total; run = c.self.inside.run; packets = c.self.inside.packets; decided = c.self.inside.decided; due = c.self.inside.due; stage = c.self.inside.stage } in
    let T : ScriptState = record S { stage = Going Packet } in
    let P : ScriptState → Type 0 = λ s. Gave s lines → Gives s T lines (shown c.counter_line.result) in
    subst P c.self.view_is (λ gave.
    let new = subst (λ (stage : Stage). StandsAt stage S lines) c.in-Counter.is gave in
    subst (Gives S T lines) (sym c.counter_line.ensures) (counter_gives S lines new.0 new.1)) g

pub returns-in-Going-clause-none : goal.returns-in-Going-clause-none
returns-in-Going-clause-none c =
    if_none c.go_on.result _ _ (λ h lines g sent.
    h lines
    (subst (λ (stage : Stage). StandsAt stage c.args.self.now lines)
    (sym (ap (λ (s : ScriptState). s.stage) c.self.view_is) ∙ c.in-Going.is) g) sent) c.go_on.ensures.none

pub returns-in-Going-clause-some : goal.returns-in-Going-clause-some
returns-in-Going-clause-some c =
    if_some c.go_on.result _ _ (λ line h lines g sent.
    h lines
    (subst (λ (stage : Stage). StandsAt stage c.args.self.now lines)
    (sym (ap (λ (s : ScriptState). s.stage) c.self.view_is) ∙ c.in-Going.is) g) sent) c.go_on.ensures.some
