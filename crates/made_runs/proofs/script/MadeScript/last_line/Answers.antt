use Rattle.std.proofs.Common.{◌≡◌, List, refl, subst, ap}
use Rattle.std.specs.Prelude.{IfSome, IfNone}
use Rattle.script_spec.specs.Lines.{Line}
use Rattle.script_lines.specs.Shown.{shown}
use Rattle.made_runs.specs.declared.arrivals.Arrivals.{Arrivals}
use Rattle.made_runs.specs.declared.script.Phase.TheVariants.{Decide, Done}
use Rattle.made_runs.specs.declared.script.Stage.TheVariants.{Going}
use Rattle.made_runs.specs.Scripts.{ScriptState, Told, Gives, IsWhole, nothing_due, sent_now}
use Rattle.made_runs.proofs.Scripting.{gives_from, if_none, if_some, run_ends, whole_so}
use Rattle.made_runs.proofs.script.MadeScript.last_line.Goals as goal

pub returns-clause-some : goal.returns-clause-some
returns-clause-some c =
    let d : Arrivals = record { first = c.self.inside.due.first; second = c.self.inside.due.second; held = c.end-self-inside.result } in
    let s1 : ScriptState = record { seed = c.self.inside.seed; total = c.self.inside.total; run = c.end-self-inside.new.self; packets = c.self.inside.packets; decided = c.self.inside.decided; due = d; stage = Going Done } in
    let P : ScriptState → Type 0 = λ s. IfSome c.due_line.result (λ line. (lines : List Line) → Told Decide s lines
    → s.due ≡ nothing_due → s.decided ≡ sent_now lines → s.packets ≡ s.total → Gives s c.due_line.new.self lines (shown line)) in
    subst P c.self.view_is (if_some c.due_line.result _ _ (λ line h lines g none all last.
    gives_from _ s1 c.due_line.new.self lines (shown line) refl refl
    (h Done lines refl
    (run_ends _ lines none c.end-self-inside.new.self c.end-self-inside.result d g all last
    (ap (λ (e : Arrivals). record e { held = c.end-self-inside.result }) none) c.end-self-inside.ensures)))
    c.due_line.ensures.some)

pub returns-clause-none : goal.returns-clause-none
returns-clause-none c =
    let d : Arrivals = record { first = c.self.inside.due.first; second = c.self.inside.due.second; held = c.end-self-inside.result } in
    let s1 : ScriptState = record { seed = c.self.inside.seed; total = c.self.inside.total; run = c.end-self-inside.new.self; packets = c.self.inside.packets; decided = c.self.inside.decided; due = d; stage = Going Done } in
    let P : ScriptState → Type 0 = λ s. IfNone c.due_line.result ((lines : List Line) → Told Decide s lines
    → s.due ≡ nothing_due → s.decided ≡ sent_now lines → s.packets ≡ s.total → IsWhole s.seed s.total lines) in
    subst P c.self.view_is (if_none c.due_line.result _ _ (λ h lines g none all last.
    whole_so s1 lines h.1
    (run_ends _ lines none c.end-self-inside.new.self c.end-self-inside.result d g all last
    (ap (λ (e : Arrivals). record e { held = c.end-self-inside.result }) none) c.end-self-inside.ensures))
    c.due_line.ensures.none)
