use Rattle.std.proofs.Common.{◌≡◌, true, List, refl, subst, ap}
use Rattle.script_spec.specs.Lines.{Line}
use Rattle.script_lines.specs.Shown.{shown}
use Rattle.trial_spec.specs.Made.{is_last_of_boot}
use Rattle.made_runs.specs.declared.arrivals.Arrivals.{Arrivals}
use Rattle.made_runs.specs.declared.script.Phase.TheVariants.{Decide, Restart}
use Rattle.made_runs.specs.declared.script.Stage.TheVariants.{Going}
use Rattle.made_runs.specs.Scripts.{ScriptState, Told, Gives, nothing_due, sent_now}
use Rattle.made_runs.proofs.Scripting.{boot_ends, gives_from}
use Rattle.made_runs.proofs.script.MadeScript.boot_line.Goals as goal

pub returns-in-Some : goal.returns-in-Some
returns-in-Some c =
    let d : Arrivals = record { first = c.self.inside.due.first; second = c.self.inside.due.second; held = c.end-self-inside.result } in
    let s1 : ScriptState = record { seed = c.self.inside.seed; total = c.self.inside.total; run = c.end-self-inside.new.self; packets = c.self.inside.packets; decided = c.self.inside.decided; due = d; stage = Going Restart } in
    let P : ScriptState → Type 0 = λ s. (lines : List Line) → Told Decide s lines → s.due ≡ nothing_due
    → s.decided ≡ sent_now lines → is_last_of_boot s.total s.packets ≡ true → Gives s c.due_line.new.self lines (shown c.in-Some.line) in
    subst P c.self.view_is (λ lines g none all last.
    gives_from _ s1 c.due_line.new.self lines (shown c.in-Some.line) refl refl
    (c.in-Some.ensures.some Restart lines refl
    (boot_ends _ lines none c.end-self-inside.new.self c.end-self-inside.result d g all last
    (ap (λ (e : Arrivals). record e { held = c.end-self-inside.result }) none) c.end-self-inside.ensures)))

pub returns-in-None : goal.returns-in-None
returns-in-None c =
    let d : Arrivals = record { first = c.self.inside.due.first; second = c.self.inside.due.second; held = c.end-self-inside.result } in
    let s1 : ScriptState = record { seed = c.self.inside.seed; total = c.self.inside.total; run = c.end-self-inside.new.self; packets = c.self.inside.packets; decided = c.self.inside.decided; due = d; stage = Going Restart } in
    let P : ScriptState → Type 0 = λ s. (lines : List Line) → Told Decide s lines → s.due ≡ nothing_due
    → s.decided ≡ sent_now lines → is_last_of_boot s.total s.packets ≡ true
    → Gives s c.restart_line.new.self lines (shown c.restart_line.result) in
    let Q : ScriptState → Type 0 = λ s. (lines : List Line) → Told Restart s lines → s.due ≡ nothing_due
    → Gives s c.restart_line.new.self lines (shown c.restart_line.result) in
    let went : Q s1 = subst Q c.in-None.ensures.none.0 c.restart_line.ensures in
    subst P c.self.view_is (λ lines g none all last.
    gives_from _ s1 c.restart_line.new.self lines (shown c.restart_line.result) refl refl
    (went lines
    (boot_ends _ lines none c.end-self-inside.new.self c.end-self-inside.result d g all last
    (ap (λ (e : Arrivals). record e { held = c.end-self-inside.result }) none) c.end-self-inside.ensures)
    c.in-None.ensures.none.1))
