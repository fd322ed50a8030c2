use Rattle.std.proofs.Common.{◌≡◌, None, List, subst, sym}
use Rattle.script_spec.specs.Lines.{Line, DeliverLine}
use Rattle.made_runs.specs.declared.script.Phase.{Phase}
use Rattle.made_runs.specs.declared.script.Stage.TheVariants.{Going}
use Rattle.made_runs.specs.declared.arrivals.Arrivals.{Arrivals}
use Rattle.made_runs.specs.Scripts.{ScriptState, Told, Gives, line_of}
use Rattle.made_runs.proofs.Scripting.{due_first, due_held, due_second, one_due}
use Rattle.made_runs.proofs.script.MadeScript.due_line.Goals as goal

pub returns-in-Some-clause-some : goal.returns-in-Some-clause-some
returns-in-Some-clause-some c =
    let d : Arrivals = record { first = None; second = c.self.inside.due.second; held = c.self.inside.due.held } in
    let T : ScriptState = record { seed = c.self.inside.seed; total = c.self.inside.total; run = c.self.inside.run; packets = c.self.inside.packets; decided = c.self.inside.decided; due = d; stage = c.self.inside.stage } in
    let P : ScriptState → Type 0 = λ s. (phase : Phase) (lines : List Line) → s.stage ≡ Going phase → Told phase s lines
    → Gives s T lines (DeliverLine (line_of c.in-Some.arrival)) in
    λ phase lines stage g.
    subst (Gives c.args.self.now T lines) (sym c.deliver_line.ensures.is)
    (subst P c.self.view_is (λ phase lines stage g.
    one_due phase _ d lines c.in-Some.arrival (due_first c.self.inside.due c.in-Some.arrival c.in-Some.is)
    c.deliver_line.ensures.written stage g) phase lines stage g)

pub returns-in-Some-second-clause-some : goal.returns-in-Some-second-clause-some
returns-in-Some-second-clause-some c =
    let d : Arrivals = record { first = c.self.inside.due.first; second = None; held = c.self.inside.due.held } in
    let T : ScriptState = record { seed = c.self.inside.seed; total = c.self.inside.total; run = c.self.inside.run; packets = c.self.inside.packets; decided = c.self.inside.decided; due = d; stage = c.self.inside.stage } in
    let P : ScriptState → Type 0 = λ s. (phase : Phase) (lines : List Line) → s.stage ≡ Going phase → Told phase s lines
    → Gives s T lines (DeliverLine (line_of c.in-Some-second.arrival)) in
    λ phase lines stage g.
    subst (Gives c.args.self.now T lines) (sym c.deliver_line-in-Some-second.ensures.is)
    (subst P c.self.view_is (λ phase lines stage g.
    one_due phase _ d lines c.in-Some-second.arrival
    (due_second c.self.inside.due c.in-Some-second.arrival c.in_default.is c.in-Some-second.is)
    c.deliver_line-in-Some-second.ensures.written stage g) phase lines stage g)

pub returns-in-Some-held-clause-some : goal.returns-in-Some-held-clause-some
returns-in-Some-held-clause-some c =
    let d : Arrivals = record { first = c.self.inside.due.first; second = c.self.inside.due.second; held = None } in
    let T : ScriptState = record { seed = c.self.inside.seed; total = c.self.inside.total; run = c.self.inside.run; packets = c.self.inside.packets; decided = c.self.inside.decided; due = d; stage = c.self.inside.stage } in
    let P : ScriptState → Type 0 = λ s. (phase : Phase) (lines : List Line) → s.stage ≡ Going phase → Told phase s lines
    → Gives s T lines (DeliverLine (line_of c.in-Some-held.arrival)) in
    λ phase lines stage g.
    subst (Gives c.args.self.now T lines) (sym c.deliver_line-in-Some-held.ensures.is)
    (subst P c.self.view_is (λ phase lines stage g.
    one_due phase _ d lines c.in-Some-held.arrival
    (due_held c.self.inside.due c.in-Some-held.arrival c.in_default.is c.in_default-second.is c.in-Some-held.is)
    c.deliver_line-in-Some-held.ensures.written stage g) phase lines stage g)
