use Rattle.std.proofs.Common.{◌∙◌, ap, ◌≤◌}
use Rattle.count_spec.specs.Windows.{counted}
use Rattle.late_window.specs.States.{pending_count}
use Rattle.late_window.proofs.Figures.{pending-kept, pending-shown, pending-few}
use Rattle.late_window.proofs.window.Window.pending.Goals as goal

pub returns-clause-value : goal.returns-clause-value
returns-clause-value c = pending-kept c.self.inside c.self.invariant ∙ ap pending_count c.self.view_is

pub returns-clause-part : goal.returns-clause-part
returns-clause-part c = λ marks st.
    let one : 1 ≤ c.args.self.now.width = rw (← c.self.view_is) c.self.invariant.width_from in
    pending-kept c.self.inside c.self.invariant ∙ ap pending_count c.self.view_is
    ∙ pending-shown c.args.self.now (counted c.args.self.now.width marks) st.shows one

pub returns-clause-few : goal.returns-clause-few
returns-clause-few c = rw (← c.self.view_is) (pending-few c.self.inside c.self.invariant)
