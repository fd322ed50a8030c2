use Rattle.std.proofs.Common.{◌∙◌, ◌≡◌, ◌+◌, refl}
use Rattle.std.proofs.lemmas.Bool.{ne_eqb}
use Rattle.count_spec.specs.Windows.{counted}
use Rattle.late_window.specs.States.{issued_count}
use Rattle.late_window.proofs.Figures.{issued-shown}
use Rattle.late_window.proofs.window.Window.issued.Goals as goal

pub returns-else-self-eq0-clause-part : goal.returns-else-self-eq0-clause-part
returns-else-self-eq0-clause-part c = λ marks st.
    let value : c.self.inside.span + 1 ≡ issued_count c.args.self.now =
    rw (← c.self.view_is, ne_eqb c.self.inside.received 0 c.if-self-eq0.false) refl in
    value ∙ issued-shown c.args.self.now (counted c.args.self.now.width marks) st.shows
