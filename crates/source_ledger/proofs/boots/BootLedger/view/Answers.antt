use Rattle.std.proofs.Common.{◌<◌, ◌≤◌, ◌∙◌, length, arith}
use Rattle.source_ledger.specs.Fields.{boots_state}
use Rattle.source_ledger.specs.Boots.{entered_boots}
use Rattle.source_ledger.proofs.BootSteps.{same-boot, view-trimmed}
use Rattle.source_ledger.proofs.boots.BootLedger.view.Goals as goal

pub returns-then-boot-self-clause-view : goal.returns-then-boot-self-clause-view
returns-then-boot-self-clause-view c = rw (← c.self.view_is) (λ boots number st.
    let later : c.self.inside.boot < length boots = omega (arith, number, c.if-boot-self.true) in
    c.closed_view.ensures.view (entered_boots boots) st.marks_stand
    ∙ view-trimmed (boots_state c.self.inside) c.self.inside.marks.width boots later st)

pub returns-else-boot-self-clause-view : goal.returns-else-boot-self-clause-view
returns-else-boot-self-clause-view c = rw (← c.self.view_is) (λ boots number st.
    let last : length boots ≤ c.self.inside.boot = omega (arith, number, c.if-boot-self.false) in
    c.view.ensures.view boots (same-boot (boots_state c.self.inside) boots last st))
