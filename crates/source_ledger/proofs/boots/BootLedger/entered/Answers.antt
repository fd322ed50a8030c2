use Rattle.std.proofs.Common.{refl, ◌∙◌, length}
use Rattle.source_ledger.specs.Boots.{entered_boots}
use Rattle.source_ledger.proofs.Trims.{trim-sum}
use Rattle.source_ledger.proofs.boots.BootLedger.entered.Goals as goal

pub returns-clause-marks : goal.returns-clause-marks
returns-clause-marks c = rw (← c.self.view_is) (λ boots st.
    c.entered.ensures.marks (entered_boots boots) st.marks_stand ∙ trim-sum length boots refl)
