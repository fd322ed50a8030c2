use Rattle.std.proofs.Common.{arith}
use Rattle.source_ledger.proofs.GenerationCounts.{marks-sum}
use Rattle.source_ledger.proofs.generations.GenerationLedger.entered.Goals as goal

pub returns-clause-marks : goal.returns-clause-marks
returns-clause-marks c = rw (← c.self.view_is) (λ boots st.
    let a = c.entered.ensures.marks _ st.marks_stand in
    let b = st.stale_are in
    let all = marks-sum c.self.inside.marks.width boots in
    omega (arith, a, b, all))
