use Rattle.source_ledger.proofs.Closing.{closed-view-is}
use Rattle.source_ledger.proofs.marks.MarkLedger.closed_view.Goals as goal

pub returns-clause-view : goal.returns-clause-view
returns-clause-view c = λ stretches st.
    closed-view-is c.args.self.now.width stretches c.view-view.result (c.view-view.ensures.view stretches st)
