use Rattle.source_ledger.specs.Fields.{marks_state}
use Rattle.source_ledger.proofs.Closing.{view-is}
use Rattle.source_ledger.proofs.marks.MarkLedger.view.Goals as goal

pub returns-clause-view : goal.returns-clause-view
returns-clause-view c = rw (← c.self.view_is) (λ stretches st.
    view-is (marks_state c.self.inside) stretches c.issued.result c.received.result c.pending.result c.lost.result st
    (record {
      issued_is = c.issued.ensures.part;
      received_is = c.received.ensures.part;
      pending_is = c.pending.ensures.part;
      lost_is = c.lost.ensures.part;
    }))
