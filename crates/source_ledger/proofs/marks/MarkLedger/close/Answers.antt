use Rattle.std.proofs.Common.{refl, ◌+◌}
use Rattle.source_ledger.specs.Marks.{MarksState}
use Rattle.source_ledger.specs.Fields.{marks_state}
use Rattle.source_ledger.proofs.Closing.{stretch-closed}
use Rattle.source_ledger.proofs.marks.MarkLedger.close.Goals as goal

pub returns-clause-stands : goal.returns-clause-stands
returns-clause-stands c =
    let new : MarksState = record {
      width = c.self.inside.width;
      entered = c.self.inside.entered;
      issued = c.self.inside.issued + c.issued.result;
      received = c.self.inside.received + c.received.result;
      lost = c.self.inside.lost + (c.lost.result + c.pending.result);
      repeated = c.self.inside.repeated;
      late = c.self.inside.late;
      window = c.open-self-inside.result;
    } in
    rw (← c.self.view_is) (λ stretches st.
    stretch-closed (marks_state c.self.inside) new stretches c.issued.result c.received.result c.pending.result
    c.lost.result st
    (record {
      issued_is = c.issued.ensures.part;
      received_is = c.received.ensures.part;
      pending_is = c.pending.ensures.part;
      lost_is = c.lost.ensures.part;
    })
    (record {
      width_is = refl;
      entered_is = refl;
      issued_is = refl;
      received_is = refl;
      lost_is = refl;
      repeated_is = refl;
      late_is = refl;
      window_width = c.open-self-inside.ensures.width;
      window_is = c.open-self-inside.ensures.stands;
    }))
