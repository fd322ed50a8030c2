use Rattle.source_ledger.proofs.FlowSteps.{flow-view-is}
use Rattle.source_ledger.proofs.flow.FlowLedger.view.Goals as goal

pub returns-clause-view : goal.returns-clause-view
returns-clause-view c = rw (← c.self.view_is) (λ boots number st.
    flow-view-is c.view.result c.self.inside.numbers.marks.width boots c.self.inside.pool c.self.inside.drops
    c.self.inside.rate (c.view.ensures.view boots number st.numbers_stand) st.pool_is st.drops_are st.rate_is)
