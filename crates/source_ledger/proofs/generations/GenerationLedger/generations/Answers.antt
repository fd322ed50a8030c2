use Rattle.std.proofs.Common.{◌∙◌}
use Rattle.source_ledger.proofs.GenerationCounts.{generations-sum}
use Rattle.source_ledger.proofs.generations.GenerationLedger.generations.Goals as goal

pub returns-clause-generations : goal.returns-clause-generations
returns-clause-generations c = rw (← c.self.view_is) (λ boots st.
    st.generations_are ∙ generations-sum c.self.inside.marks.width boots)
