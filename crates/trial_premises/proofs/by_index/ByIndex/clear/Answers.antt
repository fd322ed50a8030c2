use Rattle.std.proofs.Common.{◌∙◌, arith, None}
use Rattle.std.proofs.Math.ListN.{length-set}
use Rattle.trial_premises.proofs.Slots.{none-more, none-left}
use Rattle.trial_premises.proofs.by_index.ByIndex.clear.Goals as goal

pub loop-index-preserved : goal.loop-index-preserved
loop-index-preserved g c = (
  length-set c.loop-index.self.slots.items c.loop-index.index None ∙ c.loop-index.invariant.0,
  none-more c.loop-index.self.slots.items c.loop-index.index (omega (arith, c.loop-index.invariant.0)) c.loop-index.invariant.1,
)

pub returns-clause-values : goal.returns-clause-values
returns-clause-values g c =
    none-left c.loop-index.self.slots.items
    (λ k h. c.loop-index.invariant.1 k (omega (arith, c.loop-index.invariant.0)))
