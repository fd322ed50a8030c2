use Rattle.std.proofs.Common.{ap₂, ◌∙◌, ◌++◌, ◌∷◌, [], arith}
use Rattle.std.proofs.lemmas.List.{length-set}
use Rattle.header_lanes.specs.Slots.{owed}
use Rattle.header_lanes.proofs.Slots.{one_more}
use Rattle.header_lanes.proofs.Held.{owed_is}
use Rattle.header_lanes.proofs.batch.Batch.push.Goals as goal

pub invariant_of-self : goal.invariant_of-self
invariant_of-self c = (
  omega (arith, c.self.invariant.0, c.if-self-eq16.false),
  length-set _ _ _ ∙ c.self.invariant.1,
  c.put.ensures c.self.inside.slots _ c.self.invariant.2 c.fill.ensures.head c.fill.ensures.protocol,
)

pub returns-clause-taken : goal.returns-clause-taken
returns-clause-taken c =
    let b = c.self.inside in
    one_more owed b.slots b.held _ (omega (arith, c.self.invariant.0, c.self.invariant.1, c.if-self-eq16.false))
    ∙ ap₂ (λ xs x. xs ++ x ∷ []) c.self.view_is (owed_is _ _ _ c.fill.ensures.head c.fill.ensures.protocol)
