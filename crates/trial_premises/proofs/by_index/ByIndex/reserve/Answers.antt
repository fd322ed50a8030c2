use Rattle.std.proofs.Common.{◌∙◌, None, [], ◌∷◌, length, ap, arith, length-append}
use Rattle.trial_premises.specs.ByIndex.{kept}
use Rattle.trial_premises.proofs.Slots.{kept-push}
use Rattle.trial_premises.proofs.by_index.ByIndex.reserve.Goals as goal

pub loop-self-preserved : goal.loop-self-preserved
loop-self-preserved g c =
    let e = c.in_ok-push.ensures.items in
    let long = ap length e ∙ length-append c.loop-self.self.slots.items (None ∷ []) in (
      (λ i. ap (λ s. kept s i) e ∙ kept-push c.loop-self.self.slots.items i ∙ c.loop-self.invariant.0 i),
      omega (arith, long, c.loop-self.invariant.1),
    )
