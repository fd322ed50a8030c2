use Rattle.std.proofs.Common.{◌∙◌, sym, arith}
use Rattle.trial_premises.proofs.Slots.{kept-get_or, kept-past}
use Rattle.trial_premises.proofs.by_index.ByIndex.get.Goals as goal

pub returns-then-index-len : goal.returns-then-index-len
returns-then-index-len g c =
    c.index.ensures ∙ kept-get_or c.args.self.now.slots.items c.args.index c.index.result.now (omega arith)

pub returns-else-index-len : goal.returns-else-index-len
returns-else-index-len g c = sym (kept-past c.args.self.now.slots.items c.args.index (omega arith))
