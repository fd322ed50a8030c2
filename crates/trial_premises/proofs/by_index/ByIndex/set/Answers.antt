use Rattle.std.proofs.Common.{Some}
use Rattle.trial_premises.proofs.Slots.{kept-set}
use Rattle.trial_premises.proofs.by_index.ByIndex.set.Goals as goal

pub returns-clause-values : goal.returns-clause-values
returns-clause-values g c =
    kept-set c.args.self.now.slots.items c.args.index (Some c.args.value) c.requires
