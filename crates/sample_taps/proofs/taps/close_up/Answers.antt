use Rattle.std.proofs.Common.{rules}
use Rattle.std.proofs.lemmas.List.Elements.{filter_from_retain}
use Rattle.sample_taps.proofs.taps.close_up.Goals as goal

pub returns-clause-kept : goal.returns-clause-kept
returns-clause-kept g c = filter_from_retain _ _ (λ p x b q r. search rules) _ _ _ c.retain.ensures.filtered
