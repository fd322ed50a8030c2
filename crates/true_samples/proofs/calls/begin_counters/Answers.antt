use Rattle.std.proofs.Common.{rules}
use Rattle.std.proofs.lemmas.List.Edits.{map_over_more}
use Rattle.true_samples.specs.Moves.{counter_anew}
use Rattle.true_samples.proofs.calls.begin_counters.Goals as goal

pub loop-place-preserved : goal.loop-place-preserved
loop-place-preserved c = search (rules, map_over_more (counter_anew 1))
