use Rattle.std.proofs.Common.{rules}
use Rattle.std.proofs.lemmas.List.Edits.{map_over_more}
use Rattle.true_samples.specs.Moves.{flow_anew}
use Rattle.true_samples.proofs.calls.begin_flows.Goals as goal

pub loop-place-preserved : goal.loop-place-preserved
loop-place-preserved c = search (rules, map_over_more (flow_anew 1))
