-- Those so far are others: those that are left decide.
use Rattle.std.proofs.Common.{◌≡◌, drop}
use Rattle.agent_setups.specs.Ids.{is_among}
use Rattle.agent_setups.specs.Faults.{sampled_ids}
use Rattle.agent_setups.proofs.lists.is_sampled.Given as goal

abbrev pub invariant-loop-flow : goal.invariant-loop-flow
invariant-loop-flow l = is_among l.source (sampled_ids (drop l.flow-index l.flows)) ≡ is_among l.source (sampled_ids l.flows)
