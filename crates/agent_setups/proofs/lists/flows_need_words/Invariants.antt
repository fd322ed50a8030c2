-- Those so far are small enough: those that are left decide.
use Rattle.std.proofs.Common.{◌≡◌, drop}
use Rattle.agent_setups.specs.Ids.{has_great_index}
use Rattle.agent_setups.specs.Faults.{sampled_ids}
use Rattle.agent_setups.proofs.lists.flows_need_words.Given as goal

abbrev pub invariant-loop-flow : goal.invariant-loop-flow
invariant-loop-flow l = has_great_index (sampled_ids (drop l.flow-index l.flows)) ≡ has_great_index (sampled_ids l.flows)
