-- The samples so far have room in one datagram.
use Rattle.std.proofs.Common.{◌≡◌, ◌≤◌}
use Rattle.sub_agents.specs.SubAgents.{size_with}
use Rattle.sub_agents.proofs.NextSizes.{front}
use Rattle.sub_agents.proofs.sub_agent.SubAgent.next_size.Given as goal

abbrev pub invariant-loop-place : goal.invariant-loop-place
invariant-loop-place l = record {
  size_is : l.size ≡ size_with l.self (front l.self l.place);
  fits : l.size ≤ l.self.max_datagram;
}
