-- The fields of a sub-agent, and what each keeps.
use Rattle.std.specs.Prelude.{◌≡◌, ◌≤◌, true, [], ◌∷◌, length}
use Rattle.std.specs.List.{AllByRecursion}
use Rattle.sub_agents.specs.declared.staged.Staged.{Staged}
use Rattle.sub_agents.specs.declared.sub_agent.SubAgent.TheInside.{Inside}
use Rattle.sub_agents.specs.Setups.{IsSourceIn}
use Rattle.sub_agents.specs.Staged.{IsWritable}
use Rattle.sub_agents.specs.Counts.{flow_sources, polled_sources}
use Rattle.agent_setups.specs.Ids.{AreDistinct}
use Rattle.sub_agents.specs.SubAgents.{SubAgentState, staged_fit}

abbrev pub sub_agent_state : Inside → SubAgentState
sub_agent_state s = record {
  agent = s.agent;
  sub_agent = s.sub_agent;
  form = s.form;
  max_datagram = s.max_datagram;
  first = s.first;
  flows = s.flows.items;
  pollers = s.pollers.items;
  stage = s.stage;
  boot = s.boot;
  numbered = s.numbered;
}

-- a staged sample can be written, and fits a datagram alone
abbrev pub IsKept : SubAgentState → Staged → Type 0
IsKept s staged = IsWritable s.form staged × (staged_fit s (staged ∷ []) ≡ true)

-- what each sub-agent keeps
pub record IsSubAgent (s : Inside) : Type 0 where
  pub room_is : length s.room.items ≡ s.max_datagram
  pub least : 64 ≤ s.max_datagram
  pub most : s.max_datagram ≤ 65535
  pub places : 1 ≤ s.stage.capacity
  pub few : s.stage.capacity ≤ 1024
  pub within : length s.stage.items ≤ s.stage.capacity
  pub flow_ids_are : s.flow_ids.items ≡ flow_sources s.flows.items
  pub counter_ids_are : s.counter_ids.items ≡ polled_sources s.pollers.items
  pub flows_distinct : AreDistinct (flow_sources s.flows.items)
  pub pollers_distinct : AreDistinct (polled_sources s.pollers.items)
  pub flows_in_form : AllByRecursion (IsSourceIn s.form) (flow_sources s.flows.items)
  pub pollers_in_form : AllByRecursion (IsSourceIn s.form) (polled_sources s.pollers.items)
  pub kept : AllByRecursion (IsKept (sub_agent_state s)) s.stage.items
