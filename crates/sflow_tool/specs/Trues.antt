-- What the sub-agents of a script truly counted. Every list of lines, boots and events has the LATEST FIRST; sub-agents
-- stand in the order of their lines.
use Rattle.std.specs.Prelude.{ℕ, ◌≡◌, List, [], ◌∷◌, map, reverse, slice_get, Some}
use Rattle.agent_spec.specs.Samples.{Datagram}
use Rattle.agent_spec.specs.Events.{Event}
use Rattle.script_spec.specs.Lines.{Line, SubAgent}
use Rattle.script_spec.specs.Agents.{AgentBoot, boots_of, delivered, sender_of, setup_of, subs_in}
use Rattle.script_spec.specs.Sent.{datagrams_sent, packets_dropped, samples_issued}
use Rattle.sub_agents.specs.SubAgents.{BootSoFar}
use Rattle.true_samples.specs.declared.sub_agent.Totals.{Totals}
use Rattle.true_samples.specs.Samples.{IsSent}
use Rattle.true_samples.specs.States.{SentState, TrueState}
use Rattle.true_samples.specs.Standing as true_ones
use Rattle.sflow_tool.specs.ScriptBoots.{boots_now}

abbrev pub events_in : AgentBoot → List Event
events_in b = b.events

-- the events of the boots that ended
abbrev pub events_behind : List AgentBoot → List (List Event)
events_behind [] = []
events_behind (b ∷ earlier) = map events_in earlier

-- for each sub-agent the events of the boots that it has behind it
abbrev pub earlier_now : List Line → List (List (List Event))
earlier_now lines = map (λ (s : SubAgent). events_behind (boots_of lines s)) (reverse (subs_in lines))

-- each stands for the boot of its sub-agent, and for the boots before
abbrev pub StandTrue : List TrueState → List BootSoFar → List (List (List Event)) → Type 0
StandTrue [] [] [] = Unit {0}
StandTrue [] [] (e ∷ earlier) = ⊥
StandTrue [] (b ∷ boots) earlier = ⊥
StandTrue (t ∷ trues) [] earlier = ⊥
StandTrue (t ∷ trues) (b ∷ boots) [] = ⊥
StandTrue (t ∷ trues) (b ∷ boots) (e ∷ earlier) =
    true_ones.StandsFor b.sender b.setup t b.events e × StandTrue trues boots earlier

abbrev pub TrueOf : List TrueState → List Line → Type 0
TrueOf trues lines = StandTrue trues (boots_now lines) (earlier_now lines)

-- what was kept of a datagram is that of the one that is delivered
pub record Finds (lines : List Line) (place boot number at : ℕ) (t : SentState) : Type 0 where
  pub sub : SubAgent
  pub there : slice_get (reverse (subs_in lines)) place ≡ Some sub
  pub datagram : Datagram
  pub is : delivered lines (record { id = sub.id; boot = boot; number = number; at = at }) ≡ Some datagram
  pub sent : IsSent (sender_of lines sub) (setup_of lines sub) t datagram

-- what all sub-agents did in all their boots
pub record HasTotals (t : Totals) (lines : List Line) : Type 0 where
  pub datagrams : t.datagrams ≡ datagrams_sent lines
  pub issued : t.issued ≡ samples_issued lines
  pub dropped : t.dropped ≡ packets_dropped lines
