-- A script as a history, and what is delivered of it. Every list of lines and of deliveries has the LATEST FIRST; sub-agents
-- stand in the order of their lines, and so do the boots of each.
use Rattle.std.specs.Prelude.{◌≡◌, List, [], ◌∷◌, ◌++◌, map, reverse, Option, Some, option_map, option_and_then}
use Rattle.std.specs.List.{cons_option}
use Rattle.wire_spec.specs.Captures.{Entry}
use Rattle.books_spec.specs.Items.{Stream}
use Rattle.agent_spec.specs.Sources.{Source}
use Rattle.agent_spec.specs.Samples.{Datagram}
use Rattle.agent_spec.specs.Events.{Event}
use Rattle.account_spec.specs.Histories.{SubAgent, flow_sources, counter_sources}
use Rattle.account_spec.specs.Deliveries.{Delivery}
use Rattle.script_spec.specs.Lines as script
use Rattle.script_spec.specs.Lines.{Line, DeliverLine}
use Rattle.script_spec.specs.Agents.{AgentBoot, subs_in, sub_of, sender_of, setup_of, boots_of, delivered}
use Rattle.script_spec.specs.Sent.{delivery_in, delivered_entry, all_delivered}

-- ---- the history

-- the events of each of its boots
abbrev pub events_in : List Line → script.SubAgent → List (List Event)
events_in lines s = map (λ (b : AgentBoot). b.events) (reverse (boots_of lines s))

-- a sub-agent, and what happened to it
abbrev pub agent_in : List Line → script.SubAgent → SubAgent
agent_in lines s = record { sender = sender_of lines s; setup = setup_of lines s; boots = events_in lines s }

-- all of them
abbrev pub history_of : List Line → List SubAgent
history_of lines = map (agent_in lines) (reverse (subs_in lines))

-- a sub-agent before anything happens to it
abbrev pub without_boots : SubAgent → SubAgent
without_boots a = record { sender = a.sender; setup = a.setup; boots = [] }

-- its flow sources, and its counter sources behind them
abbrev pub sources_in_order : SubAgent → List Source
sources_in_order a = flow_sources a.setup ++ counter_sources a.setup

-- ---- the deliveries

abbrev pub stream_of : script.SubAgent → Stream
stream_of s = record { agent = s.address; sub_agent = s.id }

-- a datagram of a sub-agent, as a line says that it arrives
abbrev pub arrival_of : script.Delivery → script.SubAgent → Datagram → Delivery
arrival_of d s x = record { stream = stream_of s; boot = d.boot; datagram = x; arrival = d.at }

-- what is delivered of that which was sent by these lines
abbrev pub delivery_at : List Line → script.Delivery → Option Delivery
delivery_at lines d = option_and_then (λ s. option_map (arrival_of d s) (delivered lines d)) (sub_of d.id lines)

-- what a line delivers
abbrev pub delivered_by : List Line → Line → Option Delivery
delivered_by before line = option_and_then (delivery_at before) (delivery_in line)

-- all that is delivered, each as it stood before its line
abbrev pub deliveries_of : List Line → List Delivery
deliveries_of [] = []
deliveries_of (line ∷ before) = cons_option (delivered_by before line) (deliveries_of before)

-- ---- one delivery more

-- what a further line delivers, and how it arrives
pub record IsOneMore (lines : List Line) (d : script.Delivery) : Type 0 where
  pub delivery : Delivery
  pub entry : Entry
  pub delivery_is : delivery_at lines d ≡ Some delivery
  pub entry_is : delivered_entry lines d ≡ Some entry
  pub deliveries : deliveries_of (DeliverLine d ∷ lines) ≡ delivery ∷ deliveries_of lines
  pub entries : all_delivered (DeliverLine d ∷ lines) ≡ all_delivered lines ++ entry ∷ []
