-- What a line of a script makes its device do. Every list of lines and events has the LATEST FIRST; sub-agents and boots so
-- far stand in the order of their lines.
use Rattle.std.specs.Prelude.{ℕ, ◌≡◌, Bool, true, List, [], ◌∷◌, ◌++◌, length, map, reverse, set, slice_get, None, Some}
use Rattle.wire_spec.specs.Captures.{Entry}
use Rattle.wire_spec.specs.Shapes.{Tree}
use Rattle.data_format.specs.declared.source.SourceId.{SourceId}
use Rattle.agent_spec.specs.Sources.{FlowSetup}
use Rattle.agent_spec.specs.Samples.{Packet}
use Rattle.agent_spec.specs.Events.{Event, Observe, Poll, Reset, Send}
use Rattle.agent_spec.specs.Boots.{IsAmong}
use Rattle.agent_spec.specs.Spelled.{sent_bytes}
use Rattle.agent_outlets.specs.Outlets.{PutView}
use Rattle.script_spec.specs.Lines.{Line, DeliverLine, SubAgent}
use Rattle.script_spec.specs.Agents.{subs_in}
use Rattle.script_spec.specs.Rules.{sets_up}
use Rattle.script_spec.specs.Sent.{delivery_in, sent_by}
use Rattle.sub_agents.specs.declared.packet.Seen as device_seen
use Rattle.sub_agents.specs.declared.packet.Seen.TheVariants as device_answers
use Rattle.sub_agents.specs.SubAgents.{BootSoFar, next_boot, so_far, with_event}
use Rattle.account_spec.specs.Histories.{counter_sources, flow_sources}
use Rattle.true_samples.specs.declared.calls.Seen.{Seen}
use Rattle.true_samples.specs.declared.calls.Seen.TheVariants as answers
use Rattle.true_samples.specs.Counts.{id_in, seen_of, source_as}
use Rattle.true_samples.specs.Sends.{leaving}
use Rattle.sflow_tool.specs.ScriptBoots.{boots_now, put_entry}
use Rattle.sflow_tool.specs.Trues.{earlier_now}
use Rattle.sflow_tool.specs.declared.script_run.Sent.{Sent}
use Rattle.sflow_tool.specs.declared.step.Step.{Step}
use Rattle.sflow_tool.specs.declared.step.Step.TheVariants as step

-- what came of a packet, without the word of its sample
abbrev pub seen_as : device_seen.Seen → Seen
seen_as device_answers.Passed = answers.Passed
seen_as (device_answers.Issued word) = answers.Issued
seen_as device_answers.Dropped = answers.Dropped

-- the sub-agent at a place, which was in this boot, goes on by this event, and no other does
pub record HappensAt (lines : List Line) (line : Line) (place : ℕ) (b : BootSoFar) (event : Event) : Type 0 where
  pub there : slice_get (boots_now lines) place ≡ Some b
  pub boots : boots_now (line ∷ lines) ≡ set (boots_now lines) place (with_event event b)
  pub earlier : earlier_now (line ∷ lines) ≡ earlier_now lines
  pub delivers_none : delivery_in line ≡ None

pub record Observes (lines : List Line) (line : Line) (place : ℕ) (source : SourceId) (seen : Seen) : Type 0 where
  pub boot : BootSoFar
  pub flow : FlowSetup
  pub packet : Packet
  pub happens : HappensAt lines line place boot (Observe flow packet)
  pub among : IsAmong flow boot.setup.flows
  pub source_is : id_in flow.source ≡ source
  pub seen_is : seen ≡ seen_of boot.setup flow boot.events

pub record PollsAt (lines : List Line) (line : Line) (place now count : ℕ) : Type 0 where
  pub boot : BootSoFar
  pub readings : List Tree
  pub happens : HappensAt lines line place boot (Poll now readings)
  pub count_is : length readings ≡ count

abbrev pub bytes_put : PutView → List ℕ
bytes_put p = p.bytes

-- all that was staged left in datagrams of these bytes
pub record SendsAt (lines : List Line) (line : Line) (place now : ℕ) (sent : Sent) : Type 0 where
  pub boot : BootSoFar
  pub happens : HappensAt lines line place boot (Send now (length sent.datagrams.taken))
  pub bytes_are : map bytes_put sent.datagrams.taken ≡ map (sent_bytes boot.sender) (leaving boot.setup now (so_far boot))

pub record ResetsAt (lines : List Line) (line : Line) (place : ℕ) (is_flow : Bool) (source : SourceId) : Type 0 where
  pub boot : BootSoFar
  pub happens : HappensAt lines line place boot (Reset (source_as is_flow source))
  pub among : IsAmong (source_as is_flow source) (flow_sources boot.setup ++ counter_sources boot.setup)

-- the boot at a place ends, and the next one begins
pub record RestartsAt (lines : List Line) (line : Line) (place : ℕ) : Type 0 where
  pub boot : BootSoFar
  pub behind : List (List Event)
  pub there : slice_get (boots_now lines) place ≡ Some boot
  pub behind_is : slice_get (earlier_now lines) place ≡ Some behind
  pub boots : boots_now (line ∷ lines) ≡ set (boots_now lines) place (next_boot boot)
  pub earlier : earlier_now (line ∷ lines) ≡ set (earlier_now lines) place (boot.events ∷ behind)
  pub delivers_none : delivery_in line ≡ None

-- nothing happens to the sub-agents
pub record ArrivesFrom (lines : List Line) (line : Line) (place boot number at : ℕ) : Type 0 where
  pub sub : SubAgent
  pub there : slice_get (reverse (subs_in lines)) place ≡ Some sub
  pub line_is : line ≡ DeliverLine (record { id = sub.id; boot = boot; number = number; at = at })
  pub boots : boots_now (line ∷ lines) ≡ boots_now lines
  pub earlier : earlier_now (line ∷ lines) ≡ earlier_now lines

abbrev pub IsStep : List Line → Line → Step → Type 0
IsStep lines line step.SetUp = sets_up line ≡ true
IsStep lines line (step.Observed place source seen) = Observes lines line place source seen
IsStep lines line (step.Polled place now count) = PollsAt lines line place now count
IsStep lines line (step.Sent place now sent) = SendsAt lines line place now sent
IsStep lines line (step.Restarted place) = RestartsAt lines line place
IsStep lines line (step.Reset place is_flow source) = ResetsAt lines line place is_flow source
IsStep lines line (step.Delivered place boot number at) = ArrivesFrom lines line place boot number at

-- the datagrams that were sent, as they arrive
abbrev pub entries_of : Step → List Entry
entries_of (step.Sent place now sent) = map (put_entry sent.at) sent.datagrams.taken
entries_of other = []

-- it is what the line makes the device do, and what it sends is what the line sends
abbrev pub Makes : List Line → Line → Step → Type 0
Makes lines line step = IsStep lines line step × (entries_of step ≡ sent_by lines line)
