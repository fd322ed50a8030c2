-- A made run that is tried: nothing is read, and what is delivered of the run goes to a collector as it arrives. Behind the
-- report stand what its sub-agent did in all and whether the premises hold. Every list of events and deliveries has the
-- LATEST FIRST; entries stand in their order.
use Rattle.std.specs.Prelude.{◌≡◌, ℕ, Bool, List, ◌++◌, length, map, reverse}
use Rattle.std.specs.List.{sum_by}
use Rattle.books_spec.specs.declared.limits.Limits.{Limits}
use Rattle.capture_spec.specs.Items.{Received}
use Rattle.agent_spec.specs.Events.{Event}
use Rattle.agent_spec.specs.Boots.{Boot, happened}
use Rattle.account_spec.specs.Histories.{SubAgent}
use Rattle.account_spec.specs.Deliveries.{Delivery, entry_of}
use Rattle.trial_spec.specs.Made.{made_deliveries, made_history}
use Rattle.trial_spec.specs.PremiseTests.{apparent, close, roomy, visible}
use Rattle.report_lines.specs.HeaderLines.{ShownTaps}
use Rattle.report_lines.specs.TrialLines.{agent_text, premises_text}
use Rattle.report_lines.specs.declared.trial_lines.TrialPremises.{TrialPremises}
use Rattle.command_runs.specs.declared.status.Status.{Status}
use Rattle.command_runs.specs.declared.status.Status.TheVariants.{Done, Memory, WriteFault}
use Rattle.command_runs.specs.Endings.{Flushed}
use Rattle.sflow_tool.specs.Collects.{received_of}
use Rattle.sflow_tool.specs.Replays.{report_of}
use Rattle.sflow_tool.specs.Surroundings.{Surroundings}

-- ---- of a history and what is delivered of it

-- what arrives, as a collector takes it
abbrev pub received_from : List SubAgent → List Delivery → List Received
received_from history deliveries = received_of (reverse (map (entry_of history) deliveries))

-- how often this comes in all boots of a sub-agent, and of all sub-agents
abbrev pub counted_by : (Boot → ℕ) → SubAgent → ℕ
counted_by count a = sum_by (λ (events : List Event). count (happened a.setup events)) a.boots

abbrev pub counted_in : (Boot → ℕ) → List SubAgent → ℕ
counted_in count history = sum_by (counted_by count) history

abbrev pub premises_in : Limits → List SubAgent → List Delivery → TrialPremises
premises_in l history deliveries = record {
  visible = visible l history deliveries;
  close = close l history deliveries;
  roomy = roomy l deliveries;
  apparent = apparent l history deliveries;
}

-- how many datagrams were sent, samples issued and packets dropped, and which premises hold
abbrev pub tail_from : Limits → List SubAgent → List Delivery → List ℕ
tail_from l history deliveries =
    agent_text (counted_in (λ (b : Boot). length b.sent) history) (counted_in (λ (b : Boot). length b.issued) history)
    (counted_in (λ (b : Boot). length b.dropped) history)
    ++ premises_text (premises_in l history deliveries)

-- what is written, where the consumers show this
abbrev pub text_from : Limits → Bool → ShownTaps → List SubAgent → List Delivery → List ℕ
text_from l interfaces taps history deliveries =
    report_of l interfaces taps (received_from history deliveries) ++ tail_from l history deliveries

-- ---- of a made run

abbrev pub made_received : ℕ → ℕ → List Received
made_received seed packets = received_from (made_history seed packets) (made_deliveries seed packets)

abbrev pub made_premises : Limits → ℕ → ℕ → TrialPremises
made_premises l seed packets = premises_in l (made_history seed packets) (made_deliveries seed packets)

abbrev pub made_tail : Limits → ℕ → ℕ → List ℕ
made_tail l seed packets = tail_from l (made_history seed packets) (made_deliveries seed packets)

abbrev pub made_text : Limits → Bool → ℕ → ℕ → ShownTaps → List ℕ
made_text l interfaces seed packets taps =
    text_from l interfaces taps (made_history seed packets) (made_deliveries seed packets)

-- the first of all deliveries
pub record BeginsWith (all first : List Delivery) : Type 0 where
  pub later : List Delivery
  pub is : later ++ first ≡ all

-- ---- a run of the program

-- a run that reads nothing and writes this text, from what its surroundings showed before it to what they show after it
pub data Makes (text : ShownTaps → List ℕ) (before after : Surroundings) (status : Status) : Type 0 where
  -- memory was lacking, and nothing was written
  lacks_memory : status ≡ Memory → after.ends ≡ before.ends → after.link ≡ before.link → Makes text before after status
  -- the text was written, or a write failed within it
  reported : after.ends.source ≡ before.ends.source → after.link ≡ before.link
      → Flushed before.ends.sink after.ends.sink (text after.taps) Done status → Makes text before after status

-- ---- what came before a run ended

-- these arrived before a run ended so
abbrev pub HaveArrived : ℕ → ℕ → List Received → Status → Type 0
HaveArrived seed packets entries Done = entries ≡ made_received seed packets
HaveArrived seed packets entries WriteFault = entries ≡ made_received seed packets
HaveArrived seed packets entries Memory =
    (first : List Delivery) × BeginsWith (made_deliveries seed packets) first
    × (entries ≡ received_from (made_history seed packets) first)
HaveArrived seed packets entries other = ⊥

pub record HasMade (takes : List Received → Type 0) (seed packets : ℕ) (status : Status) : Type 0 where
  pub entries : List Received
  pub were : takes entries
  pub arrived : HaveArrived seed packets entries status
