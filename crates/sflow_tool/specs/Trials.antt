-- A script that is tried: what its lines deliver goes to a collector, each datagram as soon as a line delivers it. Behind the
-- report stand what the sub-agents did in all and whether the premises hold. Every list of lines has the LATEST FIRST;
-- entries stand in their order.
use Rattle.std.specs.Prelude.{◌≡◌, ℕ, Bool, true, false, List, [], ◌++◌, Option, Some, None, Result, Ok, Err}
use Rattle.std.specs.List.{list_all}
use Rattle.byte_ends.specs.Seen.{Seen}
use Rattle.sflow_io.specs.declared.capture.ReadRefusal.{ReadRefusal}
use Rattle.sflow_io.specs.declared.capture.ReadRefusal.TheVariants as refusals
use Rattle.books_spec.specs.declared.limits.Limits.{Limits}
use Rattle.capture_spec.specs.Items.{Received}
use Rattle.script_spec.specs.Lines.{Line}
use Rattle.script_spec.specs.Rules.{sets_up}
use Rattle.script_spec.specs.Sent.{all_delivered, datagrams_sent, packets_dropped, samples_issued}
use Rattle.script_laws.specs.SoFar.{BeginsWithLines, IsScriptOf}
use Rattle.script_histories.specs.Histories.{deliveries_of, history_of}
use Rattle.trial_spec.specs.PremiseTests.{apparent, close, roomy, visible}
use Rattle.trial_premises.specs.Premises as premises
use Rattle.trial_premises.specs.declared.delivered.TrueSample.{TrueSample}
use Rattle.true_samples.specs.declared.samples.IssuedSample.{IssuedSample}
use Rattle.report_lines.specs.HeaderLines.{ShownTaps}
use Rattle.report_lines.specs.TrialLines.{agent_text, premises_text}
use Rattle.report_lines.specs.declared.trial_lines.TrialPremises.{TrialPremises}
use Rattle.command_runs.specs.Acts.{Act}
use Rattle.command_runs.specs.ScriptSteps.{NeverGoesOn, ScriptFaultBehind, StopsInScript}
use Rattle.command_runs.specs.declared.status.Status.{Status}
use Rattle.command_runs.specs.declared.status.Status.TheVariants.{BadInput, Done, Memory, ReadFault, Spent, WriteFault}
use Rattle.sflow_tool.specs.AgentWalks.{StopsBehind}
use Rattle.sflow_tool.specs.Collects.{received_of}
use Rattle.sflow_tool.specs.Replays.{report_of}
use Rattle.sflow_tool.specs.ScriptRuns.{StandsFor}
use Rattle.sflow_tool.specs.Trues.{TrueOf}
use Rattle.sflow_tool.specs.WalkEnds.{HasCause}
use Rattle.sflow_tool.specs.declared.trial.TrialStop.{TrialStop}
use Rattle.sflow_tool.specs.declared.trial.TrialStop.TheVariants as stops
use Rattle.sflow_tool.specs.declared.trial_run.TrialRun.{TrialRun}
use Rattle.sflow_tool.specs.declared.trial_run.Tried.{Tried}

-- ---- what arrives

-- all that lines deliver, as a collector takes it
abbrev pub received_in : List Line → List Received
received_in lines = received_of (all_delivered lines)

-- ---- what is written

-- which premises hold of the history of the lines and of what they deliver
abbrev pub premises_of : Limits → List Line → TrialPremises
premises_of l lines = record {
  visible = visible l (history_of lines) (deliveries_of lines);
  close = close l (history_of lines) (deliveries_of lines);
  roomy = roomy l (deliveries_of lines);
  apparent = apparent l (history_of lines) (deliveries_of lines);
}

-- each of them
abbrev pub all_hold : TrialPremises
all_hold = record { visible = true; close = true; roomy = true; apparent = true }

-- the two lines behind the report
abbrev pub tail_of : Limits → List Line → List ℕ
tail_of l lines =
    agent_text (datagrams_sent lines) (samples_issued lines) (packets_dropped lines) ++ premises_text (premises_of l lines)

abbrev pub trial_text : Limits → Bool → ShownTaps → List Line → List ℕ
trial_text l interfaces taps lines = report_of l interfaces taps (received_in lines) ++ tail_of l lines

-- where the consumers show this when all is read
abbrev pub trial_act : Limits → Bool → ShownTaps → Act (List Line)
trial_act l interfaces taps = record {
  whole = trial_text l interfaces taps;
  part = λ lines. [];
  finds = λ lines. false;
  may_find = false;
  at_end = true;
  memory_first = false;
}

-- ---- what is kept along the lines

-- a sample as the premises take it
abbrev pub true_sample : IssuedSample → TrueSample
true_sample t = record {
  source = t.source;
  generation = t.generation;
  number = t.number;
  pool = t.pool;
  drops = t.drops;
}

pub record IsTried (l : Limits) (t : Tried) (lines : List Line) : Type 0 where
  pub trues : TrueOf t.trues lines
  pub premises_stand : premises.StandsFor t.premises (history_of lines) (deliveries_of lines)
  pub limits_are : t.premises.limits ≡ l

-- it is opened at the first line that sets nothing up
abbrev pub HasTried : Limits → Option Tried → List Line → Type 0
HasTried l None lines = list_all sets_up lines ≡ true
HasTried l (Some t) lines = IsTried l t lines × (list_all sets_up lines ≡ false)

pub record TrialStands (t : TrialRun) (lines : List Line) : Type 0 where
  pub run : StandsFor t.run lines
  pub tried : HasTried t.limits t.tried lines

-- the same, and it is open
pub record IsOpen (t : TrialRun) (lines : List Line) : Type 0 where
  pub run : StandsFor t.run lines
  pub tried : Tried
  pub is_open : t.tried ≡ Some tried
  pub stands : IsTried t.limits tried lines

-- ---- a walk over the lines

-- all lines of what the source told were taken
pub record TriedScript (stands takes : List Line → Type 0) (source : Seen) : Type 0 where
  pub lines : List Line
  pub all : (input : List ℕ) → source.told ≡ Some input → IsScriptOf lines input
  pub stand : stands lines
  pub were : takes lines

-- reading ended behind these lines, or the next one breaks a rule
pub record TriedLines (takes : List Line → Type 0) (source source' : Seen) (refusal : ReadRefusal) : Type 0 where
  pub lines : List Line
  pub ends : (input : List ℕ) → source.told ≡ Some input → StopsBehind lines input source'.told refusal
  pub were : takes lines

-- memory was lacking for the line behind these
pub record TriedSome (takes : List Line → Type 0) (source : Seen) : Type 0 where
  pub lines : List Line
  pub begins : (input : List ℕ) → source.told ≡ Some input → BeginsWithLines lines input
  pub were : takes lines

abbrev pub TrialEnds : (stands takes : List Line → Type 0) → Seen → Seen → Result (Unit {0}) TrialStop → Type 0
TrialEnds stands takes source source' (Ok all) = TriedScript stands takes source
TrialEnds stands takes source source' (Err (stops.Read refusal)) = TriedLines takes source source' refusal
TrialEnds stands takes source source' (Err stops.Memory) = TriedSome takes source

-- where a read fault ended the walk one call of the source failed, and else none
abbrev pub HasTrialCause : Seen → Seen → Result (Unit {0}) TrialStop → Type 0
HasTrialCause source source' result = HasCause (result ≡ Err (stops.Read refusals.ReadFault)) source source'

-- ---- what came before a run ended

-- these lines were tried before the run ended so, with so much left in the source
abbrev pub WereTried : List Line → List ℕ → Option (List ℕ) → Status → Type 0
WereTried lines input left Done = IsScriptOf lines input
WereTried lines input left WriteFault = IsScriptOf lines input
WereTried lines input left ReadFault = StopsInScript lines input left
WereTried lines input left (BadInput at kind) = ScriptFaultBehind lines input at kind
WereTried lines input left Spent = NeverGoesOn lines input
WereTried lines input left Memory = BeginsWithLines lines input
WereTried lines input left other = ⊥

pub record HasTriedLines (takes : List Line → Type 0) (source source' : Seen) (status : Status) : Type 0 where
  pub lines : List Line
  pub were : takes lines
  pub tried : (input : List ℕ) → source.told ≡ Some input → WereTried lines input source'.told status
