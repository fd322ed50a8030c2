-- A walk over the lines of a script as they are read, with a page on its way to a sink. Every list of lines has the LATEST
-- FIRST.
use Rattle.std.specs.Prelude.{◌≡◌, ◌≤◌, ◌||◌, ℕ, Bool, true, false, List, [], ◌++◌, ◌∷◌, Option, Some, Result, Ok, Err, flat_map, length, map}
use Rattle.wire_spec.specs.Captures.{Entry, entry_bytes}
use Rattle.wire_spec.specs.declared.input_kind.InputKind.TheVariants.{Script}
use Rattle.sflow_io.specs.declared.capture.ReadRefusal.{ReadRefusal}
use Rattle.sflow_io.specs.declared.capture.ReadRefusal.TheVariants as refusals
use Rattle.byte_ends.specs.Seen.{Seen, TakesPart}
use Rattle.text_lines.specs.Pages.{Puts}
use Rattle.agent_outlets.specs.Outlets.{PutView, put_view}
use Rattle.agent_outlets.specs.declared.list_outlet.Put.{Put}
use Rattle.script_spec.specs.Lines.{Line}
use Rattle.script_spec.specs.Rules.{may_follow}
use Rattle.script_spec.specs.Sent.{all_sent, sent_by}
use Rattle.script_laws.specs.SoFar.{BeginsWithLines, IsScriptOf}
use Rattle.command_runs.specs.ScriptSteps.{NeverGoesOn, ScriptFaultBehind, StopsInScript}
use Rattle.command_runs.specs.Walks.{Moved}
use Rattle.sflow_tool.specs.declared.agent.AgentStop.{AgentStop}
use Rattle.sflow_tool.specs.declared.agent.AgentStop.TheVariants as stops
use Rattle.sflow_tool.specs.declared.script_run.ScriptRun.{ScriptRun}
use Rattle.sflow_tool.specs.Agents.{agent_part, are_some, entries_put}
use Rattle.sflow_tool.specs.ScriptBoots.{put_entry}
use Rattle.sflow_tool.specs.ScriptRuns.{StandsFor}
use Rattle.sflow_tool.specs.WalkEnds.{HasCause}

-- ---- what is put

-- datagrams that were put, as they arrive at this time
abbrev pub entries_at : ℕ → List PutView → List Entry
entries_at at puts = map (put_entry at) puts

abbrev pub put_text : ℕ → Put → List ℕ
put_text at p = entry_bytes (put_entry at (put_view p))

abbrev pub puts_text : ℕ → List Put → List ℕ
puts_text at puts = flat_map (put_text at) puts

-- a capture holds entries of at most 65,535 bytes
abbrev pub IsShort : Entry → Type 0
IsShort e = length e.bytes ≤ 65535

abbrev pub IsShortPut : Put → Type 0
IsShortPut p = length p.bytes.items ≤ 65535

-- this text was put
abbrev pub PutsText : Moved → List ℕ → Type 0
PutsText m text = Puts m.sink m.sink' m.page m.page' text

-- of this text a beginning was written, and then a write failed
abbrev pub PutsBeginning : Moved → List ℕ → Type 0
PutsBeginning m text = TakesPart m.sink m.sink' (m.page ++ text)

-- ---- a line

-- a line was taken, and what it sends was put
pub record TookLine (new : ScriptRun) (lines : List Line) (line : Line) (opened now : Bool) (m : Moved) : Type 0 where
  pub follows : may_follow lines line ≡ true
  pub stands : StandsFor new (line ∷ lines)
  pub opened_is : now ≡ (opened || are_some (sent_by lines line))
  pub put : PutsText m (entries_put opened (sent_by lines line))

-- what comes of a line of this number, whose answer is whether the header stands there
abbrev pub LineEnds : ScriptRun → List Line → Line → ℕ → Bool → Moved → Result Bool AgentStop → Type 0
LineEnds new lines line number opened m (Ok now) = TookLine new lines line opened now m
LineEnds new lines line number opened m (Err (stops.Read refusal)) =
    (may_follow lines line ≡ false) × (refusal ≡ refusals.BadInput number Script) × PutsText m []
LineEnds new lines line number opened m (Err stops.Write) =
    (may_follow lines line ≡ true) × PutsBeginning m (entries_put opened (sent_by lines line))
LineEnds new lines line number opened m (Err stops.Memory) = (may_follow lines line ≡ true) × PutsText m []

-- ---- all lines

-- all lines of what the source told were taken, and this tells whether the header stands there
pub record TookScript (source : Seen) (m : Moved) (opened : Bool) : Type 0 where
  pub lines : List Line
  pub all : (input : List ℕ) → source.told ≡ Some input → IsScriptOf lines input
  pub opened_is : opened ≡ are_some (all_sent lines)
  pub put : PutsText m (agent_part lines)

-- how reading ends behind these lines with this refusal
abbrev pub StopsBehind : List Line → List ℕ → Option (List ℕ) → ReadRefusal → Type 0
StopsBehind lines input left refusals.ReadFault = StopsInScript lines input left
StopsBehind lines input left (refusals.BadInput at kind) = ScriptFaultBehind lines input at kind
StopsBehind lines input left refusals.Spent = NeverGoesOn lines input

-- reading ended behind these lines, or the next one breaks a rule
pub record TookLines (source source' : Seen) (m : Moved) (refusal : ReadRefusal) : Type 0 where
  pub lines : List Line
  pub ends : (input : List ℕ) → source.told ≡ Some input → StopsBehind lines input source'.told refusal
  pub put : PutsText m (agent_part lines)

-- a write failed at the first of these lines
pub record NotWritten (source : Seen) (m : Moved) : Type 0 where
  pub lines : List Line
  pub begins : (input : List ℕ) → source.told ≡ Some input → BeginsWithLines lines input
  pub put : PutsBeginning m (agent_part lines)

-- memory was lacking for the line behind these
pub record Lacking (source : Seen) (m : Moved) : Type 0 where
  pub lines : List Line
  pub begins : (input : List ℕ) → source.told ≡ Some input → BeginsWithLines lines input
  pub put : PutsText m (agent_part lines)

-- how the walk may end
abbrev pub LinesEnd : Seen → Seen → Moved → Result Bool AgentStop → Type 0
LinesEnd source source' m (Ok opened) = TookScript source m opened
LinesEnd source source' m (Err (stops.Read refusal)) = TookLines source source' m refusal
LinesEnd source source' m (Err stops.Write) = NotWritten source m
LinesEnd source source' m (Err stops.Memory) = Lacking source m

-- where a read fault ended the walk one call of the source failed, and else none
abbrev pub HasLineCause : Seen → Seen → Result Bool AgentStop → Type 0
HasLineCause source source' result = HasCause (result ≡ Err (stops.Read refusals.ReadFault)) source source'
