-- What a run of a script stands for. Every list of lines has the LATEST FIRST.
use Rattle.std.specs.Prelude.{◌≡◌, ◌<◌, ◌≤◌, true, false, List, ◌∷◌, length, Result, Ok, Err}
use Rattle.std.specs.declared.option.Option.{Option}
use Rattle.std.specs.declared.option.Option.TheVariants.{Some, None}
use Rattle.std.specs.List.{list_all}
use Rattle.script_spec.specs.Lines.{Line}
use Rattle.script_spec.specs.Agents.{subs_in}
use Rattle.script_spec.specs.Rules.{may_follow, sets_up}
use Rattle.script_spec.specs.Sent.{sent_by}
use Rattle.script_laws.specs.Lawful.{AreLawful}
use Rattle.script_tables.specs.Said.{SetsUp, SetupsState}
use Rattle.script_tables.specs.Tables.{Tells}
use Rattle.script_meter.specs.Tallies.{Counts}
use Rattle.sub_agents.specs.Devices.{DeviceState}
use Rattle.sflow_tool.specs.ScriptBoots.{DeviceOf}
use Rattle.sflow_tool.specs.Steps.{IsStep, entries_of}
use Rattle.sflow_tool.specs.declared.script_run.ScriptRun.{ScriptRun}
use Rattle.sflow_tool.specs.declared.step.Step.{Step}
use Rattle.sflow_tool.specs.declared.script_run.Unfit.{Unfit}
use Rattle.sflow_tool.specs.declared.script_run.Unfit.TheVariants as unfit

-- the device is opened at the first line that sets nothing up
abbrev pub HasDevice : SetupsState → Option DeviceState → List Line → Type 0
HasDevice setups None lines = SetsUp setups lines × (list_all sets_up lines ≡ true)
HasDevice setups (Some d) lines = DeviceOf d lines × (list_all sets_up lines ≡ false)

-- the run is behind these lines
pub record StandsFor (r : ScriptRun) (lines : List Line) : Type 0 where
  pub tables : Tells r.tables lines
  pub lawful : AreLawful lines
  pub counts : Counts r.meter lines
  pub device : HasDevice r.setups r.device lines

-- the same, and the device is open
pub record IsStarted (r : ScriptRun) (lines : List Line) : Type 0 where
  pub tables : Tells r.tables lines
  pub lawful : AreLawful lines
  pub counts : Counts r.meter lines
  pub device : DeviceState
  pub is_open : r.device ≡ Some device
  pub stands : DeviceOf device lines

-- it is behind some lines, as many as have a number
abbrev pub IsSound : ScriptRun → Type 0
IsSound r = (lines : List Line) × StandsFor r lines × (length lines < 4294967296)

abbrev pub HasSubs : ScriptRun → Type 0
HasSubs r = (lines : List Line) × StandsFor r lines × (1 ≤ length (subs_in lines))

abbrev pub IsRunning : ScriptRun → Type 0
IsRunning r = (lines : List Line) × IsStarted r lines × (length lines < 4294967296)

-- what a line makes of a run
abbrev pub TakesLine : ScriptRun → List Line → Line → Result Step Unfit → Type 0
TakesLine new lines line (Ok step) = (may_follow lines line ≡ true) × StandsFor new (line ∷ lines) × IsStep lines line step
    × (entries_of step ≡ sent_by lines line)
TakesLine new lines line (Err unfit.Breaks) = may_follow lines line ≡ false
TakesLine new lines line (Err unfit.Memory) = may_follow lines line ≡ true
