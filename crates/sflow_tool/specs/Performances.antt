-- The commands' rows: the form of input that each reads, and what it does with it.
use Rattle.std.specs.Prelude.{◌≡◌, ℕ, Bool, List, []}
use Rattle.command_words.specs.declared.command.Command.{Command}
use Rattle.command_words.specs.declared.command.Command.TheVariants.{Replay, Show, Check, Canon, Pcap, Collect, Send, Relay, Agent, Trial, TrialMade}
use Rattle.command_runs.specs.declared.status.Status.{Status}
use Rattle.command_runs.specs.declared.status.Status.TheVariants.{Done}
use Rattle.command_runs.specs.Grammars.{captures, pcap_files, scripts}
use Rattle.command_runs.specs.Readings.{Decides}
use Rattle.command_runs.specs.Visits.{HasVisited}
use Rattle.report_lines.specs.HeaderLines.{no_taps}
use Rattle.sample_taps.specs.declared.brief.Brief.{Brief}
use Rattle.sample_taps.specs.Feeding.{Held}
use Rattle.sflow_tool.specs.Agents.{agent_act}
use Rattle.sflow_tool.specs.Canons.{canon_act}
use Rattle.sflow_tool.specs.Checks.{check_act}
use Rattle.sflow_tool.specs.Collects.{CollectsOver, HasCome, collected_text}
use Rattle.sflow_tool.specs.MadeTrials.{HasMade, Makes, made_text}
use Rattle.sflow_tool.specs.Pcaps.{pcap_act}
use Rattle.sflow_tool.specs.Relays.{RelaysSo}
use Rattle.sflow_tool.specs.Replays.{briefs_in, replay_act}
use Rattle.sflow_tool.specs.Sends.{Sends, send_act}
use Rattle.sflow_tool.specs.Shows.{show_act}
use Rattle.sflow_tool.specs.Surroundings.{RunsBetween, RunsCollecting, Surroundings}
use Rattle.sflow_tool.specs.Trials.{HasTriedLines, received_in, trial_act}

-- a run of the command, from what its surroundings showed before it to what they show after it
abbrev pub Performs : Command → Surroundings → Surroundings → Status → Type 0
Performs (Replay limits interfaces) = RunsCollecting captures (replay_act limits interfaces)
Performs Show = RunsBetween captures show_act
Performs (Check pad) = RunsBetween captures (check_act pad)
Performs (Canon to) = RunsBetween captures (canon_act to)
Performs (Pcap output) = RunsBetween pcap_files (pcap_act output)
Performs (Collect asked) = CollectsOver asked (collected_text asked)
Performs (Send to) = Sends to
Performs (Relay asked routes) = RelaysSo asked routes
Performs Agent = RunsBetween scripts agent_act
Performs (Trial limits interfaces) = RunsCollecting scripts (trial_act limits interfaces)
Performs (TrialMade limits interfaces seed packets) = Makes (made_text limits interfaces seed packets)

-- The input alone makes a run of the command end so, if no call fails and memory is there. What the consumers show doesn't
-- matter for that. What reads no input does its work, whatever the link gives.
abbrev pub EndsBy : Command → List ℕ → Status → Type 0
EndsBy (Replay limits interfaces) = Decides captures (replay_act limits interfaces no_taps)
EndsBy Show = Decides captures show_act
EndsBy (Check pad) = Decides captures (check_act pad)
EndsBy (Canon to) = Decides captures (canon_act to)
EndsBy (Pcap output) = Decides pcap_files (pcap_act output)
EndsBy (Collect asked) = λ input ending. ending ≡ Done
EndsBy (Send to) = Decides captures send_act
EndsBy (Relay asked routes) = λ input ending. ending ≡ Done
EndsBy Agent = Decides scripts agent_act
EndsBy (Trial limits interfaces) = Decides scripts (trial_act limits interfaces no_taps)
EndsBy (TrialMade limits interfaces seed packets) = λ input ending. ending ≡ Done

-- The briefs of a run of the command: those of the entries that came before it ended, where it collects or tries, and else
-- none.
abbrev pub Feeds : Command → Surroundings → Surroundings → Status → List Brief → Type 0
Feeds (Replay limits interfaces) before after status briefs =
    HasVisited (λ entries. briefs ≡ briefs_in limits entries) before.ends.source after.ends.source status
Feeds Show before after status briefs = briefs ≡ []
Feeds (Check pad) before after status briefs = briefs ≡ []
Feeds (Canon to) before after status briefs = briefs ≡ []
Feeds (Pcap output) before after status briefs = briefs ≡ []
Feeds (Collect asked) before after status briefs =
    HasCome (λ entries. briefs ≡ briefs_in asked.limits entries) asked before.link after.link status
Feeds (Send to) before after status briefs = briefs ≡ []
Feeds (Relay asked routes) before after status briefs =
    HasCome (λ entries. briefs ≡ briefs_in asked.limits entries) asked before.link after.link status
Feeds Agent before after status briefs = briefs ≡ []
Feeds (Trial limits interfaces) before after status briefs =
    HasTriedLines (λ lines. briefs ≡ briefs_in limits (received_in lines)) before.ends.source after.ends.source status
Feeds (TrialMade limits interfaces seed packets) before after status briefs =
    HasMade (λ entries. briefs ≡ briefs_in limits entries) seed packets status

-- of the consumers that were handed in, those are held that the briefs of the run leave
pub record IsFed {X : Type 0} (step : X → Brief → X → Type 0) (done : X → Bool) (c : Command) (before after : Surroundings)
    (status : Status) (xs ys : List X) : Type 0 where
  pub briefs : List Brief
  pub feeds : Feeds c before after status briefs
  pub held : Held step done briefs xs ys
