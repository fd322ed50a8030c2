-- The script of a made run: lines that say what happens in it, one after the other. Every list of lines, boots, events and
-- deliveries has the LATEST FIRST.
use Rattle.std.specs.Prelude.{◌≡◌, ℕ, suc, ◌+◌, ◌*◌, ◌<◌, ◌≤◌, true, None, List, [], ◌∷◌, drop, length, map}
use Rattle.agent_spec.specs.Events.{Event}
use Rattle.script_spec.specs.Values.{Place}
use Rattle.script_spec.specs.Lines as script
use Rattle.script_spec.specs.Lines.{Line, SubLine, FlowLine, CounterLine, SubAgent}
use Rattle.script_spec.specs.Agents.{AgentBoot, boots_of, delivered, sender_of, setup_of, sources_in, subs_in}
use Rattle.script_spec.specs.Rules.{may_follow}
use Rattle.script_spec.specs.Sent as sent
use Rattle.script_laws.specs.Lawful.{AreLawful}
use Rattle.script_laws.specs.Written.{may_be_written}
use Rattle.account_spec.specs.Deliveries.{Delivery}
use Rattle.script_histories.specs.Histories.{deliveries_of, history_of}
use Rattle.trial_spec.specs.Made.{Made, all_decided, begun, boot_number, is_sent, made, made_counter, made_deliveries, made_flow, made_history, made_sender, made_setup, made_until, observed, polled, restarted, sent_all, sent_so_far}
use Rattle.made_runs.specs.Runs.{Naming, RunState, Adds, IsShort, StandsFor, arrived}
use Rattle.made_runs.specs.declared.arrivals.Arrival.{Arrival}
use Rattle.made_runs.specs.declared.arrivals.Arrivals.{Arrivals}
use Rattle.made_runs.specs.declared.script.Phase.{Phase}
use Rattle.made_runs.specs.declared.script.Phase.TheVariants.{Packet, Poll, Send, Decide, Restart, Done}
use Rattle.made_runs.specs.declared.script.Stage.{Stage}
use Rattle.made_runs.specs.declared.script.Stage.TheVariants.{Sub, Flow, Counter, Going}

-- the sub-agent, whose first boot arrives at the time at which the run begins
abbrev pub made_sub : SubAgent
made_sub = record { id = 1; address = made_sender.agent; first = 4294967290; at = 1000000; stage = 16 }

-- the place of both its sources
abbrev pub port : Place
port = record { class = 0; index = 1 }

-- the lines that set it up
abbrev pub sub_said : List Line
sub_said = SubLine made_sub ∷ []

abbrev pub flow_said : ℕ → List Line
flow_said seed = FlowLine 1 (made_flow seed) ∷ sub_said

abbrev pub all_said : ℕ → List Line
all_said seed = CounterLine 1 made_counter ∷ flow_said seed

-- the datagram of a number of a boot, each counted from 1
abbrev pub named_by : List Line → Naming
named_by lines boot number = delivered lines (record { id = 1; boot = boot; number = number; at = 0 })

abbrev pub events_in : AgentBoot → List Event
events_in b = b.events

-- the lines say what happened in the run and what was delivered of it
pub record Tells (seed : ℕ) (lines : List Line) (m : Made) : Type 0 where
  pub lawful : AreLawful lines
  pub subs_are : subs_in lines ≡ made_sub ∷ []
  pub sources_are : sources_in lines ≡ sources_in (all_said seed)
  pub setup_is : setup_of lines made_sub ≡ made_setup seed
  pub sender_is : sender_of lines made_sub ≡ made_sender
  pub at : ℕ
  pub older : List AgentBoot
  pub boots_are : boots_of lines made_sub ≡ record { at = at; events = m.events } ∷ older
  pub earlier_are : map events_in older ≡ m.earlier
  pub deliveries_are : deliveries_of lines ≡ m.deliveries

-- ---- what is kept of the script

-- so many packets of all that come were seen, and of so many datagrams of this boot it is decided what becomes of them
pub record ScriptState : Type 0 where
  pub seed : ℕ
  pub total : ℕ
  pub run : RunState
  pub packets : ℕ
  pub decided : ℕ
  pub due : Arrivals
  pub stage : Stage

abbrev pub nothing_due : Arrivals
nothing_due = record { first = None; second = None; held = None }

-- ---- the run behind a packet

-- behind the packet that comes behind so many
abbrev pub seen : ℕ → ℕ → ℕ → Made
seen seed total before = observed seed (made_until seed total before)

-- and behind its poll
abbrev pub polled_behind : ℕ → ℕ → ℕ → Made
polled_behind seed total before = polled seed (seen seed total before)

abbrev pub sent_count : ℕ → Made → ℕ
sent_count seed m = length (sent_so_far seed m)

-- where all is decided that was sent
abbrev pub IsDecided : ℕ → ℕ → Made → Type 0
IsDecided seed decided m = decided ≡ sent_count seed m

-- ---- where a run of so many packets is, behind so many of them, where so many datagrams of this boot are decided

module _ (seed total packets decided : ℕ) (m : Made) where
  pub record BeforePacket : Type 0 where
    pub more : packets < total
    pub is : m ≡ made_until seed total packets
    pub decided_all : IsDecided seed decided m

  pub record BeforePoll : Type 0 where
    pub before : ℕ
    pub packets_are : packets ≡ suc before
    pub sends : is_sent total packets ≡ true
    pub is : m ≡ seen seed total before
    pub decided_all : IsDecided seed decided m

  pub record BeforeSend : Type 0 where
    pub before : ℕ
    pub packets_are : packets ≡ suc before
    pub sends : is_sent total packets ≡ true
    pub is : m ≡ polled_behind seed total before
    pub decided_all : IsDecided seed decided m

  -- what is still to be decided leads to the run behind the send
  pub record Deciding : Type 0 where
    pub before : ℕ
    pub packets_are : packets ≡ suc before
    pub sends : is_sent total packets ≡ true
    pub leads : all_decided (boot_number m) (drop decided (sent_so_far seed m)) m ≡ sent_all seed (polled_behind seed total before)
    pub most : decided ≤ sent_count seed m

  pub record BeforeRestart : Type 0 where
    pub more : packets < total
    pub leads : restarted m ≡ made_until seed total packets
    pub decided_all : IsDecided seed decided m
    pub none_held : m.held ≡ None

  pub record AtEnd : Type 0 where
    pub is : m ≡ made seed total
    pub decided_all : IsDecided seed decided m

abbrev pub IsAt : Phase → ℕ → ℕ → ℕ → ℕ → Made → Type 0
IsAt Packet seed total packets decided m = BeforePacket seed total packets decided m
IsAt Poll seed total packets decided m = BeforePoll seed total packets decided m
IsAt Send seed total packets decided m = BeforeSend seed total packets decided m
IsAt Decide seed total packets decided m = Deciding seed total packets decided m
IsAt Restart seed total packets decided m = BeforeRestart seed total packets decided m
IsAt Done seed total packets decided m = AtEnd seed total packets decided m

-- how many of the 60 lines that a packet gives at most are not used where the script is here
abbrev pub unused : Phase → ℕ
unused Packet = 0
unused Poll = 59
unused Send = 58
unused Decide = 2
unused Restart = 1
unused Done = 0

-- ---- where the script is

-- the lines have told the run up to what is still due
pub record Told (phase : Phase) (s : ScriptState) (lines : List Line) : Type 0 where
  pub now : Made
  pub told : List Delivery
  pub tells : Tells s.seed lines (record now { deliveries = told })
  pub run : StandsFor (named_by lines) s.run now
  pub short : IsShort now
  pub due : Adds (named_by lines) (arrived s.due) told now.deliveries
  pub at : IsAt phase s.seed s.total s.packets s.decided now
  pub few : length lines + length (arrived s.due) + 3 * sent_count s.seed now + unused phase ≤ 3 + 60 * s.packets + 3 * s.decided
  pub total : s.packets ≤ s.total
  pub most : s.total ≤ 10000000

-- nothing has happened
pub record IsNew (s : ScriptState) : Type 0 where
  pub run : (names : Naming) → StandsFor names s.run (begun s.seed)
  pub none_due : s.due ≡ nothing_due
  pub packets : s.packets ≡ 0
  pub decided : s.decided ≡ 0
  pub least : 1 ≤ s.total
  pub most : s.total ≤ 10000000

abbrev pub StandsAt : Stage → ScriptState → List Line → Type 0
StandsAt Sub s lines = IsNew s × (lines ≡ [])
StandsAt Flow s lines = IsNew s × (lines ≡ sub_said)
StandsAt Counter s lines = IsNew s × (lines ≡ flow_said s.seed)
StandsAt (Going phase) s lines = Told phase s lines

-- these lines came from it
abbrev pub Gave : ScriptState → List Line → Type 0
Gave s lines = StandsAt s.stage s lines

-- ---- one line more

-- a datagram arrives
abbrev pub line_of : Arrival → script.Delivery
line_of a = record { id = 1; boot = a.boot; number = a.number; at = a.at }

-- how many datagrams the sub-agent has sent in its current boot
abbrev pub sent_now : List Line → ℕ
sent_now lines = sent.sent_count lines made_sub (boots_of lines made_sub)

-- the line comes next, in the same run
pub record Gives (s t : ScriptState) (lines : List Line) (line : Line) : Type 0 where
  pub written : may_be_written line ≡ true
  pub follows : may_follow lines line ≡ true
  pub gave : Gave t (line ∷ lines)
  pub seed : t.seed ≡ s.seed
  pub total : t.total ≡ s.total

-- the lines are the whole script of the run of a seed with so many packets
pub record IsWhole (seed packets : ℕ) (lines : List Line) : Type 0 where
  pub lawful : AreLawful lines
  pub history_is : history_of lines ≡ made_history seed packets
  pub deliveries_are : deliveries_of lines ≡ made_deliveries seed packets
