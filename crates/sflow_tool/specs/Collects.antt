-- What `collect` does: so often it receives from a link, and then it writes the report of the datagrams that came.
use Rattle.std.specs.Prelude.{◌≡◌, ℕ, ◌<◌, ◌≤◌, ◌^◌, Bool, List, ◌++◌, length, map, take, drop, None, Some, Result, Ok, Err}
use Rattle.std.specs.Option.{option_map}
use Rattle.wire_spec.specs.Captures.{Entry}
use Rattle.capture_spec.specs.Items.{Received, sent_by}
use Rattle.datagram_links.specs.Links.{LinkSeen, LinkTold, datagrams_in, failed, listening, told_as}
use Rattle.books_spec.specs.Items.{Item}
use Rattle.books_spec.specs.declared.limits.Limits.{Limits}
use Rattle.relay_out.specs.Routes.{AgentDatagram}
use Rattle.sample_taps.specs.declared.brief.Brief.{Brief}
use Rattle.report_lines.specs.HeaderLines.{ShownTaps}
use Rattle.flow_collector.specs.Collectors.{CollectorState, StandsFor}
use Rattle.command_words.specs.declared.collection.Collection.{Collection}
use Rattle.command_runs.specs.Endings.{Flushed}
use Rattle.command_runs.specs.declared.status.Status.{Status}
use Rattle.command_runs.specs.declared.status.Status.TheVariants.{Done, LinkFault, Memory, WriteFault}
use Rattle.sflow_tool.specs.Passing.{passed_behind}
use Rattle.sflow_tool.specs.Replays.{Collects, report_of}
use Rattle.sflow_tool.specs.Surroundings.{Surroundings}

-- what comes over a link doesn't tell who sent it
abbrev pub received_of : List Entry → List Received
received_of entries = map (sent_by None) entries

-- so many items have left the link
abbrev pub received_some : ℕ → LinkSeen → LinkSeen
received_some turns seen = told_as (λ told. record told { items = drop turns told.items }) seen

-- these datagrams are those among so many items of the link, each with its first 65,535 bytes
abbrev pub Came : LinkSeen → ℕ → List Entry → Type 0
Came link turns entries = (told : LinkTold) → link.told ≡ Some told → entries ≡ datagrams_in 65535 (take turns told.items)

-- the report of these datagrams and of these consumers
abbrev pub collected_text : Collection → ShownTaps → List Entry → List ℕ
collected_text asked taps entries = report_of asked.limits asked.interfaces taps (received_of entries)

-- ---- a run

-- a run that collects and writes this text, from what its surroundings showed before it to what they show after it
pub data CollectsOver (asked : Collection) (text : ShownTaps → List Entry → List ℕ) (before after : Surroundings)
    (status : Status) : Type 0 where
  -- nothing was touched
  lacks_memory : status ≡ Memory → after ≡ before → CollectsOver asked text before after status
  -- the link doesn't listen, and nothing else was done
  not_listening : status ≡ LinkFault → after ≡ record before { link = failed before.link }
      → CollectsOver asked text before after status
  -- so many receives went well, and the next one failed; nothing was written
  not_received : (turns : ℕ) → status ≡ LinkFault → turns < asked.turns
      → after.link ≡ failed (received_some turns (listening asked.listen before.link)) → after.ends ≡ before.ends
      → CollectsOver asked text before after status
  -- all receives went well, and the text of the datagrams that came was written, or a write failed within it
  reported : (entries : List Entry) → Came before.link asked.turns entries
      → after.link ≡ received_some asked.turns (listening asked.listen before.link)
      → after.ends.source ≡ before.ends.source
      → Flushed before.ends.sink after.ends.sink (text after.taps entries) Done status
      → CollectsOver asked text before after status

-- ---- what came before a run ended

-- so many receives went well
abbrev pub HasTurned : Collection → ℕ → Status → Type 0
HasTurned asked turns Memory = turns ≡ 0
HasTurned asked turns LinkFault = turns ≤ asked.turns
HasTurned asked turns Done = turns ≡ asked.turns
HasTurned asked turns WriteFault = turns ≡ asked.turns
HasTurned asked turns _ = ⊥

-- these datagrams came before a run ended so, and these are all that left the link
pub record HasCome (takes : List Received → Type 0) (asked : Collection) (link link' : LinkSeen) (status : Status)
    : Type 0 where
  pub turns : ℕ
  pub entries : List Entry
  pub came : Came link turns entries
  pub were : takes (received_of entries)
  pub turned : HasTurned asked turns status
  pub left : option_map (λ told. told.items) link'.told ≡ option_map (λ told. drop turns told.items) link.told

-- ---- datagrams that are taken as they come

-- one receive went well: these datagrams came, one or none, and a collector took them and fed the consumers; those of them
-- that are First go on
pub record TakesTurn {X : Type 0} (step : X → Brief → X → Type 0) (done : X → Bool) (old new : CollectorState)
    (ys zs : List X) (left left' : ℕ) (link : LinkSeen) (first : List AgentDatagram) : Type 0 where
  pub came : List Entry
  pub are : Came link 1 came
  pub few : length came ≤ 1
  pub takes : (l : Limits) (xs : List X) (all : ℕ) (entries : List Received) → length entries < 2 ^ 48
      → Collects step done l old xs ys all left entries
      → Collects step done l new xs zs all left' (entries ++ received_of came)
  pub goes_on : (l : Limits) (before : List Item) → StandsFor old.books l before
      → passed_behind l before (received_of came) ≡ first

-- so many receives went well, and what came was taken
pub record TookTurns (takes : List Received → Type 0) (link link' : LinkSeen) (turns : ℕ) : Type 0 where
  pub entries : List Entry
  pub came : Came link turns entries
  pub were : takes (received_of entries)
  pub link_is : link' ≡ received_some turns link

-- the receive behind so many failed
pub record TurnFailed (takes : List Received → Type 0) (link link' : LinkSeen) (turns : ℕ) : Type 0 where
  pub count : ℕ
  pub fewer : count < turns
  pub entries : List Entry
  pub came : Came link count entries
  pub were : takes (received_of entries)
  pub link_is : link' ≡ failed (received_some count link)

abbrev pub TurnsEnd : {T E : Type 0} → (List Received → Type 0) → LinkSeen → LinkSeen → ℕ → Result T E → Type 0
TurnsEnd takes link link' turns (Ok all) = TookTurns takes link link' turns
TurnsEnd takes link link' turns (Err e) = TurnFailed takes link link' turns
