-- What `relay` does: it collects, and it passes the datagrams that are First on to receivers.
use Rattle.std.specs.Prelude.{◌≡◌, ◌≢◌, ℕ, Bool, true, false, List, ◌++◌}
use Rattle.wire_spec.specs.Captures.{Entry}
use Rattle.datagram_links.specs.Links.{LinkSeen, failed}
use Rattle.datagram_links.specs.Receivers.{ReceiverSeen}
use Rattle.sample_taps.specs.declared.brief.Brief.{Brief}
use Rattle.flow_collector.specs.Collectors.{CollectorState}
use Rattle.report_lines.specs.HeaderLines.{ShownTaps}
use Rattle.relay_out.specs.declared.progress.Progress.{Progress}
use Rattle.relay_out.specs.Lines.{relay_text}
use Rattle.relay_out.specs.Routes.{AgentDatagram, Route}
use Rattle.relay_out.specs.Runs.{RunServed}
use Rattle.command_words.specs.declared.collection.Collection.{Collection}
use Rattle.command_words.specs.declared.command.Command.{Command}
use Rattle.command_words.specs.declared.command.Command.TheVariants.{Relay}
use Rattle.command_runs.specs.declared.status.Status.{Status}
use Rattle.command_runs.specs.declared.status.Status.TheVariants.{LinkFault, Memory}
use Rattle.sflow_tool.specs.Collects.{CollectsOver, HasCome, TakesTurn, collected_text}
use Rattle.sflow_tool.specs.Passing.{passed_on}
use Rattle.sflow_tool.specs.Surroundings.{Surroundings}

-- the command uses receivers
abbrev pub relays : Command → Bool
relays (Relay asked routes) = true
relays _ = false

-- the report of these datagrams, and behind it the lines of receivers that are so far
abbrev pub relayed_text : Collection → List Route → List Progress → ShownTaps → List Entry → List ℕ
relayed_text asked routes progress taps entries = collected_text asked taps entries ++ relay_text routes progress

-- it collects, and writes that
abbrev pub RelaysOver : Collection → List Route → List Progress → Surroundings → Surroundings → Status → Type 0
RelaysOver asked routes progress = CollectsOver asked (relayed_text asked routes progress)

-- the same, however far the receivers are then
abbrev pub RelaysSo : Collection → List Route → Surroundings → Surroundings → Status → Type 0
RelaysSo asked routes before after status = (progress : List Progress) × RelaysOver asked routes progress before after status

-- one receive went well: what came was taken, and what of it is First went on behind what had gone on before
pub record PassesTurn {X Y : Type 0} (step : X → Brief → X → Type 0) (done : X → Bool) (old new : CollectorState)
    (ys zs : List X) (left left' : ℕ) (link : LinkSeen) (seen : Y → ReceiverSeen) (routes : List Route) (us : List Y)
    (was : List Progress) (vs : List Y) (now : List Progress) : Type 0 where
  pub first : List AgentDatagram
  pub takes : TakesTurn step done old new ys zs left left' link first
  pub serves : (before : List AgentDatagram) (xs : List Y) → RunServed seen before routes xs us was
      → RunServed seen (before ++ first) routes xs vs now

-- what a run made of the receivers: xs became ys, and how far they are was `was` and is `now`
pub data Relayed {X : Type 0} (seen : X → ReceiverSeen) (asked : Collection) (routes : List Route) (link link' : LinkSeen)
    (status : Status) (xs : List X) (was : List Progress) (ys : List X) (now : List Progress) : Type 0 where
  -- before memory was taken, and before the link listened, nothing was
  lacks_memory : status ≡ Memory → ys ≡ xs → now ≡ was → Relayed seen asked routes link link' status xs was ys now
  not_listening : status ≡ LinkFault → link' ≡ failed link → ys ≡ xs → now ≡ was
      → Relayed seen asked routes link link' status xs was ys now
  -- they were aimed, and the datagrams that are First, of those that came before the run ended, went on to them
  served : status ≢ Memory
      → HasCome (λ entries. RunServed seen (passed_on asked.limits entries) routes xs ys now) asked link link' status
      → Relayed seen asked routes link link' status xs was ys now
