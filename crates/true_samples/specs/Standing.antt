-- The history of a sub-agent for which what is kept stands. Every list of events and of boots has the LATEST FIRST.
use Rattle.std.specs.Prelude.{◌≡◌, ℕ, List, length, map, reverse, Option, Some, None, option_and_then}
use Rattle.agent_spec.specs.Sources.{FlowSetup, CounterSetup}
use Rattle.agent_spec.specs.Samples.{Datagram, Setup}
use Rattle.agent_spec.specs.Events.{Event}
use Rattle.agent_spec.specs.Boots.{Boot, happened}
use Rattle.agent_spec.specs.Spelled.{Sender}
use Rattle.script_spec.specs.Agents.{numbered}
use Rattle.account_spec.specs.Histories.{IsSetUp}
use Rattle.true_samples.specs.Pairs.{Each}
use Rattle.true_samples.specs.States.{SentState, BootState, TrueState}
use Rattle.true_samples.specs.Counts.{id_in, flow_counts, counter_counts}
use Rattle.true_samples.specs.Samples.{IsIssued, IsSent}

-- its sources, and where its numbers begin
pub record IsOf (s : Setup) (t : TrueState) : Type 0 where
  pub lawful : IsSetUp s
  pub first_is : t.first ≡ s.first
  pub flow_ids_are : t.flow_ids ≡ map (λ (f : FlowSetup). id_in f.source) s.flows
  pub counter_ids_are : t.counter_ids ≡ map (λ (c : CounterSetup). id_in c.source) s.counters

-- the current boot came to this after these events
pub record Follows (sender : Sender) (s : Setup) (t : TrueState) (before : List Event) (b : Boot) : Type 0 where
  pub flows_are : t.flows ≡ map (flow_counts before b) s.flows
  pub counters_are : t.counters ≡ map (counter_counts before b) s.counters
  pub staged_are : Each (IsIssued s) t.staged (reverse b.staged)
  pub sent_are : Each (IsSent sender s) t.current.datagrams (reverse b.sent)
  pub issued_is : t.current.issued ≡ length b.issued
  pub dropped_is : t.current.dropped ≡ length b.dropped

-- what is kept of a boot that has ended
pub record IsBoot (sender : Sender) (s : Setup) (t : BootState) (events : List Event) : Type 0 where
  pub sent_are : Each (IsSent sender s) t.datagrams (reverse (happened s events).sent)
  pub issued_is : t.issued ≡ length (happened s events).issued
  pub dropped_is : t.dropped ≡ length (happened s events).dropped

-- the events of the current boot, and those of each boot before
pub record StandsFor (sender : Sender) (s : Setup) (t : TrueState) (events : List Event) (earlier : List (List Event)) : Type 0 where
  pub set_up : IsOf s t
  pub follows : Follows sender s t events (happened s events)
  pub earlier_are : Each (IsBoot sender s) t.earlier (reverse earlier)

-- ---- deliveries

-- the datagram of this number of the boot of this number, each counted from 1
abbrev pub sent_at : Setup → List (List Event) → ℕ → ℕ → Option Datagram
sent_at s boots boot number =
    option_and_then (λ (events : List Event). numbered (reverse (happened s events).sent) number)
    (numbered (reverse boots) boot)

-- what was found is what was sent, and nothing where nothing was
abbrev pub AreSame : Sender → Setup → Option SentState → Option Datagram → Type 0
AreSame sender s None None = Unit {0}
AreSame sender s None (Some d) = ⊥
AreSame sender s (Some t) None = ⊥
AreSame sender s (Some t) (Some d) = IsSent sender s t d
