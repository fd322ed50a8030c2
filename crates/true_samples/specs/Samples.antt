-- Samples and datagrams of an agent's history, and what is kept of each.
use Rattle.std.specs.Prelude.{◌≡◌, ◌≤◌, Some, List, ◌++◌, slice_get}
use Rattle.agent_spec.specs.Sources.{Source}
use Rattle.agent_spec.specs.Samples.{Sample, Datagram, Setup}
use Rattle.agent_spec.specs.Spelled.{Sender, sent_bytes}
use Rattle.account_spec.specs.Histories.{flow_sources, counter_sources}
use Rattle.true_samples.specs.declared.samples.IssuedSample.{IssuedSample}
use Rattle.true_samples.specs.Pairs.{Each}
use Rattle.true_samples.specs.States.{SentState}

-- the sources of a sub-agent by their places
abbrev pub sources_of : Setup → List Source
sources_of s = flow_sources s ++ counter_sources s

pub record IsIssued (s : Setup) (t : IssuedSample) (x : Sample) : Type 0 where
  pub source : slice_get (sources_of s) t.source ≡ Some x.turn.source
  pub generation : x.turn.generation ≡ t.generation
  pub counted : 1 ≤ t.generation
  pub number : x.number ≡ t.number
  pub pool : x.pool ≡ t.pool
  pub drops : x.drops ≡ t.drops

pub record IsSent (sender : Sender) (s : Setup) (t : SentState) (d : Datagram) : Type 0 where
  pub number : d.number ≡ t.number
  pub uptime : d.uptime ≡ t.uptime
  pub samples : Each (IsIssued s) t.samples d.samples
  pub bytes : t.bytes ≡ sent_bytes sender d
