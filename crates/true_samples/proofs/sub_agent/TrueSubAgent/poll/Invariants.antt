-- The sources before this place were polled, while polls were left.
use Rattle.std.proofs.Common.{◌≡◌, List, ◌∷◌, length}
use Rattle.wire_spec.specs.Shapes.{Tree}
use Rattle.agent_spec.specs.Samples.{Setup}
use Rattle.agent_spec.specs.Events.{Event, Poll}
use Rattle.agent_spec.specs.Boots.{happened}
use Rattle.agent_spec.specs.Spelled.{Sender}
use Rattle.true_samples.specs.Counts.{IsShort}
use Rattle.true_samples.specs.Standing.{StandsFor}
use Rattle.true_samples.proofs.Polls.{IsPolling}
use Rattle.true_samples.proofs.sub_agent.TrueSubAgent.poll.Given as goal

abbrev pub invariant-loop-place : goal.invariant-loop-place
invariant-loop-place l = record {
  earlier : l.self.earlier ≡ l.initial.self.earlier;
  many : length l.self.counters ≡ length l.initial.self.counters;
  polling : (sender : Sender) (s : Setup) (events : List Event) (before : List (List Event)) (readings : List Tree)
      → length readings ≡ l.count → IsShort s (Poll l.uptime readings ∷ events) → StandsFor sender s l.initial.self events before
      → IsPolling sender s l.uptime events (happened s (Poll l.uptime readings ∷ events)) l.place l.left l.self;
}
