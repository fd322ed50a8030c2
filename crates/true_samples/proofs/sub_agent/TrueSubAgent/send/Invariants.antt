-- The datagrams before this one have left.
use Rattle.std.proofs.Common.{◌≡◌, ◌<◌, List, drop, map}
use Rattle.agent_spec.specs.Samples.{Setup}
use Rattle.agent_spec.specs.Events.{Event}
use Rattle.agent_spec.specs.Boots.{happened, MayHappen}
use Rattle.agent_spec.specs.Spelled.{Sender, sent_bytes}
use Rattle.true_samples.specs.Words.{HasAddress}
use Rattle.true_samples.specs.Sends.{bytes_of, leaving, after_all}
use Rattle.true_samples.specs.Standing.{StandsFor}
use Rattle.true_samples.proofs.Sends.{IsSending}
use Rattle.true_samples.proofs.sub_agent.TrueSubAgent.send.Given as goal

abbrev pub invariant-loop-put : goal.invariant-loop-put
invariant-loop-put l = record {
  earlier : l.self.earlier ≡ l.initial.self.earlier;
  sending : (sender : Sender) (s : Setup) (events : List Event) (before : List (List Event)) → HasAddress sender.agent
      → map bytes_of l.puts ≡ map (sent_bytes sender) (leaving s l.uptime (happened s events)) → s.stage < 4294967296
      → MayHappen s events → StandsFor sender s l.initial.self events before
      → IsSending sender s l.uptime events (after_all (leaving s l.uptime (happened s events)) (happened s events))
      (drop l.put-index l.puts) l.self;
}
